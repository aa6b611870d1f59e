use mathlib.Core.Path.{◌≡◌, ◌∙◌}
use mathlib.Core.List.{[], ◌∷◌, append-nil}
use native.Mathlib.Omega.{arith}
use lib.ListN.{length, length-set}
use lib.Seq.{length-sets}
use Rattle.rules.specs.Bytes.{part}
use Rattle.rules.specs.ProgramFormat.{NAME}
use Rattle.rules.proofs.BytesLaws.{length_part}
use Rattle.byte_buffer.proofs.PutLaws.{in_a_row}
use Rattle.translate_start.proofs.names.put_name.Goals as goal

pub bounds-room-to-2 : goal.bounds-room-to-2
bounds-room-to-2 c = simp length-set (omega arith)

pub bounds-room-to-3 : goal.bounds-room-to-3
bounds-room-to-3 c = simp length-set (omega arith)

pub bounds-room-to-4 : goal.bounds-room-to-4
bounds-room-to-4 c = simp length-set (omega arith)

pub shape_of-room : goal.shape_of-room
shape_of-room c = rw (c.copy.ensures, length-sets) (simp length-set)

pub returns : goal.returns
returns c =
    let id = part c.args.s.now c.args.from c.args.n in
    let l : length id ≡ c.args.n = length_part c.args.s.now c.args.from c.args.n (omega arith) in
    record {
      filled =
          c.copy.ensures
          ∙ in_a_row c.args.room.now c.args.to (0x53 ∷ []) ((0x50 ∷ []) ∷ (NAME ∷ []) ∷ (c.args.n ∷ []) ∷ id ∷ [])
          ∙ rw (append-nil id, l);
      next = omega (arith, l);
    }
