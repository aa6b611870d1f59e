use Prim.Native.Nat.{◌+◌, ◌-◌, ◌≤◌}
use mathlib.Core.Path.{◌∙◌}
use mathlib.Core.List.{[], ◌∷◌}
use native.Mathlib.Omega.{arith}
use lib.ListN.{length, length-set}
use Rattle.rules.specs.Bytes.{be4}
use Rattle.rules.specs.ProgramFormat.{entry_size, size_bytes}
use Rattle.byte_buffer.proofs.PutLaws.{in_a_row}
use Rattle.translate_argument.proofs.FillLaws.{unset-filled, set-fits, set-filled, length-kept}
use Rattle.translate_argument.proofs.put_size.Goals as goal
use Rattle.translate_argument.proofs.put_size.Goals.{Else-size-eq0}

fits : (c : Else-size-eq0) → c.args.to + entry_size + size_bytes ≤ length c.args.room.now
fits c = omega (arith, set-fits 12 be4 _ _ _ _ c.if-size-eq0.false c.requires)

pub returns-then-size-eq0 : goal.returns-then-size-eq0
returns-then-size-eq0 c = unset-filled 12 be4 _ _ _ _ c.if-size-eq0.true

pub bounds-room-to : goal.bounds-room-to
bounds-room-to c = omega (arith, fits (goal.at.bounds-room-to c).Else-size-eq0)

pub bounds-room-to-2 : goal.bounds-room-to-2
bounds-room-to-2 c = simp length-set (omega (arith, fits (goal.at.bounds-room-to-2 c).Else-size-eq0))

pub put_u32-requires : goal.put_u32-requires
put_u32-requires c = simp length-set (omega (arith, fits (goal.at.put_u32-requires c).Else-size-eq0))

pub shape_of-room : goal.shape_of-room
shape_of-room c =
    length-kept c.args.room.now c.args.to 12 (c.args.to + 1) size_bytes (c.args.to + entry_size) (be4 (c.args.size - 1)) _ c.put_u32.ensures

pub returns : goal.returns
returns c =
    set-filled 12 be4 _ _ _ _ c.if-size-eq0.false _ (omega arith) _
    (c.put_u32.ensures ∙ in_a_row c.args.room.now c.args.to (12 ∷ []) ((size_bytes ∷ []) ∷ be4 (c.args.size - 1) ∷ []))
