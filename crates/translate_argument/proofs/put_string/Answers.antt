use Prim.Native.Nat.{◌+◌, ◌≤◌}
use mathlib.Core.Path.{◌≡◌, ◌∙◌}
use mathlib.Core.List.{[], ◌∷◌, append-nil}
use native.Mathlib.Omega.{arith}
use lib.ListN.{length, length-set}
use Rattle.rules.specs.Bytes.{part}
use Rattle.rules.specs.ProgramFormat.{entry_size}
use Rattle.rules.proofs.BytesLaws.{length_part}
use Rattle.byte_buffer.proofs.PutLaws.{in_a_row}
use Rattle.translate_argument.proofs.FillLaws.{unset-filled, set-fits, set-filled, length-kept}
use Rattle.translate_argument.proofs.put_string.Goals as goal
use Rattle.translate_argument.proofs.put_string.Goals.{Else-from-eq0}

whole : (c : Else-from-eq0) → length (part c.args.s.now c.args.from c.args.n) ≡ c.args.n
whole c =
    length_part c.args.s.now c.args.from c.args.n (c.requires.0 (omega (arith, c.if-from-eq0.false)))

fits : (c : Else-from-eq0) → c.args.to + entry_size + c.args.n ≤ length c.args.room.now
fits c = omega (arith, whole c, set-fits _ (λ b. b) _ _ _ _ c.if-from-eq0.false c.requires.2)

pub returns-then-from-eq0 : goal.returns-then-from-eq0
returns-then-from-eq0 c = unset-filled _ (λ b. b) _ _ _ _ c.if-from-eq0.true

pub bounds-room-to : goal.bounds-room-to
bounds-room-to c = omega (arith, fits (goal.at.bounds-room-to c).Else-from-eq0)

pub bounds-room-to-2 : goal.bounds-room-to-2
bounds-room-to-2 c = simp length-set (omega (arith, fits (goal.at.bounds-room-to-2 c).Else-from-eq0))

pub copy-requires : goal.copy-requires
copy-requires c =
    (c.requires.0 (omega (arith, c.if-from-eq0.false)), simp length-set (omega (arith, fits (goal.at.copy-requires c).Else-from-eq0)))

pub shape_of-room : goal.shape_of-room
shape_of-room c =
    length-kept c.args.room.now c.args.to c.args.key (c.args.to + 1) c.args.n (c.args.to + entry_size) (part c.args.s.now c.args.from c.args.n) _ c.copy.ensures

pub returns : goal.returns
returns c =
    set-filled _ (λ b. b) _ _ _ _ c.if-from-eq0.false _ (omega (arith, whole (goal.at.returns c).Else-from-eq0)) _
    (c.copy.ensures
    ∙ in_a_row c.args.room.now c.args.to (c.args.key ∷ []) ((c.args.n ∷ []) ∷ part c.args.s.now c.args.from c.args.n ∷ [])
    ∙ rw (append-nil (part c.args.s.now c.args.from c.args.n), whole (goal.at.returns c).Else-from-eq0))
