-- The image that an answer leaves in a slot, and bytes put over a part.
use Prim.Native.Nat.{ℕ, ◌+◌, ◌-◌, ◌≤◌}
use mathlib.Core.Path.{◌≡◌, refl, sym, ap}
use mathlib.Core.List.{[], ◌∷◌, append_assoc}
use native.Mathlib.Omega.{arith}
use lib.ListN.{length, set}
use lib.Seq.{take_all, sets}
use borrow.Rule.Slice.PartMut.{put_mid}
use Rattle.std.proofs.lemmas.List.Edits.{sets-eq}
use Rattle.std.proofs.lemmas.List.{drop-drop}
use Rattle.rules.specs.Bytes.{Bytes, part}
use Rattle.rules.specs.Slots.{size_from, answer_bytes}
use Rattle.rules.proofs.BytesLaws.{length_part}

-- an answer with its first byte, the status, made 1
pub image_of_answer : (x : Bytes) → length x ≡ answer_bytes → set x 0 1 ≡ 1 ∷ part x size_from (answer_bytes - size_from)
image_of_answer [] h = absurd (omega arith)
image_of_answer (a ∷ x) h = ap (λ (y : Bytes). 1 ∷ y) (sym (take_all (answer_bytes - size_from) x (omega arith)))

pub answer-image : (b : Bytes) (at : ℕ) → at + answer_bytes ≤ length b → set (part b at answer_bytes) 0 1 ≡ 1 ∷ part (part b at answer_bytes) size_from (answer_bytes - size_from)
answer-image b at h = image_of_answer (part b at answer_bytes) (length_part b at answer_bytes h)

-- bytes put over those of a part
pub put_mid_sets : (at n : ℕ) (b x : Bytes) → n ≡ length x → at + length x ≤ length b → put_mid at n b x ≡ sets b at x
put_mid_sets at n b x e l = rw (e, sets-eq x b at l, drop-drop (length x) at b, append_assoc) refl
