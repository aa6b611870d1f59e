-- The text of one slot more, and the parts of a slot.
use Prim.Native.Nat.{ℕ, ◌+◌, ◌-◌, ◌*◌, ◌≤◌, ◌<◌}
use mathlib.Core.Path.{◌≡◌, refl, sym}
use mathlib.Core.Bool.{Bool, true, false}
use native.Mathlib.Omega.{arith}
use lib.Dec.{leb}
use borrow.Author.Tests.{leb-true, leb-false}
use lib.ListN.{get_or, take, drop, length-take}
use lib.Seq.{take-take, take_all}
use Rattle.text.specs.Text.{Wrote, least}
use Rattle.text.proofs.TextLaws.{wrote_then}
use Rattle.text_pieces.proofs.PieceLaws.{lines_none, lines_next}
use Rattle.rules.specs.Bytes.{Bytes}
use Rattle.rules.specs.Limits.{limits}
use Rattle.rules.specs.Slots.{slot_bytes, id_from, image_from, digest_from, slot_at}
use Rattle.conformance_run_lines.specs.Lines.{name_text, image_text, slots_text}

module _ (b : Bytes) (at : ℕ) (room : Bytes) where
  pub slots-none : Wrote (slots_text b 0) at room at room
  unfolding slots_text
  slots-none = lines_none _ at room

  pub slots_next : (k : ℕ) {p : ℕ} {room₁ : Bytes} {q : ℕ} {room₂ : Bytes} {r : ℕ} {room₃ : Bytes} → Wrote (slots_text b k) at room p room₁ →
      Wrote (name_text b k) p room₁ q room₂ → Wrote (image_text b k) q room₂ r room₃ → Wrote (slots_text b (k + 1)) at room r room₃
  unfolding slots_text
  slots_next k f g h = lines_next _ k f (wrote_then g h)

take-least : (m n : ℕ) (l : Bytes) → take m (take n l) ≡ take (least m n) l
take-least m n l = go (leb m n) refl
  where
    few : m ≤ n → take m (take n l) ≡ take (least m n) l
    few h = let e : least m n ≡ m = omega arith in rw e (take-take m n l h)

    many : n < m → take m (take n l) ≡ take (least m n) l
    many h =
        let e : least m n ≡ n = omega arith in
        rw e (take_all m (take n l) (simp length-take (omega arith)))

    go : (t : Bool) → leb m n ≡ t → take m (take n l) ≡ take (least m n) l
    go true e = few (leb-true m n e)
    go false e = many (leb-false m n e)

module _ (b : Bytes) (k : ℕ) where
  pub name-part : (x n : ℕ) → x ≡ get_or b (slot_bytes * k) 0 → n ≡ least x limits.identifier →
      take (slot_bytes * k + id_from + n - (slot_bytes * k + id_from)) (drop (slot_bytes * k + id_from) b) ≡ (slot_at b k).id
  unfolding slot_at
  name-part x n q e =
      let d : slot_bytes * k + id_from + n - (slot_bytes * k + id_from) ≡ n = omega arith in
      rw (d, e, q) (sym (take-least (get_or b (slot_bytes * k) 0) limits.identifier (drop (slot_bytes * k + id_from) b)))

  pub digest-part : take (slot_bytes * k + (image_from + digest_from) + limits.digest - (slot_bytes * k + (image_from + digest_from)))
      (drop (slot_bytes * k + (image_from + digest_from)) b) ≡ (slot_at b k).digest
  unfolding slot_at
  digest-part =
      let d : slot_bytes * k + (image_from + digest_from) + limits.digest - (slot_bytes * k + (image_from + digest_from)) ≡ limits.digest = omega arith in
      rw d
