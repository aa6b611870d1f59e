-- Parts, and bytes written one after the other.
use Prim.Native.Nat.{ℕ, ◌+◌, ◌-◌, ◌≤◌, min}
use mathlib.Core.Path.{◌≡◌, refl, sym}
use mathlib.Core.List.{[], ◌∷◌, ◌++◌, append_assoc}
use native.Mathlib.Omega.{arith}
use native.Mathlib.Numerals.{add-one}
use lib.ListN.{length, drop, length-drop, drop_of_length-le}
use lib.Seq.{take-nil}
use Rattle.std.proofs.lemmas.List.{take_min}
use Rattle.text.specs.Text.{Bytes, Wrote, hex}
use Rattle.text.proofs.TextLaws.{wrote_none, wrote_then}
use Rattle.text_pieces.specs.Pieces.{between, spaced, lines}

module _ (s : Bytes) (from to : ℕ) where
  pub between_none : to ≤ from → between s 0 0 ≡ between s from to
  unfolding between
  between_none h =
      let none : to - from ≡ 0 = omega arith in
      rw none

  pub between_past : length s ≤ from → between s 0 0 ≡ between s from to
  unfolding between
  between_past h = rw (drop_of_length-le s h) (sym (take-nil (to - from)))

  -- where the bytes end in the part, the part ends there
  pub between-least : (e : ℕ) → e ≡ min to (length s) → between s from e ≡ between s from to
  unfolding between
  between-least e h =
      let short : e - from ≡ min (to - from) (length (drop from s)) = omega (arith, length-drop from s) in
      rw short (take_min (to - from) (drop from s))

pub spaced-append : (a b : Bytes) → spaced (a ++ b) ≡ spaced a ++ spaced b
unfolding spaced
spaced-append [] b = refl
spaced-append (x ∷ a) b = rw (spaced-append a b) (sym (append_assoc (32 ∷ hex (x ∷ [])) (spaced a) (spaced b)))

pub spaced-none : (at : ℕ) (room : Bytes) → Wrote (spaced []) at room at room
unfolding spaced
spaced-none at room = wrote_none at room

pub lines_none : (f : ℕ → Bytes) (at : ℕ) (room : Bytes) → Wrote (lines f 0) at room at room
unfolding lines
lines_none f at room = wrote_none at room

-- the text of one number more
pub lines_next : (f : ℕ → Bytes) (i : ℕ) {at : ℕ} {room : Bytes} {p : ℕ} {room₁ : Bytes} {q : ℕ} {room₂ : Bytes} → Wrote (lines f i) at room p room₁ → Wrote (f i) p room₁ q room₂ →
    Wrote (lines f (i + 1)) at room q room₂
unfolding lines
lines_next f i g h = rw (add-one i) (wrote_then g h)

pub lines-all : (f : ℕ → Bytes) (i n : ℕ) {at : ℕ} {room : Bytes} {p : ℕ} {room₁ : Bytes} → i ≤ n → n ≤ i → Wrote (lines f i) at room p room₁ → Wrote (lines f n) at room p room₁
lines-all f i n a b w =
    let e : i ≡ n = omega arith in
    rw e at w
