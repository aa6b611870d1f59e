-- Parts one after the other.
use Prim.Native.Nat.{ℕ, zero, suc, ◌-◌, ◌≤◌, ◌<◌}
use mathlib.Core.Path.{◌≡◌, refl, sym, ap, ◌∙◌}
use mathlib.Core.List.{[], ◌∷◌, ◌++◌, append_assoc, append-nil}
use mathlib.Core.Bool.{Bool, true, false, cond, ◌&&◌}
use Rattle.std.specs.List.{list_all}
use lib.Dec.{eqb, ltb, leb}
use lib.ListN.{length}
use borrow.Author.Tests.{lt-leb, le-leb, ltb-true, ltb-false, eq-eqb, ne_eqb}
use native.Mathlib.Omega.{arith}
use Rattle.rules.specs.Bytes.{Bytes}
use Rattle.rules.specs.Cbor.{BYTES}
use Rattle.text.specs.Text.{Wrote}
use Rattle.text.proofs.TextLaws.{wrote_none, wrote_then, wrote-length}
use Rattle.depot_identifiers.specs.Identifier.{all_print, prints, part_text, parts_text, strings, one_prints, string_at, bytes_of}

-- a byte that prints as it is
abbrev pub printable : ℕ → Bool
printable b = leb 32 b && leb b 126

pub all_print-is : (s : Bytes) → list_all printable s ≡ all_print s
unfolding all_print
all_print-is [] = refl
all_print-is (b ∷ s) = go (all_print-is s) (ltb b 32) refl (ltb 126 b) refl
  where
    go : list_all printable s ≡ all_print s → (l : Bool) → ltb b 32 ≡ l → (m : Bool) → ltb 126 b ≡ m → list_all printable (b ∷ s) ≡ cond l false (cond m false (all_print s))
    go _ true p m q = let h : b < 32 = ltb-true b 32 p in rw (lt-leb 32 b h)
    go _ false p true q = let h : 32 ≤ b = ltb-false b 32 p in let k : 126 < b = ltb-true 126 b q in rw (le-leb 32 b h, lt-leb b 126 k)
    go e false p false q = let h : 32 ≤ b = ltb-false b 32 p in let k : b ≤ 126 = ltb-false 126 b q in rw (le-leb 32 b h, le-leb b 126 k) e

not_some : 0 < 0 → ⊥
not_some h = omega arith

not_none : (k : ℕ) → suc k ≤ 0 → ⊥
not_none k h = omega arith

below : (n : ℕ) → suc n - 1 ≡ n
below n = omega arith

module _ (s : Bytes) where
  pub strings-none : (k at : ℕ) → k ≤ 0 → strings s k at ≡ eqb at (length s)
  unfolding strings
  strings-none zero at h = refl
  strings-none (suc k) at h = absurd (not_none k h)

  pub strings-next : (k j at : ℕ) → k ≡ suc j → (string_at s at).kind ≡ BYTES → strings s k at ≡ strings s j (string_at s at).after
  unfolding strings
  strings-next k j at h e = rw (h, eq-eqb (string_at s at).kind BYTES e)

  pub strings-other : (k at : ℕ) → 0 < k → ((string_at s at).kind ≡ BYTES → ⊥) → strings s k at ≡ false
  unfolding strings
  strings-other zero at h e = absurd (not_some h)
  strings-other (suc k) at h e = rw (ne_eqb (string_at s at).kind BYTES e)

  pub prints-none : (k at : ℕ) → k ≤ 0 → one_prints s k at ≡ false
  unfolding one_prints
  prints-none zero at h = refl
  prints-none (suc k) at h = absurd (not_none k h)

  pub prints-here : (k at : ℕ) → 0 < k → prints (bytes_of s at) ≡ true → one_prints s k at ≡ true
  unfolding one_prints
  prints-here zero at h e = absurd (not_some h)
  prints-here (suc k) at h e = rw e

  pub prints-next : (k j at : ℕ) → k ≡ suc j → prints (bytes_of s at) ≡ false → one_prints s k at ≡ one_prints s j (string_at s at).after
  unfolding one_prints
  prints-next k j at h e = rw (h, e)

  pub parts_none : (k at : ℕ) → k ≤ 0 → parts_text s k at ≡ []
  unfolding parts_text
  parts_none zero at h = refl
  parts_none (suc k) at h = absurd (not_none k h)

  pub parts_next : (k at : ℕ) → 0 < k → parts_text s k at ≡ part_text (k - 1) (bytes_of s at) ++ parts_text s (k - 1) (string_at s at).after
  unfolding parts_text
  parts_next zero at h = absurd (not_some h)
  parts_next (suc k) at h = rw (below k)

-- what was written so far, and what is left, make the whole
pub record Rest (whole : Bytes) (at : ℕ) (room left : Bytes) (to : ℕ) (room' : Bytes) : Type 0 where
  pub done : Bytes
  pub wrote : Wrote done at room to room'
  pub text : whole ≡ done ++ left

pub rest-start : (whole : Bytes) (at : ℕ) (room : Bytes) → Rest whole at room whole at room
rest-start whole at room = record { done = []; wrote = wrote_none at room; text = refl }

module _ {whole : Bytes} {at : ℕ} {room : Bytes} {left : Bytes} {to : ℕ} {room₁ : Bytes} (l : Rest whole at room left to room₁) where
  pub rest-length : length room₁ ≡ length room
  rest-length = wrote-length l.wrote

  pub rest_more : {b more : Bytes} {q : ℕ} {room₂ : Bytes} → left ≡ b ++ more → Wrote b to room₁ q room₂ → Rest whole at room more q room₂
  rest_more {b} {more} e w =
      record { done = l.done ++ b; wrote = wrote_then l.wrote w; text = l.text ∙ ap (λ (x : Bytes). l.done ++ x) e ∙ sym (append_assoc l.done b more) }

  pub rest-done : left ≡ [] → Wrote whole at room to room₁
  rest-done e =
      let t : whole ≡ l.done = l.text ∙ ap (λ (x : Bytes). l.done ++ x) e ∙ append-nil l.done in
      rw t l.wrote
