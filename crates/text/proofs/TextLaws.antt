-- What is written one after the other, and where a number first stands.
use Prim.Native.Nat.{ℕ, zero, suc, ◌+◌, ◌-◌, ◌≤◌, ◌<◌}
use mathlib.Core.Path.{◌≡◌, refl, sym, ap, ◌∙◌}
use mathlib.Core.List.{[], ◌∷◌, ◌++◌}
use mathlib.Core.Bool.{Bool, true, false}
use lib.Dec.{leb}
use borrow.Author.Tests.{leb-true, leb-false, eq-eqb, ne_eqb}
use Rattle.std.specs.Prelude.{Option, Some, None, MatchOption, HoldsAt, ◌≢◌}
use Rattle.std.specs.List.{AllWithin}
use Rattle.std.specs.Option.{unwrap_or}
use Rattle.std.proofs.lemmas.Iterator.{index_from_first}
use native.Mathlib.Omega.{arith}
use native.Mathlib.Numerals.{add-one}
use lib.ListN.{length, take, get_or, length-append, replicate}
use lib.Seq.{sets, set_out, length-sets, take-suc, take_all}
use Rattle.rules.proofs.BytesLaws.{put-append}
use Rattle.text.specs.Text.{Bytes, Wrote, least, position}

pub sets_past : (r : Bytes) (i : ℕ) (a : Bytes) → length r ≤ i → sets r i a ≡ r
sets_past r i [] h = refl
sets_past r i (x ∷ a) h = rw (set_out r i x h) (sets_past r (suc i) a (omega arith))

pub wrote_none : (at : ℕ) (room : Bytes) → Wrote [] at room at room
wrote_none at room = record { filled = refl; next = omega arith }

pub wrote-length : {b : Bytes} {at : ℕ} {room : Bytes} {r : ℕ} {room' : Bytes} → Wrote b at room r room' → length room' ≡ length room
wrote-length {b} {at} {room} w = rw w.filled (length-sets room at b)

least_fits : (at a b len : ℕ) → at + a ≤ len → at + a + least b (len - (at + a)) ≡ at + least (a + b) (len - at)
least_fits at a b len h = omega arith

-- the place after what does not fit is no place of the room
least_past : (at a len : ℕ) → len < at + a → len ≤ at + least a (len - at)
least_past at a len h = omega arith

least_more : (at a b len : ℕ) → len < at + a → at + least a (len - at) ≡ at + least (a + b) (len - at)
least_more at a b len h = omega arith

least-none : (p b len : ℕ) → len ≤ p → p + least b (len - p) ≡ p
least-none p b len h = omega arith

pub wrote_then : {a b : Bytes} {at : ℕ} {room : Bytes} {p : ℕ} {room₁ : Bytes} {q : ℕ} {room₂ : Bytes} → Wrote a at room p room₁ → Wrote b p room₁ q room₂ →
    Wrote (a ++ b) at room q room₂
wrote_then {a} {b} {at} {room} {p} {room₁} {q} {room₂} f g =
    go (leb (at + length a) (length room)) refl
  where
    same : length room₁ ≡ length room
    same = wrote-length f

    fits : at + length a ≤ length room → Wrote (a ++ b) at room q room₂
    fits h =
        let e : p ≡ at + length a = omega (arith, f.next) in
        record { filled = g.filled ∙ (rw (f.filled, e) (put-append room at a b)); next = g.next ∙ (rw (same, e, length-append a b) (least_fits at (length a) (length b) (length room) h)) }

    past : length room < at + length a → Wrote (a ++ b) at room q room₂
    past h =
        let after : length room ≤ p = rw f.next (least_past at (length a) (length room) h) in
        record {
          filled =
              g.filled ∙ sets_past room₁ p b (rw same after) ∙ f.filled
              ∙ sym (sym (put-append room at a b) ∙ sets_past (sets room at a) (at + length a) b (rw (length-sets room at a) (omega arith)));
          next = g.next ∙ (rw (same, length-append a b) (least-none p (length b) (length room) after ∙ f.next ∙ least_more at (length a) (length b) (length room) h));
        }

    go : (t : Bool) → leb (at + length a) (length room) ≡ t → Wrote (a ++ b) at room q room₂
    go true e = fits (leb-true _ _ e)
    go false e = past (leb-false _ _ e)

-- One byte more of s, of which g gives the text; of bytes in a row g gives the texts in a row.
pub each_next : (g : Bytes → Bytes) → ((a b : Bytes) → g (a ++ b) ≡ g a ++ g b) → (s : Bytes) (i : ℕ) {at : ℕ} {room : Bytes} {p : ℕ} {room₁ : Bytes} {q : ℕ} {room₂ : Bytes} →
    i < length s → Wrote (g (take i s)) at room p room₁ → Wrote (g (get_or s i 0 ∷ [])) p room₁ q room₂ → Wrote (g (take (i + 1) s)) at room q room₂
each_next g row s i h f x = rw (add-one i, take-suc s i 0 h, row (take i s) (get_or s i 0 ∷ [])) (wrote_then f x)

-- and all of them
pub each_all : (g : Bytes → Bytes) (s : Bytes) (i : ℕ) {at : ℕ} {room : Bytes} {p : ℕ} {room₁ : Bytes} → length s ≤ i → Wrote (g (take i s)) at room p room₁ →
    Wrote (g s) at room p room₁
each_all g s i h f = rw (take_all i s h) at f

-- one more of the same byte
pub wrote-again : (x n : ℕ) {at : ℕ} {room : Bytes} {p : ℕ} {room₁ : Bytes} {q : ℕ} {room₂ : Bytes} → Wrote (replicate n x) at room p room₁ →
    Wrote (x ∷ []) p room₁ q room₂ → Wrote (replicate (n + 1) x) at room q room₂
wrote-again x n f g = rw (add-one n, ← more x n) (wrote_then f g)
  where
    more : (x n : ℕ) → replicate n x ++ (x ∷ []) ≡ x ∷ replicate n x
    more x zero = refl
    more x (suc n) = ap (λ (l : Bytes). x ∷ l) (more x n)

-- a first place, or the length where there is none
pub first_within : (Yes No : ℕ → Type 0) (s : Bytes) (r : Option ℕ) → MatchOption r (AllWithin No s 0 (length s)) (λ i. (i < length s) × HoldsAt Yes s i × AllWithin No s 0 i) →
    unwrap_or r (length s) ≤ length s
first_within Yes No s None h = omega arith
first_within Yes No s (Some i) h = omega (arith, h.0)

-- what `position` followed by `unwrap_or` gives
pub position_is : (n : ℕ) (s : Bytes) (r : Option ℕ) →
    MatchOption r (AllWithin (λ b. b ≢ n) s 0 (length s)) (λ i. (i < length s) × HoldsAt (λ b. b ≡ n) s i × AllWithin (λ b. b ≢ n) s 0 i) →
    (unwrap_or r (length s) ≡ position n s) × (unwrap_or r (length s) ≤ length s)
unfolding position
position_is n s r h = (sym (index_from_first (position n) _ _ refl (λ x xs e. rw (eq-eqb x n e)) (λ x xs e. rw (ne_eqb x n e, add-one (position n xs))) s r h), first_within (λ b. b ≡ n) (λ b. b ≢ n) s r h)
