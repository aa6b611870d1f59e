-- What follows the items.
use Prim.Native.Nat.{ℕ, zero, suc, ◌+◌, ◌-◌, ◌≤◌, ◌<◌}
use mathlib.Core.Path.{◌≡◌, sym, ◌∙◌}
use mathlib.Core.List.{[]}
use lib.ListN.{length, take, drop}
use native.Mathlib.Omega.{arith}
use borrow.Author.Tests.{eq-eqb, ne_eqb}
use Rattle.text.specs.Text.{Bytes}
use Rattle.depot_argument_lines.proofs.ItemLaws.{from-drop}
use Rattle.depot_listing.specs.Listing.{after_items}

-- what follows all items follows those that are left
pub record Following (size : Bytes → ℕ) (count : ℕ) (s : Bytes) (n : ℕ) (rest : Bytes) : Type 0 where
  pub within : n ≤ count
  pub same : after_items size (count - n) rest ≡ after_items size count s

module _ (size : Bytes → ℕ) where
  after_none : (k : ℕ) (s : Bytes) → k ≡ 0 → after_items size k s ≡ s
  unfolding after_items
  after_none k s e = rw e

  after_missing : (k : ℕ) (s : Bytes) → 0 < k → size s ≡ 0 → after_items size k s ≡ []
  unfolding after_items
  after_missing zero s h e = absurd (none h)
    where
      none : 0 < 0 → ⊥
      none l = omega arith
  after_missing (suc k) s h e = rw (eq-eqb (size s) 0 e)

  after_more : (k : ℕ) (s : Bytes) → (size s ≡ 0 → ⊥) → after_items size (suc k) s ≡ after_items size k (drop (size s) s)
  unfolding after_items
  after_more k s e = rw (ne_eqb (size s) 0 e)

pub following_start : (size : Bytes → ℕ) (count : ℕ) (s : Bytes) → Following size count s 0 s
following_start size count s =
    let e : count - 0 ≡ count = omega arith in
    record { within = omega arith; same = rw e }

module _ {size : Bytes → ℕ} {count : ℕ} {s : Bytes} {n : ℕ} {rest : Bytes} (f : Following size count s n rest) where
  pub following_more : {k : ℕ} → n < count → k ≡ size rest → (k ≡ 0 → ⊥) → Following size count s (n + 1) (take (length rest - k) (drop k rest))
  following_more {k} h e z =
      let left : count - n ≡ suc (count - (n + 1)) = omega arith in
      record {
        within = omega arith;
        same = rw (from-drop rest k (size rest) e, ← after_more size (count - (n + 1)) rest (λ y. z (e ∙ y)), ← left) f.same;
      }

  pub following_missing : {k : ℕ} → n < count → k ≡ size rest → k ≡ 0 → [] ≡ after_items size count s
  following_missing h e z = sym (after_missing size (count - n) rest (omega arith) (sym e ∙ z)) ∙ f.same

  pub following_end : count ≤ n → rest ≡ after_items size count s
  following_end h = sym (after_none size (count - n) rest (omega arith)) ∙ f.same
