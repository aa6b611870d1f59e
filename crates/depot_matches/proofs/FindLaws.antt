-- The first item that passes a test, among items one after the other.
use Prim.Native.Nat.{ℕ, suc, ◌+◌, ◌-◌, ◌≤◌, ◌<◌}
use mathlib.Core.Path.{◌≡◌, sym, ◌∙◌}
use mathlib.Core.Bool.{Bool, true, false}
use mathlib.Core.List.{[]}
use lib.ListN.{length, take, drop}
use native.Mathlib.Omega.{arith}
use borrow.Author.Tests.{eq-eqb, ne_eqb}
use Rattle.rules.specs.Bytes.{Bytes}
use Rattle.depot_argument_lines.proofs.ItemLaws.{from-drop}
use Rattle.depot_matches.specs.Values.{first_in}

-- none of n items passed the test: what is found among all is found among those that are left
pub record Seeking (size : Bytes → ℕ) (test : Bytes → Bool) (has : Bytes → Bytes) (count : ℕ) (s : Bytes) (n : ℕ) (rest : Bytes) : Type 0 where
  pub same : first_in size test has (count - n) rest ≡ first_in size test has count s

module _ (size : Bytes → ℕ) (test : Bytes → Bool) (has : Bytes → Bytes) where
  first-none : (k : ℕ) (s : Bytes) → k ≡ 0 → first_in size test has k s ≡ []
  unfolding first_in
  first-none k s e = rw e

  first_missing : (k : ℕ) (s : Bytes) → size s ≡ 0 → first_in size test has (suc k) s ≡ []
  unfolding first_in
  first_missing k s e = rw (eq-eqb (size s) 0 e)

  first_found : (k : ℕ) (s : Bytes) → (size s ≡ 0 → ⊥) → test s ≡ true → first_in size test has (suc k) s ≡ has s
  unfolding first_in
  first_found k s e t = rw (ne_eqb (size s) 0 e, t)

  first_more : (k : ℕ) (s : Bytes) → (size s ≡ 0 → ⊥) → test s ≡ false → first_in size test has (suc k) s ≡ first_in size test has k (drop (size s) s)
  unfolding first_in
  first_more k s e t = rw (ne_eqb (size s) 0 e, t)

pub seeking_start : (size : Bytes → ℕ) (test : Bytes → Bool) (has : Bytes → Bytes) (count : ℕ) (s : Bytes) → Seeking size test has count s 0 s
seeking_start size test has count s =
    let e : count - 0 ≡ count = omega arith in
    record { same = rw e }

module _ {size : Bytes → ℕ} {test : Bytes → Bool} {has : Bytes → Bytes} {count : ℕ} {s : Bytes} {n : ℕ} {rest : Bytes}
    (f : Seeking size test has count s n rest) (h : n < count) {k : ℕ} (e : k ≡ size rest) where
  left : count - n ≡ suc (count - (n + 1))
  left = omega arith

  pub seeking_missing : k ≡ 0 → [] ≡ first_in size test has count s
  seeking_missing z = rw (← f.same, left) (sym (first_missing size test has (count - (n + 1)) rest (sym e ∙ z)))

  pub seeking_found : (k ≡ 0 → ⊥) → test rest ≡ true → has rest ≡ first_in size test has count s
  seeking_found z t = rw (← f.same, left) (sym (first_found size test has (count - (n + 1)) rest (λ y. z (e ∙ y)) t))

  pub seeking_more : (k ≡ 0 → ⊥) → test rest ≡ false → Seeking size test has count s (n + 1) (take (length rest - k) (drop k rest))
  seeking_more z t =
      record { same = rw (from-drop rest k (size rest) e, ← first_more size test has (count - (n + 1)) rest (λ y. z (e ∙ y)) t, ← left) f.same }

pub seeking_end : {size : Bytes → ℕ} {test : Bytes → Bool} {has : Bytes → Bytes} {count : ℕ} {s : Bytes} {n : ℕ} {rest : Bytes} →
    Seeking size test has count s n rest → count ≤ n → [] ≡ first_in size test has count s
seeking_end {size} {test} {has} {count} {s} {n} {rest} f h = sym (first-none size test has (count - n) rest (omega arith)) ∙ f.same
