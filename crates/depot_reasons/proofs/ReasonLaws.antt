-- The first number that meets a test, as a search finds it; slots with their twins.
use Prim.Native.Nat.{ℕ, suc, ◌+◌, ◌-◌, ◌/◌, ◌≤◌, ◌<◌}
use mathlib.Core.Path.{◌≡◌, refl, sym, ap, ◌∙◌}
use mathlib.Core.Bool.{Bool, true, false, not}
use native.Mathlib.Omega.{arith}
use native.Mathlib.Numerals.{add-one}
use lib.ListN.{length}
use borrow.Author.Tests.{lt-ltb, le-ltb}
use Rattle.std.specs.Prelude.{Option, None, Some, option_map}
use Rattle.std.specs.Option.{is_some, is_none}
use Rattle.rules.specs.Bytes.{Bytes}
use Rattle.rules.specs.Slots.{slot_bytes, slot_at}
use Rattle.depot_slot_names.specs.Names.{next_slot}
use Rattle.depot_slot_names.proofs.NameLaws.{some-next, none-next}
use Rattle.depot_reasons.specs.First.{first}
use Rattle.depot_reasons.specs.BadSlots.{twin_of, with_twin, is_twice}

pub first-start : (test : ℕ → Bool) (n : ℕ) → first test n 0 ≡ first test (n - 0) 0
first-start test n = let e : n - 0 ≡ n = omega arith in rw e

-- r is the first of n, and none of the k passed is
module _ (test : ℕ → Bool) (n k : ℕ) {r : Option ℕ} (q : r ≡ first test (n - k) k) where
  pub first_hit : k < n → test k ≡ true → Some k ≡ r
  unfolding first
  first_hit l e = sym (q ∙ go)
    where
      go : first test (n - k) k ≡ Some k
      go = let m : n - k ≡ suc (n - (k + 1)) = omega arith in rw (m, e)

  pub first_next : k < n → test k ≡ false → r ≡ first test (n - (k + 1)) (k + 1)
  unfolding first
  first_next l e = q ∙ go
    where
      go : first test (n - k) k ≡ first test (n - (k + 1)) (k + 1)
      go = let m : n - k ≡ suc (n - (k + 1)) = omega arith in rw (m, e, add-one k)

  pub first-end : n ≤ k → None ≡ r
  unfolding first
  first-end l = sym (q ∙ go)
    where
      go : first test (n - k) k ≡ None
      go = let m : n - k ≡ 0 = omega arith in rw m

module _ (b : Bytes) (i n : ℕ) (e : n ≡ length b / slot_bytes) where
  pub twin_hit : (k : ℕ) → Some k ≡ next_slot (slot_at b i).id b (i + 1) → (k ≡ twin_of b i) × (is_twice b n i ≡ true)
  twin_hit k q = let (is, below) = some-next _ b _ k q in (is, lt-ltb _ _ (omega (arith, is, below, e)))

  pub twin_none : None ≡ next_slot (slot_at b i).id b (i + 1) → is_twice b n i ≡ false
  twin_none q = le-ltb _ _ (omega (arith, none-next _ b _ q, e))

-- the slot that has a twin
module _ (b : Bytes) where
  pub twice_some : (o : Option ℕ) (i k : ℕ) → Some (i, k) ≡ option_map (with_twin b) o → (Some i ≡ o) × (k ≡ twin_of b i)
  twice_some None i k q = cc
  twice_some (Some j) i k q =
      let (is, has) = pair (j, twin_of b j) q in
      (ap Some is, has ∙ ap (twin_of b) (sym is))
    where
      pair : (p : ℕ × ℕ) → Some (i, k) ≡ Some p → (i ≡ p.0) × (k ≡ p.1)
      pair p e = let is : (i, k) ≡ p = cc in (ap (λ (x : ℕ × ℕ). x.0) is, ap (λ (x : ℕ × ℕ). x.1) is)

  pub twice_none : (o : Option ℕ) → None ≡ option_map (with_twin b) o → None ≡ o
  twice_none None q = refl
  twice_none (Some j) q = cc

pub not-some : (o : Option ℕ) (r : Bool) → is_some o ≡ not r → r ≡ is_none o
not-some o true e = rw e refl
not-some o false e = rw e refl
