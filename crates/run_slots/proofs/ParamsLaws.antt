-- Parameters as numbers mean what the rules say of parameters: one law for each thing that is done with them.
use Prim.Native.Nat.{ℕ, zero, suc, ◌+◌, ◌-◌, ◌≤◌, ◌<◌}
use mathlib.Core.Path.{◌≡◌, refl, ap, ◌∙◌}
use mathlib.Core.List.{List, [], ◌∷◌, map}
use mathlib.Core.Bool.{Bool, true, false, cond}
use mathlib.Core.Logic.{◌⊎◌, inl, inr}
use native.Mathlib.Omega.{arith}
use native.Mathlib.Nat.{add-zero, zero-add}
use lib.Dec.{ltb, eqb}
use lib.ListN.{length, get_or, set, replicate, length-set}
use lib.Seq.{sets, get_or-set_same, get_or-set_other}
use borrow.Author.Tests.{ltb-true, ltb-false, eqb-true, eqb-false}
use Rattle.rules.specs.Bytes.{Bytes, part}
use Rattle.rules.specs.Limits.{limits, param_numbers, memory_numbers}
use Rattle.rules.specs.Commands as Rules
use Rattle.rules.specs.Slots.{numbers}
use Rattle.run_slots.proofs.NumbersLaws.{get_or-numbers, set-numbers}
use Rattle.run_slots.specs.declared.params.Params.{Params}
use Rattle.run_slots.specs.Params.{params_from, params_at, stored, optional, meaning, over_params, Unset, SlotsKept, params_in, Fit, FitAll}

-- a parameter of two numbers, of which the first tells whether it is set
choose : {A : Type 0} (f : ℕ → ℕ → A) (x x' y y' : ℕ) (t : Bool) → eqb x 0 ≡ t →
    optional (cond t y x) (f (cond t y x) (cond t y' x')) ≡ Rules.or_else (optional x (f x x')) (optional y (f y y'))
choose f x x' y y' true e = rw e
choose f x x' y y' false e = rw e

pub meaning-over : (s : Bytes) (a b : Params) → meaning s (over_params a b) ≡ Rules.over (meaning s a) (meaning s b)
unfolding meaning
meaning-over s a b =
    rw (
      choose (λ p n. part s p n) a.uri a.length b.uri b.length (eqb a.uri 0) refl,
      choose (λ p n. p - 1) a.source 0 b.source 0 (eqb a.source 0) refl,
      choose (λ p n. part s p limits.digest) a.digest 0 b.digest 0 (eqb a.digest 0) refl,
      choose (λ p n. p - 1) a.size 0 b.size 0 (eqb a.size 0) refl,
    )

pub params-at : (s : Bytes) (w : List ℕ) (n i : ℕ) → i < n → get_or (params_in s w n) i Rules.unset ≡ meaning s (params_at w i)
unfolding params_in
params-at s w n i h = rw zero-add at (get_or-numbers (λ k. meaning s (params_at w k)) Rules.unset n 0 i h)

-- stores in a row: an element among them, and one before or after them
get_d_beside : (l : List ℕ) (i : ℕ) (vs : List ℕ) (j : ℕ) → (j < i) ⊎ (i + length vs ≤ j) → get_or (sets l i vs) j 0 ≡ get_or l j 0
get_d_beside l i [] j h = refl
get_d_beside l i (a ∷ vs) j (inl h) = get_d_beside (set l i a) (suc i) vs j (inl (omega arith)) ∙ get_or-set_other l i j a 0 (λ e. omega arith)
get_d_beside l i (a ∷ vs) j (inr h) = get_d_beside (set l i a) (suc i) vs j (inr (omega arith)) ∙ get_or-set_other l i j a 0 (λ e. omega arith)

pub get_or-among : (l : List ℕ) (i : ℕ) (vs : List ℕ) (k : ℕ) → k < length vs → i + length vs ≤ length l → get_or (sets l i vs) (i + k) 0 ≡ get_or vs k 0
get_or-among l i [] k h f = absurd (omega arith)
get_or-among l i (a ∷ vs) zero h f =
    rw (add-zero i) (get_d_beside (set l i a) (suc i) vs i (inl (omega arith)) ∙ get_or-set_same l i a 0 (omega arith))
get_or-among l i (a ∷ vs) (suc k) h f =
    let e : i + suc k ≡ suc i + k = omega arith in
    rw e (get_or-among (set l i a) (suc i) vs k (omega arith) (omega (arith, length-set l i a)))

module _ (w : List ℕ) (i : ℕ) (p : Params) where
  abbrev five : List ℕ
  five = p.uri ∷ p.length ∷ p.source ∷ p.digest ∷ p.size ∷ []

  module _ (n : length w ≡ memory_numbers) (h : i < limits.components) where
    among : (k : ℕ) → k < param_numbers → get_or (sets w (params_from i) five) (params_from i + k) 0 ≡ get_or five k 0
    among k l = get_or-among w (params_from i) five k l (omega arith)

    pub params_same : params_at (stored w i p) i ≡ p
    unfolding stored
    params_same =
        rw (rw (add-zero (params_from i)) at (among 0 (omega arith)), among 1 (omega arith), among 2 (omega arith), among 3 (omega arith), among 4 (omega arith))

  module _ (j : ℕ) (d : j ≡ i → ⊥) where
    beside : (k : ℕ) → k < param_numbers → get_or (sets w (params_from i) five) (params_from j + k) 0 ≡ get_or w (params_from j + k) 0
    beside k l = get_d_beside w (params_from i) five (params_from j + k) (go (ltb j i) refl)
      where
        go : (t : Bool) → ltb j i ≡ t → (params_from j + k < params_from i) ⊎ (params_from i + param_numbers ≤ params_from j + k)
        go true e = let m : j < i = ltb-true j i e in inl (omega arith)
        go false e = let m : i < j = omega (arith, ltb-false j i e, d) in inr (omega arith)

    pub params-other : params_at (stored w i p) j ≡ params_at w j
    unfolding stored
    params-other =
        rw (rw (add-zero (params_from j)) at (beside 0 (omega arith)), beside 1 (omega arith), beside 2 (omega arith), beside 3 (omega arith), beside 4 (omega arith))

pub params-stored : (s : Bytes) (w : List ℕ) (n i : ℕ) (p : Params) → length w ≡ memory_numbers → n ≤ limits.components → i < n →
    params_in s (stored w i p) n ≡ set (params_in s w n) i (meaning s p)
unfolding params_in
params-stored s w n i p l m h =
    set-numbers (λ k. meaning s (params_at w k)) (λ k. meaning s (params_at (stored w i p) k)) n 0 i h
    (λ j d. ap (meaning s) (params-other w i p j (λ e. d (omega arith))))
    ∙ rw (zero-add i, params_same w i p l (omega arith))

module _ (s : Bytes) (n : ℕ) where
  either : (P : ℕ → Type 0) (t : Bool) (x y : ℕ) → P x → P y → P (cond t y x)
  either P true x y p q = q
  either P false x y p q = p

  pub fit-over : (a b : Params) → Fit s n a → Fit s n b → Fit s n (over_params a b)
  fit-over a b f g =
      record {
        source = either (λ x. x ≤ n) (eqb a.source 0) a.source b.source f.source g.source;
        digest = either (λ x. 0 < x → x + limits.digest ≤ length s) (eqb a.digest 0) a.digest b.digest f.digest g.digest;
      }

  pub fit-stored : (w : List ℕ) (i : ℕ) (p : Params) → length w ≡ memory_numbers → i < limits.components → FitAll s n w → Fit s n p → FitAll s n (stored w i p)
  fit-stored w i p l h f g j k = go (eqb j i) refl
    where
      go : (t : Bool) → eqb j i ≡ t → Fit s n (params_at (stored w i p) j)
      go true e = let q : j ≡ i = eqb-true j i e in rw (q, params_same w i p l h) g
      go false e = rw (params-other w i p j (eqb-false j i e)) (f j k)

-- numbers that are all 0
pub zeros : (m j : ℕ) → ◌≡◌ {A = ℕ} (get_or (replicate m 0) j 0) 0
zeros zero j = refl
zeros (suc m) zero = refl
zeros (suc m) (suc j) = zeros m j

-- the numbers of slots are kept
pub stored-kept : (w : List ℕ) (i : ℕ) (p : Params) → SlotsKept w (stored w i p)
unfolding stored
stored-kept w i p j h = get_d_beside w (params_from i) (five w i p) j (inl (omega arith))

-- nothing is set
module _ (w : List ℕ) (u : Unset w) where
  unset-at : (i : ℕ) → params_at w i ≡ record { uri = 0; length = 0; source = 0; digest = 0; size = 0 }
  unset-at i = rw (u (params_from i) (omega arith), u _ (at 1), u _ (at 2), u _ (at 3), u _ (at 4))
    where
      at : (k : ℕ) → limits.components ≤ params_from i + k
      at k = omega arith

  meaning-start : (s : Bytes) (i : ℕ) → meaning s (params_at w i) ≡ Rules.unset
  unfolding meaning
  meaning-start s i = ap (meaning s) (unset-at i)

  pub params-start : (s : Bytes) (n : ℕ) → params_in s w n ≡ replicate n Rules.unset
  unfolding params_in
  params-start s n = go n 0
    where
      go : (n k : ℕ) → map (λ k. meaning s (params_at w k)) (numbers n k) ≡ replicate n Rules.unset
      go zero k = refl
      go (suc n) k = rw (meaning-start s k, go n (suc k))

  pub fit-start : (s : Bytes) (n : ℕ) → FitAll s n w
  fit-start s n i h = rw (unset-at i) (record { source = omega arith; digest = λ l. omega arith })
