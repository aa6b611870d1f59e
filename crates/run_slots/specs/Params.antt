-- The parameters of components as numbers, and what they mean.
use Rattle.std.specs.Prelude.{ℕ, ◌+◌, ◌-◌, ◌*◌, ◌≤◌, ◌<◌, ◌≡◌, List, [], ◌∷◌, map, cond, eqb, length, get_or}
use Rattle.std.proofs.Math.Option.{Option, some, none}
use Rattle.std.proofs.lemmas.List.Edits.{sets}
use Rattle.rules.specs.Bytes.{Bytes, part}
use Rattle.rules.specs.Limits.{limits, param_numbers}
use Rattle.rules.specs.Commands as Rules
use Rattle.rules.specs.Slots.{numbers}
use Rattle.run_slots.specs.declared.params.Params.{Params}

-- where those of component i stand in a run's memory: behind the numbers of the components' slots
abbrev pub params_from : ℕ → ℕ
params_from i = limits.components + param_numbers * i

-- those of component i in the memory w
abbrev pub params_at : List ℕ → ℕ → Params
params_at w i =
    record {
      uri = get_or w (params_from i) 0;
      length = get_or w (params_from i + 1) 0;
      source = get_or w (params_from i + 2) 0;
      digest = get_or w (params_from i + 3) 0;
      size = get_or w (params_from i + 4) 0;
    }

unfoldable pub stored : List ℕ → ℕ → Params → List ℕ
stored w i p = sets w (params_from i) (p.uri ∷ p.length ∷ p.source ∷ p.digest ∷ p.size ∷ [])

-- no parameter is set
abbrev pub Unset : List ℕ → Type 0
Unset w = (j : ℕ) → limits.components ≤ j → get_or w j 0 ≡ 0

-- the numbers of the components' slots are kept
abbrev pub SlotsKept : List ℕ → List ℕ → Type 0
SlotsKept w w' = (i : ℕ) → i < limits.components → get_or w' i 0 ≡ get_or w i 0

-- 0 is unset
abbrev pub optional : {A : Type 0} → ℕ → A → Option A
optional n a = cond (eqb n 0) none (some a)

-- the parameters that the numbers stand for, in the bytes s
unfoldable pub meaning : Bytes → Params → Rules.Params
meaning s p =
    record {
      uri = optional p.uri (part s p.uri p.length);
      source = optional p.source (p.source - 1);
      digest = optional p.digest (part s p.digest limits.digest);
      size = optional p.size (p.size - 1);
    }

abbrev pub over_params : Params → Params → Params
over_params a b =
    record {
      uri = cond (eqb a.uri 0) b.uri a.uri;
      length = cond (eqb a.uri 0) b.length a.length;
      source = cond (eqb a.source 0) b.source a.source;
      digest = cond (eqb a.digest 0) b.digest a.digest;
      size = cond (eqb a.size 0) b.size a.size;
    }

-- the parameters of n components
unfoldable pub params_in : Bytes → List ℕ → ℕ → List Rules.Params
params_in s w n = map (λ k. meaning s (params_at w k)) (numbers n 0)

-- a source is one of n components, and a digest lies in the bytes
pub record Fit (s : Bytes) (n : ℕ) (p : Params) : Type 0 where
  pub source : p.source ≤ n
  pub digest : 0 < p.digest → p.digest + limits.digest ≤ length s

abbrev pub FitAll : Bytes → ℕ → List ℕ → Type 0
FitAll s n w = (i : ℕ) → i < limits.components → Fit s n (params_at w i)
