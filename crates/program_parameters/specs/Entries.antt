-- The parameters of a command, by the places of a program's bytes.
use Rattle.std.specs.Prelude.{ℕ, ◌+◌, ◌-◌, ◌≤◌, ◌<◌, ◌≡◌, Bool, true, false, cond, eqb, length}
use Rattle.std.specs.Prelude as Code
use Rattle.std.specs.Prelude.{Some, None}
use Rattle.std.proofs.Math.Option.{Option, some, none}
use Rattle.rules.specs.Bytes.{Bytes, part, num}
use Rattle.rules.specs.Commands as Rules
use Rattle.rules.specs.Got.{Got, refused, got, accepted}
use Rattle.rules.specs.ProgramFormat.{entry_size, source_bytes, size_bytes}
use Rattle.rules.specs.ProgramTest.{optional, params_in}
use Rattle.run_slots.specs.declared.params.Params.{Params}
use Rattle.run_slots.specs.Params.{meaning, Fit}

-- the place where a reading up to `to` ended, from the bytes that it left; none where it was refused
abbrev pub next_in : {A : Type 0} → ℕ → Got (A × Bytes) → Code.Option ℕ
next_in to (refused r p) = None
next_in to (got a) = Some (to - length a.1)

-- whether that place is `to`
abbrev pub ends_at : ℕ → Code.Option ℕ → Bool
ends_at to None = false
ends_at to (Some d) = eqb d to

-- a parameter that stands from `at` to `next`, and there is none if these are equal: its value, and its numbers in Params
abbrev pub value_in : Bytes → ℕ → ℕ → Option Bytes
value_in p at next = cond (eqb at next) none (some (part p (at + entry_size) (next - at - entry_size)))

abbrev pub place_in : ℕ → ℕ → ℕ
place_in at next = cond (eqb at next) 0 (at + entry_size)

abbrev pub length_in : ℕ → ℕ → ℕ
length_in at next = cond (eqb at next) 0 (next - at - entry_size)

abbrev pub source_in : Bytes → ℕ → ℕ → ℕ
source_in p at next = cond (eqb at next) 0 (num (part p (at + entry_size) source_bytes) + 1)

abbrev pub size_in : Bytes → ℕ → ℕ → ℕ
size_in p at next = cond (eqb at next) 0 (num (part p (at + entry_size) size_bytes) + 1)

-- where the parameter of a key ends, which may stand at `at`
abbrev pub end_at : Bytes → ℕ → ℕ → ℕ → ℕ → ℕ → Code.Option ℕ
end_at p to key lo hi at = next_in to (optional key lo hi (λ b. b) (part p at (to - at)))

-- what stands there is that parameter, of lo to hi bytes, or is not of that key
abbrev pub WellFormed : Bytes → ℕ → ℕ → ℕ → ℕ → ℕ → Type 0
WellFormed p to key lo hi at = accepted (optional key lo hi (λ b. b) (part p at (to - at))) ≡ true

-- parameters from `from` to `to`, as the program test read them for n components
pub record ParametersAt (p : Bytes) (from to : ℕ) : Type 0 where
  pub n : ℕ
  pub params : Rules.Params
  pub lead : 0 < from
  pub up : from ≤ to
  pub fits : to ≤ length p
  pub reads : params_in n (part p from (to - from)) ≡ got params

-- the numbers r mean them, and fit
pub record Taken (p : Bytes) (from to : ℕ) (x : ParametersAt p from to) (r : Params) : Type 0 where
  pub means : meaning p r ≡ x.params
  pub fit : Fit p x.n r
