-- What a run has in lent memory, as the rules' environment and state.
use Rattle.std.specs.Prelude.{ℕ, ◌%◌, ◌≤◌, ◌<◌, ◌≡◌, List, [], length, get_or}
use Rattle.rules.specs.Answers.{end_of}
use Rattle.rules.specs.Bytes.{Bytes}
use Rattle.rules.specs.Limits.{limits}
use Rattle.rules.specs.Slots.{answer_bytes, slot_of}
use Rattle.rules.specs.Step.{Env, State, state, Out, out}
use Rattle.run_slots.specs.Params.{params_in, FitAll}
use Rattle.run_actions.specs.declared.Progress.{Progress}
use Rattle.run_actions.specs.Action.{AllHold}

-- the parameters of n components in a run's memory over the bytes s, the slots, the trace, and how many events and answers used
abbrev pub state_at : Bytes → ℕ → List ℕ → Bytes → Bytes → ℕ → ℕ → State
state_at s n memory slots trace events used = state (params_in s memory n) slots trace events used

abbrev pub out_at : Bytes → ℕ → List ℕ → Bytes → Bytes → Progress → Out
out_at s n memory slots trace d = out (end_of d.end) (state_at s n memory slots trace d.events d.used)

-- the device and answers of env are those lent, and the memory has the number of each component's slot
pub record Host (env : Env) (vendor class answers : Bytes) (memory : List ℕ) (slots : Bytes) : Type 0 where
  pub vendors : env.device.vendor ≡ vendor
  pub classes : env.device.class ≡ class
  pub replies : env.answers ≡ answers
  pub few : length env.ids ≤ limits.components
  pub numbers : (i : ℕ) → i < length env.ids → slot_of (get_or env.ids i []) slots ≡ get_or memory i 0

-- what a run is lent, for the components and the device of env; every command keeps this
pub record Lends (env : Env) (s vendor class answers slots : Bytes) (memory : List ℕ) (trace : Bytes) : Type 0 where
  pub host : Host env vendor class answers memory slots
  pub hold : AllHold memory slots
  pub fit : FitAll s (length env.ids) memory
  pub answered : length answers % answer_bytes ≡ 0
  pub room : limits.trace ≤ length trace
