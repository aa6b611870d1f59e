-- What a command asks for, and what it leaves in lent memory, its event aside.
use Rattle.std.specs.Prelude.{ℕ, ◌+◌, ◌*◌, ◌%◌, ◌≤◌, ◌<◌, ◌≡◌, List, length}
use Rattle.rules.specs.Bytes.{Bytes}
use Rattle.rules.specs.Commands.{Op}
use Rattle.rules.specs.Lent.{Lent, was, left}
use Rattle.rules.specs.Limits.{limits}
use Rattle.rules.specs.Slots.{answer_bytes}
use Rattle.rules.specs.Answers.{end_of}
use Rattle.rules.specs.Step.{Env, out, acts, event_bytes}
use Rattle.run_slots.specs.declared.params.Params.{Params}
use Rattle.run_slots.specs.Params.{Fit, FitAll, SlotsKept}
use Rattle.run_actions.specs.Action.{Ends, AllHold}
use Rattle.run_actions.specs.declared.Effect.{Effect}
use Rattle.run_commands.specs.declared.act.Command.{Command}
use Rattle.run_commands.specs.Op.{op_of, IsCode, SixteenAt}
use Rattle.run_commands.specs.Machine.{state_at, Host}

-- the command of the rules
abbrev pub command_of : Bytes → Command → Params → Op
command_of s x given = op_of s x.code x.value given

-- a command that writes an event, at one of the components, with its argument in s; the memory is that of a run
pub record Commanded (s : Bytes) (x : Command) (given : Params) (answers slots : Bytes) (memory : List ℕ) : Type 0 where
  pub inside : x.index < limits.components
  pub sixteen : SixteenAt s x.code x.value
  pub coded : IsCode s x.code x.value given
  pub hold : AllHold memory slots
  pub fit : FitAll s limits.components memory
  pub answered : length answers % answer_bytes ≡ 0

-- the trace has room for one event more
abbrev pub RoomFor : ℕ → Bytes → Type 0
RoomFor events trace = event_bytes * events + event_bytes ≤ length trace

-- op at component i, its event aside: for every environment that the lent memory is of, it does what the rule says, to whatever trace. The
-- memory still fits each number of components that the parameters it gives fit, and keeps the numbers of slots
pub record Acts (s : Bytes) (op : Op) (i used : ℕ) (Gives : ℕ → Type 0) (vendor class answers : Bytes) (slots memory : Lent) (r : Effect) : Type 0 where
  pub ends : Ends r.end
  pub does : (env : Env) (trace : Bytes) (events : ℕ) → Host env vendor class answers (was memory) (was slots) → i < length env.ids →
      FitAll s (length env.ids) (was memory) →
      out (end_of r.end) (state_at s (length env.ids) (left memory) (left slots) trace events r.used)
      ≡ acts env op i (state_at s (length env.ids) (was memory) (was slots) trace events used)
  pub fit : (n : ℕ) → FitAll s n (was memory) → Gives n → FitAll s n (left memory)
  pub kept : SlotsKept (was memory) (left memory)

-- the command was done
abbrev pub Acted : Bytes → Command → Params → Bytes → Bytes → Bytes → Lent → Lent → Effect → Type 0
Acted s x given vendor class answers slots memory r =
    Acts s (command_of s x given) x.index x.used (λ n. Fit s n given) vendor class answers slots memory r
