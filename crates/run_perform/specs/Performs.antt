-- What a command with its event leaves in lent memory.
use Rattle.std.specs.Prelude.{ℕ, ◌+◌, ◌<◌, ◌≡◌, length}
use Rattle.rules.specs.Bytes.{Bytes}
use Rattle.rules.specs.Lent.{Lent, was, left}
use Rattle.rules.specs.Step.{Env, step}
use Rattle.run_slots.specs.declared.params.Params.{Params}
use Rattle.run_slots.specs.Params.{Fit, FitAll, SlotsKept}
use Rattle.run_actions.specs.Action.{Ends}
use Rattle.run_actions.specs.declared.Progress.{Progress}
use Rattle.run_commands.specs.declared.act.Command.{Command}
use Rattle.run_commands.specs.Machine.{state_at, out_at, Host}
use Rattle.run_commands.specs.Performed.{command_of}

-- the command was done, and its event put after those of the trace
pub record Performs (s : Bytes) (x : Command) (given : Params) (vendor class answers : Bytes) (slots memory trace : Lent) (r : Progress) : Type 0 where
  pub events : r.events ≡ x.events + 1
  pub ends : Ends r.end
  pub does : (env : Env) → Host env vendor class answers (was memory) (was slots) → x.index < length env.ids →
      FitAll s (length env.ids) (was memory) →
      out_at s (length env.ids) (left memory) (left slots) (left trace) r
      ≡ step env (command_of s x given) x.index x.place
      (state_at s (length env.ids) (was memory) (was slots) (was trace) x.events x.used)
  pub fit : (n : ℕ) → FitAll s n (was memory) → Fit s n given → FitAll s n (left memory)
  pub kept : SlotsKept (was memory) (left memory)
