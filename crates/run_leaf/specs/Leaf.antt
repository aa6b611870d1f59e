-- A command of an accepted envelope that holds no sequence, and the state of a run between commands.
use Rattle.std.specs.Prelude.{ℕ, ◌<◌, ◌≡◌, Bool, ◌&&◌, cond, eqb, List, length}
use Rattle.rules.specs.declared.answers.End.TheVariants.{Finished, ConditionFailed}
use Rattle.rules.specs.Answers.{end_number}
use Rattle.rules.specs.Bytes.{Bytes}
use Rattle.rules.specs.Limits.{limits}
use Rattle.rules.specs.Manifest.{Cmd, one}
use Rattle.rules.specs.Step.{Env, State, Out}
use Rattle.rules.specs.Run.{run_cmd, index_after, coerce_after}
use Rattle.rules.specs.Lent.{Lent, was, left}
use Rattle.manifest_accessors.specs.declared.heads.Opened.{Opened}
use Rattle.run_leaf.specs.declared.Run.{Run}
use Rattle.run_slots.specs.Params.{FitAll, SlotsKept}
use Rattle.run_actions.specs.declared.Progress.{Progress}
use Rattle.run_actions.specs.Action.{Ends}
use Rattle.run_commands.specs.Machine.{state_at, out_at, Lends}
use Rattle.manifest_accessors.specs.Arguments.{is_true, ArgumentAt}

-- what a run has done, and the state and the outcome that it has reached
abbrev pub done_by : Run → Progress
done_by r = record { events = r.events; used = r.used; end = r.end }

abbrev pub state_of : Bytes → ℕ → List ℕ → Bytes → Bytes → Run → State
state_of s n memory slots trace r = state_at s n memory slots trace r.events r.used

abbrev pub out_of : Bytes → ℕ → List ℕ → Bytes → Bytes → Run → Out
out_of s n memory slots trace r = out_at s n memory slots trace (done_by r)

-- a run over lent memory, at one of the components
pub record Ready (s vendor class answers slots : Bytes) (memory : List ℕ) (trace : Bytes) (index : ℕ) : Type 0 where
  pub env : Env
  pub lent : Lends env s vendor class answers slots memory trace
  pub inside : index < length env.ids

-- a command that holds no sequence, by its code and argument
pub record LeafJob (s : Bytes) (head : Opened) (run : Run) (vendor class answers slots : Bytes) (memory : List ℕ) (trace : Bytes) : Type 0 where
  pub ready : Ready s vendor class answers slots memory trace run.index
  pub argument : ArgumentAt s head.value head.next
  pub count : argument.n ≡ length ready.env.ids
  pub few : run.events < limits.commands

-- a run at a place: the index and coerce of the sequence `holder`, what `now` has done, and an end
abbrev pub run_at : Run → ℕ → Progress → ℕ → Run
run_at holder at now end =
    record { next = at; index = holder.index; coerce = holder.coerce; events = now.events; used = now.used; end = end }

-- 'a condition failure inside, while that sequence's coerce is true, is a success'
abbrev pub caught_by : Bool → ℕ → Run → Progress
caught_by coercible coerce r =
    record {
      events = r.events;
      used = r.used;
      end = cond (coercible && is_true coerce && eqb r.end (end_number ConditionFailed)) (end_number Finished) r.end;
    }

-- what was left in memory is what the rule gives; where the command went well, the next one's place, index and coerce are known
pub record CommandRan (s : Bytes) (env : Env) (cmd : Cmd) (to : ℕ) (run : Run) (slots : Bytes) (memory : List ℕ) (trace : Bytes) (r : Run) (slots' : Bytes)
    (memory' : List ℕ) (trace' : Bytes) : Type 0 where
  pub goes : out_of s (length env.ids) memory' slots' trace' r ≡ run_cmd env cmd run.index (state_of s (length env.ids) memory slots trace run)
  pub fit : FitAll s (length env.ids) memory'
  pub same : SlotsKept memory memory'
  pub ends : Ends r.end
  pub late : end_number Finished < r.end → 0 < r.events
  pub next : r.end ≡ end_number Finished → r.next ≡ to
  pub index : r.end ≡ end_number Finished → r.index ≡ index_after cmd run.index
  pub inside : r.end ≡ end_number Finished → r.index < length env.ids
  pub coerce : is_true r.coerce ≡ coerce_after cmd (is_true run.coerce)

-- what a command that holds no sequence promises of what it is lent: for every job that it is asked for, it ran as the rule says
abbrev pub LeafRuns : Bytes → Opened → Run → Bytes → Bytes → Bytes → Lent → Lent → Lent → Run → Type 0
LeafRuns s head run vendor class answers slots memory trace r =
    (j : LeafJob s head run vendor class answers (was slots) (was memory) (was trace)) →
    CommandRan s j.ready.env (one run.next j.argument.op j.argument.coerce) j.argument.to run (was slots) (was memory) (was trace)
    r (left slots) (left memory) (left trace)
