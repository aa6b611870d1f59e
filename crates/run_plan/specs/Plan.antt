-- The sequences of a plan, by where they start, and what their run gives.
use Rattle.std.specs.Prelude.{ℕ, ◌<◌, ◌≡◌, List, length}
use Rattle.rules.specs.declared.answers.End.TheVariants.{Finished}
use Rattle.rules.specs.Answers.{end_number}
use Rattle.rules.specs.Bytes.{Bytes}
use Rattle.rules.specs.Lent.{Lent, was, left}
use Rattle.rules.specs.Manifest.{Seq}
use Rattle.rules.specs.Step.{Env}
use Rattle.rules.specs.Run.{run_all}
use Rattle.manifest_accessors.specs.Arguments.{coerce_false}
use Rattle.manifest_plan.specs.Standing.{Left}
use Rattle.run_actions.specs.declared.Progress.{Progress}
use Rattle.run_actions.specs.Action.{Ends}
use Rattle.run_commands.specs.Machine.{state_at, out_at}
use Rattle.run_leaf.specs.declared.Run.{Run}
use Rattle.run_leaf.specs.Leaf.{Ready}

-- the run at the start of the sequence at `from`, with what r has done
abbrev pub start_of : ℕ → Progress → Run
start_of from r = record { next = from; index = 0; coerce = coerce_false; events = r.events; used = r.used; end = end_number Finished }

-- the starts of a plan in an accepted envelope, and a run over lent memory
pub record PlanJob (s : Bytes) (starts : List ℕ) (total : ℕ) (vendor class answers slots : Bytes) (memory : List ℕ) (trace : Bytes) : Type 0 where
  pub ready : Ready s vendor class answers slots memory trace 0
  pub plan : List Seq
  pub left : Left s (length ready.env.ids) starts total 0 0 plan

-- what was left in memory is what the rule gives for the sequences one after the other
pub record PlanRan (s : Bytes) (env : Env) (plan : List Seq) (slots : Bytes) (memory : List ℕ) (trace : Bytes) (r : Progress) (slots' : Bytes)
    (memory' : List ℕ) (trace' : Bytes) : Type 0 where
  pub goes : out_at s (length env.ids) memory' slots' trace' r ≡ run_all env plan (state_at s (length env.ids) memory slots trace 0 0)
  pub ends : Ends r.end
  pub late : end_number Finished < r.end → 0 < r.events

-- what the function promises of what it is lent: the sequences of the plan were run
abbrev pub PlanRuns : Bytes → Bytes → ℕ → Bytes → Bytes → Bytes → Lent → Lent → Lent → Progress → Type 0
PlanRuns s starts total vendor class answers slots memory trace r =
    (j : PlanJob s starts total vendor class answers (was slots) (was memory) (was trace)) →
    PlanRan s j.ready.env j.plan (was slots) (was memory) (was trace) r (left slots) (left memory) (left trace)
