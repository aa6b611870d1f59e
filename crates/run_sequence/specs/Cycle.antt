-- The runs of commands and sequences of an accepted envelope, and what they give.
use Rattle.std.specs.Prelude.{ℕ, ◌<◌, ◌≡◌, Bool, false, List, length}
use Rattle.rules.specs.declared.answers.End.TheVariants.{Finished}
use Rattle.rules.specs.Answers.{end_number}
use Rattle.rules.specs.Bytes.{Bytes}
use Rattle.rules.specs.Manifest.{Seq}
use Rattle.rules.specs.Step.{Env}
use Rattle.rules.specs.Run.{run_seq}
use Rattle.rules.specs.Lent.{Lent, was, left}
use Rattle.run_leaf.specs.declared.Run.{Run}
use Rattle.run_sequence.specs.declared.Level.{Level}
use Rattle.run_slots.specs.Params.{FitAll, SlotsKept}
use Rattle.run_actions.specs.declared.Progress.{Progress}
use Rattle.run_actions.specs.Action.{Ends}
use Rattle.run_commands.specs.Machine.{out_at}
use Rattle.manifest_accessors.specs.Places.{CommandAt, SequenceAt}
use Rattle.run_leaf.specs.Leaf.{state_of, Ready, CommandRan}

-- a run at a command, and at a sequence, that check has accepted
pub record CommandJob (s : Bytes) (depth : ℕ) (run : Run) (vendor class answers slots : Bytes) (memory : List ℕ) (trace : Bytes) : Type 0 where
  pub ready : Ready s vendor class answers slots memory trace run.index
  pub place : CommandAt s (length ready.env.ids) depth run.events run.next

pub record SequenceJob (s : Bytes) (depth : ℕ) (run : Run) (vendor class answers slots : Bytes) (memory : List ℕ) (trace : Bytes) : Type 0 where
  pub ready : Ready s vendor class answers slots memory trace run.index
  pub place : SequenceAt s (length ready.env.ids) depth run.events run.next

pub record SequenceRan (s : Bytes) (env : Env) (seq : Seq) (coercible : Bool) (run : Run) (slots : Bytes) (memory : List ℕ) (trace : Bytes)
    (r : Progress) (slots' : Bytes) (memory' : List ℕ) (trace' : Bytes) : Type 0 where
  pub goes : out_at s (length env.ids) memory' slots' trace' r ≡ run_seq env seq coercible run.index false
      (state_of s (length env.ids) memory slots trace run)
  pub fit : FitAll s (length env.ids) memory'
  pub same : SlotsKept memory memory'
  pub ends : Ends r.end
  pub late : end_number Finished < r.end → 0 < r.events

-- what each function promises of what it is lent: for every job that it is asked for, it ran as the rule says
abbrev pub CommandRuns : Bytes → ℕ → Run → Bytes → Bytes → Bytes → Lent → Lent → Lent → Run → Type 0
CommandRuns s depth run vendor class answers slots memory trace r =
    (j : CommandJob s depth run vendor class answers (was slots) (was memory) (was trace)) →
    CommandRan s j.ready.env j.place.cmd j.place.to run (was slots) (was memory) (was trace) r (left slots) (left memory) (left trace)

abbrev pub SequenceRuns : Bytes → Level → Run → Bytes → Bytes → Bytes → Lent → Lent → Lent → Progress → Type 0
SequenceRuns s level run vendor class answers slots memory trace r =
    (j : SequenceJob s level.depth run vendor class answers (was slots) (was memory) (was trace)) →
    SequenceRan s j.ready.env j.place.seq level.coercible run (was slots) (was memory) (was trace)
    r (left slots) (left memory) (left trace)
