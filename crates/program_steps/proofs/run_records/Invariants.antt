use Prim.Native.Nat.{◌-◌}
use mathlib.Core.Path.{◌≡◌}
use lib.ListN.{length}
use Rattle.program_steps.specs.Step.{RunJob, start_at}
use Rattle.program_steps.proofs.RunRecords.{LoopAt}
use Rattle.program_steps.proofs.run_records.Given as goal

abbrev pub invariant-loop-current : goal.invariant-loop-current
invariant-loop-current l =
    (length l.slots ≡ length l.initial.slots) × (length l.trace ≡ length l.initial.trace) × ((j : RunJob l.p l.records (start_at l.from) l.vendor l.class l.answers l.initial.slots l.initial.memory l.initial.trace) →
    LoopAt l.p l.records l.from l.vendor l.class l.answers l.initial.slots l.initial.memory l.initial.trace j l.slots l.memory l.trace l.current)

abbrev pub decreases-loop-current : goal.decreases-loop-current
decreases-loop-current l = l.records - l.current.n
