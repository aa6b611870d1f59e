-- Remaining depth and bytes fall: a sequence's commands are one less deep, and a command's sequences stand after it.
use Prim.Native.Nat.{◌-◌, ◌≤◌}
use lib.ListN.{length}
use Rattle.rules.specs.Run.{run_seq, run_cmd}
use Rattle.manifest_accessors.specs.Arguments.{is_true}
use Rattle.manifest_accessors.proofs.PlaceLaws.{remaining}
use Rattle.run_leaf.specs.Leaf.{state_of}
use Rattle.run_sequence.specs.Cycle.{CommandJob}
use Rattle.run_sequence.proofs.SequenceRuns.{CommandsJob, Loop}
use Rattle.run_sequence.proofs.TryRuns.{AltsLoop}
use Rattle.run_sequence.proofs.+run_command_run_sequence.Given as goal

abbrev pub decreases-run_command : goal.decreases-run_command
decreases-run_command l = remaining l.s.now l.depth l.run.next

abbrev pub decreases-run_sequence : goal.decreases-run_sequence
decreases-run_sequence l = remaining l.s.now l.level.depth l.run.next

abbrev pub invariant-run_command-loop-left : goal.invariant-run_command-loop-left
invariant-run_command-loop-left l =
    ((j : CommandJob l.s l.depth l.run l.vendor l.class l.answers l.fn.slots l.fn.memory l.fn.trace) →
    AltsLoop l.s l.vendor l.class l.fn.memory l.answers l.depth j.ready.env j.place.cmd j.place.to l.run
    (run_cmd j.ready.env j.place.cmd l.run.index (state_of l.s (length j.ready.env.ids) l.fn.memory l.fn.slots l.fn.trace l.run)) l.slots l.memory l.trace l.p l.left l.now)
    × ((j : CommandJob l.s l.depth l.run l.vendor l.class l.answers l.fn.slots l.fn.memory l.fn.trace) → l.initial.p ≤ l.p)

abbrev pub invariant-run_sequence-loop : goal.invariant-run_sequence-loop
invariant-run_sequence-loop l =
    ((x : CommandsJob l.s (l.level.depth - 1) l.commands l.initial.now l.vendor l.class l.answers l.fn.slots l.fn.memory l.fn.trace) →
    Loop l.s l.vendor l.class l.fn.memory l.answers (l.level.depth - 1) l.level.coercible x.ready.env
    (run_seq x.ready.env x.place.cmds l.level.coercible l.initial.now.index (is_true l.initial.now.coerce) (state_of l.s (length x.ready.env.ids) l.fn.memory l.fn.slots l.fn.trace l.initial.now))
    l.slots l.memory l.trace (l.commands - l.counter) l.now)
    × ((x : CommandsJob l.s (l.level.depth - 1) l.commands l.initial.now l.vendor l.class l.answers l.fn.slots l.fn.memory l.fn.trace) → l.initial.now.next ≤ l.now.next)
