use Prim.Native.Nat.{◌-◌, ◌/◌, ◌<◌}
use mathlib.Core.Path.{refl}
use native.Mathlib.Omega.{arith}
use Rattle.rules_kinds.proofs.KindTests.{runs, runs-not, tries, tries_not}
use Rattle.run_sequence.proofs.SequenceRuns.{loop_starts, command-job, loop_rises, loop_goes_on, sequence-deep, sequence-head}
use Rattle.run_sequence.proofs.SequenceRuns.{commands-job, command_falls, sequence-done, sequence-stopped}
use Rattle.run_sequence.proofs.TryRuns.{command-head, sequence_falls, sub-head, sub-fits, sub_asks, sub-ran, leaf-job, leaf-ran}
use Rattle.run_sequence.proofs.TryRuns.{tries_head, tries_later, tries_start, tries_failed, choice_head, choice_fits, choice_later}
use Rattle.run_sequence.proofs.TryRuns.{choice_asks, choice_rest, tries_end, tries_on}
use Rattle.run_sequence.proofs.+run_command_run_sequence.Goals as goal

pub run_command-open-c-requires : goal.run_command-open-c-requires
run_command-open-c-requires t c =
    command-head _ _ _ _ _ _ _ _ _ c.requires

pub run_command-open-b-requires : goal.run_command-open-b-requires
run_command-open-b-requires t c =
    let code = c.open-c.ensures (command-head _ _ _ _ _ _ _ _ _ c.requires) in
    let taken = runs _ _ c.argument_of-kind.ensures _ c.holds_sequence.ensures c.if-holds_sequence.true in
    sub-head _ _ _ _ _ _ _ _ _ c.requires _ _ code taken

pub run_command-run_sequence-inner-requires : goal.run_command-run_sequence-inner-requires
run_command-run_sequence-inner-requires t c =
    let code = c.open-c.ensures (command-head _ _ _ _ _ _ _ _ _ c.requires) in
    let taken = runs _ _ c.argument_of-kind.ensures _ c.holds_sequence.ensures c.if-holds_sequence.true in
    let o = c.open-b.ensures (sub-head _ _ _ _ _ _ _ _ _ c.requires _ _ code taken) in
    sub_asks _ _ _ _ _ _ _ _ _ c.requires _ _ code taken _ _ o _ c.ended-done.ensures _ c.run_at-from.ensures _ c.decreases

pub run_command-overflow_add-b : goal.run_command-overflow_add-b
run_command-overflow_add-b t c =
    let code = c.open-c.ensures (command-head _ _ _ _ _ _ _ _ _ c.requires) in
    let taken = runs _ _ c.argument_of-kind.ensures _ c.holds_sequence.ensures c.if-holds_sequence.true in
    let o = c.open-b.ensures (sub-head _ _ _ _ _ _ _ _ _ c.requires _ _ code taken) in
    omega (arith, sub-fits _ _ _ _ _ _ _ _ _ c.requires _ _ code taken, o.0, o.1)

pub run_command-returns-then-holds_sequence : goal.run_command-returns-then-holds_sequence
run_command-returns-then-holds_sequence t c =
    λ j.
    let code = c.open-c.ensures (command-head _ _ _ _ _ _ _ _ _ j) in
    let taken = runs _ _ c.argument_of-kind.ensures _ c.holds_sequence.ensures c.if-holds_sequence.true in
    let o = c.open-b.ensures (sub-head _ _ _ _ _ _ _ _ _ j _ _ code taken) in
    sub-ran _ _ _ _ _ _ _ _ _ j _ _ code taken _ _ o _ c.ended-done.ensures _ c.run_at-from.ensures _ _ _ _ c.run_sequence-inner.ensures _ c.run_at.ensures

pub run_command-open-h-requires : goal.run_command-open-h-requires
run_command-open-h-requires t c =
    let code = c.open-c.ensures (command-head _ _ _ _ _ _ _ _ _ c.requires) in
    let taken = tries _ _ c.argument_of-kind.ensures _ c.holds_alternatives.ensures c.if-holds_alternatives.true in
    tries_head _ _ _ _ _ _ _ _ _ c.requires _ _ code taken

pub run_command-loop-left-init : goal.run_command-loop-left-init
run_command-loop-left-init t c =
    let taken = tries _ _ c.argument_of-kind.ensures _ c.holds_alternatives.ensures c.if-holds_alternatives.true in (
      λ j.
          let code = c.open-c.ensures (command-head _ _ _ _ _ _ _ _ _ j) in
          tries_start _ _ _ _ _ _ _ _ _ j _ _ code taken _ _ (c.open-h.ensures (tries_head _ _ _ _ _ _ _ _ _ j _ _ code taken)) _ c.ended-now.ensures,
      λ j. omega arith,
    )

pub run_command-open-b-requires-in-loop-left : goal.run_command-open-b-requires-in-loop-left
run_command-open-b-requires-in-loop-left t c =
    choice_head _ _ _ _ _ _ _ _ _ _ _ _ _ _ _ _ _ _ (c.loop-left.invariant.0 c.requires) c.loop-left-test.true

pub run_command-run_sequence-now-requires : goal.run_command-run_sequence-now-requires
run_command-run_sequence-now-requires t c =
    let code = c.open-c.ensures (command-head _ _ _ _ _ _ _ _ _ c.requires) in
    let taken = tries _ _ c.argument_of-kind.ensures _ c.holds_alternatives.ensures c.if-holds_alternatives.true in
    let later = tries_later _ _ _ _ _ _ _ _ _ c.requires _ _ code taken _ _ (c.open-h.ensures (tries_head _ _ _ _ _ _ _ _ _ c.requires _ _ code taken)) in
    let l = c.loop-left.invariant.0 c.requires in
    let more = c.loop-left-test.true in
    let o = c.open-b-in-loop-left.ensures (choice_head _ _ _ _ _ _ _ _ _ _ _ _ _ _ _ _ _ _ l more) in
    let falls = sequence_falls _ _ _ _ _ _ _ _ _ c.requires _ c.decreases _ _ _ later (c.loop-left.invariant.1 c.requires) (choice_later _ _ _ _ _ _ _ _ _ _ _ _ _ _ _ _ _ _ l more _ _ o) in
    choice_asks _ _ _ _ _ _ _ _ _ _ _ _ _ _ _ _ _ _ l more _ _ o _ c.run_at-from-in-loop-left.ensures _ falls

pub run_command-overflow_add-p : goal.run_command-overflow_add-p
run_command-overflow_add-p t c =
    let l = c.loop-left.invariant.0 c.requires in
    let more = c.loop-left-test.true in
    let o = c.open-b-in-loop-left.ensures (choice_head _ _ _ _ _ _ _ _ _ _ _ _ _ _ _ _ _ _ l more) in
    omega (arith, choice_fits _ _ _ _ _ _ _ _ _ _ _ _ _ _ _ _ _ _ l more, o.0, o.1)

pub run_command-skip-requires : goal.run_command-skip-requires
run_command-skip-requires t c =
    let l = c.loop-left.invariant.0 c.requires in
    let more = c.loop-left-test.true in
    let o = c.open-b-in-loop-left.ensures (choice_head _ _ _ _ _ _ _ _ _ _ _ _ _ _ _ _ _ _ l more) in
    choice_rest _ _ _ _ _ _ _ _ _ _ _ _ _ _ _ _ _ _ l more _ _ o

pub run_command-returns-then-now-ne-CONDITION_FAILED : goal.run_command-returns-then-now-ne-CONDITION_FAILED
run_command-returns-then-now-ne-CONDITION_FAILED t c =
    λ j.
    let l = c.loop-left.invariant.0 j in
    let more = c.loop-left-test.true in
    let o = c.open-b-in-loop-left.ensures (choice_head _ _ _ _ _ _ _ _ _ _ _ _ _ _ _ _ _ _ l more) in
    let rest = c.skip.ensures (choice_rest _ _ _ _ _ _ _ _ _ _ _ _ _ _ _ _ _ _ l more _ _ o) in
    tries_end _ _ _ _ _ _ _ _ _ _ _ _ _ _ _ _ _ _ l more _ _ o _ c.run_at-from-in-loop-left.ensures _ _ _ _ c.run_sequence-now.ensures c.if-now-ne-CONDITION_FAILED.true _ rest _ c.run_at-then-now-ne-CONDITION_FAILED.ensures

pub run_command-loop-left-preserved : goal.run_command-loop-left-preserved
run_command-loop-left-preserved t c =
    let more = c.loop-left-test.true in (
      λ j.
          let o = c.open-b-in-loop-left.ensures (choice_head _ _ _ _ _ _ _ _ _ _ _ _ _ _ _ _ _ _ (c.loop-left.invariant.0 j) more) in
          tries_on _ _ _ _ _ _ _ _ _ _ _ _ _ _ _ _ _ _ (c.loop-left.invariant.0 j) more _ _ o _ c.run_at-from-in-loop-left.ensures _ _ _ _ c.run_sequence-now.ensures c.if-now-ne-CONDITION_FAILED.false,
      λ j.
          let o = c.open-b-in-loop-left.ensures (choice_head _ _ _ _ _ _ _ _ _ _ _ _ _ _ _ _ _ _ (c.loop-left.invariant.0 j) more) in
          omega (arith, c.loop-left.invariant.1 j, choice_later _ _ _ _ _ _ _ _ _ _ _ _ _ _ _ _ _ _ (c.loop-left.invariant.0 j) more _ _ o),
    )

pub run_command-returns-then-holds_alternatives : goal.run_command-returns-then-holds_alternatives
run_command-returns-then-holds_alternatives t c =
    λ j. tries_failed _ _ _ _ _ _ _ _ _ _ _ _ _ _ _ _ _ _ (c.loop-left.invariant.0 j) (omega (arith, c.loop-left-test.false)) _ c.run_at-then-holds_alternatives.ensures

pub run_command-leaf-requires : goal.run_command-leaf-requires
run_command-leaf-requires t c =
    let code = c.open-c.ensures (command-head _ _ _ _ _ _ _ _ _ c.requires) in
    let no_sub = runs-not _ _ c.argument_of-kind.ensures _ c.holds_sequence.ensures c.if-holds_sequence.false in
    let no-try = tries_not _ _ c.argument_of-kind.ensures _ c.holds_alternatives.ensures c.if-holds_alternatives.false in
    leaf-job _ _ _ _ _ _ _ _ _ c.requires _ _ code no_sub no-try

pub run_command-returns : goal.run_command-returns
run_command-returns t c =
    λ j.
    let code = c.open-c.ensures (command-head _ _ _ _ _ _ _ _ _ j) in
    let no_sub = runs-not _ _ c.argument_of-kind.ensures _ c.holds_sequence.ensures c.if-holds_sequence.false in
    let no-try = tries_not _ _ c.argument_of-kind.ensures _ c.holds_alternatives.ensures c.if-holds_alternatives.false in
    leaf-ran _ _ _ _ _ _ _ _ _ j _ _ code no_sub no-try _ _ _ _ (c.leaf.ensures (leaf-job _ _ _ _ _ _ _ _ _ j _ _ code no_sub no-try))

pub run_sequence-open-h-requires : goal.run_sequence-open-h-requires
run_sequence-open-h-requires t c =
    sequence-head _ _ _ _ _ _ _ _ _ c.requires

pub run_sequence-loop-init : goal.run_sequence-loop-init
run_sequence-loop-init t c =
    (loop_starts _ _ _ _ _ _ _ _ _ _ _ _ refl, λ x. omega arith)

pub run_sequence-overflow_sub-level : goal.run_sequence-overflow_sub-level
run_sequence-overflow_sub-level t c =
    omega (arith, sequence-deep _ _ _ _ _ _ _ _ _ c.requires)

pub run_sequence-run_command-now-requires : goal.run_sequence-run_command-now-requires
run_sequence-run_command-now-requires t c =
    let o = c.open-h.ensures (sequence-head _ _ _ _ _ _ _ _ _ c.requires) in
    let x = commands-job _ _ _ _ _ _ _ _ _ c.requires _ _ o _ in
    let more : 0 < c.open-h.result.value / 2 - c.loop.counter = omega (arith, c.loop-test.true) in
    (command_falls _ _ _ _ _ _ _ _ _ c.requires _ _ o _ c.decreases _ (c.loop.invariant.1 x), command-job _ _ _ _ _ _ _ _ _ _ _ _ _ _ (c.loop.invariant.0 x) more)

pub run_sequence-returns-then-now-ne-FINISHED : goal.run_sequence-returns-then-now-ne-FINISHED
run_sequence-returns-then-now-ne-FINISHED t c =
    λ j.
    let x = commands-job _ _ _ _ _ _ _ _ _ j _ _ (c.open-h.ensures (sequence-head _ _ _ _ _ _ _ _ _ j)) _ in
    let l = c.loop.invariant.0 x in
    let more : 0 < c.open-h.result.value / 2 - c.loop.counter = omega (arith, c.loop-test.true) in
    rw c.caught.ensures (sequence-stopped _ _ _ _ _ _ _ _ _ _ _ _ _ _ _ _ _ l more _ _ _ _ (c.run_command-now.ensures (command-job _ _ _ _ _ _ _ _ _ _ _ _ _ _ l more)) c.if-now-ne-FINISHED.true)

pub run_sequence-loop-preserved : goal.run_sequence-loop-preserved
run_sequence-loop-preserved t c =
    let more : 0 < c.open-h.result.value / 2 - c.loop.counter = omega (arith, c.loop-test.true) in (
      λ x. loop_goes_on _ _ _ _ _ _ _ _ _ _ _ _ _ _ (c.loop.invariant.0 x) more _ _ _ _ (c.run_command-now.ensures (command-job _ _ _ _ _ _ _ _ _ _ _ _ _ _ (c.loop.invariant.0 x) more)) c.if-now-ne-FINISHED.false _ (omega arith),
      λ x. omega (arith, c.loop.invariant.1 x, loop_rises _ _ _ _ _ _ _ _ _ _ _ _ _ _ (c.loop.invariant.0 x) more _ _ _ _ (c.run_command-now.ensures (command-job _ _ _ _ _ _ _ _ _ _ _ _ _ _ (c.loop.invariant.0 x) more)) c.if-now-ne-FINISHED.false),
    )

pub run_sequence-returns : goal.run_sequence-returns
run_sequence-returns t c =
    λ j.
    let x = commands-job _ _ _ _ _ _ _ _ _ j _ _ (c.open-h.ensures (sequence-head _ _ _ _ _ _ _ _ _ j)) _ in
    rw c.ended.ensures (sequence-done _ _ _ _ _ _ _ _ _ _ _ _ _ _ _ _ _ (c.loop.invariant.0 x) (omega (arith, c.loop-test.false)))
