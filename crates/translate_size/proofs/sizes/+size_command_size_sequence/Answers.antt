use native.Mathlib.Nat.{sub-zero}
use native.Mathlib.Omega.{arith}
use Rattle.rules_kinds.proofs.KindTests.{runs, runs-not, tries, tries_not}
use Rattle.translate_size.proofs.SequenceSizes.{turn_left, turn_less, sequence-head, sequence-deep, commands-start, command-here, commands-small, commands-on, commands-done}
use Rattle.translate_size.proofs.CommandSizes.{starts, command-head, sub-head, sub_later, sub-here, sub_sized, one-here}
use Rattle.translate_size.proofs.CommandSizes.{one-small, one_sized, tries_head, tries_some, choices_start, choice_head, choice_later}
use Rattle.translate_size.proofs.CommandSizes.{choice_here, choices_small, choices_on, choices_done}
use Rattle.translate_size.proofs.sizes.+size_command_size_sequence.Goals as goal

pub size_command-open-c-requires : goal.size_command-open-c-requires
size_command-open-c-requires t c = command-head _ _ _ _ c.requires

pub size_command-kind_of-kind-requires : goal.size_command-kind_of-kind-requires
size_command-kind_of-kind-requires t c = c.requires.rows

pub size_command-open-b-requires : goal.size_command-open-b-requires
size_command-open-b-requires t c =
    let h = c.open-c.ensures (command-head _ _ _ _ c.requires) in
    let z = runs _ _ c.kind_of-kind.ensures _ c.holds_sequence.ensures c.if-holds_sequence.true in
    sub-head _ _ _ _ c.requires _ _ h z

pub size_command-size_sequence-requires : goal.size_command-size_sequence-requires
size_command-size_sequence-requires t c =
    let h = c.open-c.ensures (command-head _ _ _ _ c.requires) in
    let z = runs _ _ c.kind_of-kind.ensures _ c.holds_sequence.ensures c.if-holds_sequence.true in
    let o = c.open-b.ensures (sub-head _ _ _ _ c.requires _ _ h z) in
    (omega (arith, c.decreases, starts _ _ _ _ c.requires, sub_later _ _ _ _ c.requires _ _ h z _ _ o), sub-here _ _ _ _ c.requires _ _ h z _ _ o)

pub size_command-returns-then-holds_sequence : goal.size_command-returns-then-holds_sequence
size_command-returns-then-holds_sequence t c =
    λ j.
    let h = c.open-c.ensures (command-head _ _ _ _ j) in
    let z = runs _ _ c.kind_of-kind.ensures _ c.holds_sequence.ensures c.if-holds_sequence.true in
    let o = c.open-b.ensures (sub-head _ _ _ _ j _ _ h z) in
    sub_sized _ _ _ _ j _ _ h z _ _ o _ (c.size_sequence.ensures (sub-here _ _ _ _ j _ _ h z _ _ o))

pub size_command-open-h-requires : goal.size_command-open-h-requires
size_command-open-h-requires t c =
    let h = c.open-c.ensures (command-head _ _ _ _ c.requires) in
    let y = tries _ _ c.kind_of-kind.ensures _ c.holds_alternatives.ensures c.if-holds_alternatives.true in
    tries_head _ _ _ _ c.requires _ _ h y

pub size_command-overflow_sub-now : goal.size_command-overflow_sub-now
size_command-overflow_sub-now t c =
    let h = c.open-c.ensures (command-head _ _ _ _ c.requires) in
    let y = tries _ _ c.kind_of-kind.ensures _ c.holds_alternatives.ensures c.if-holds_alternatives.true in
    let o = c.open-h.ensures (tries_head _ _ _ _ c.requires _ _ h y) in
    omega (arith, tries_some _ _ _ _ c.requires _ _ h y _ _ o)

pub size_command-loop-init : goal.size_command-loop-init
size_command-loop-init t c =
    λ j.
    let h = c.open-c.ensures (command-head _ _ _ _ j) in
    let y = tries _ _ c.kind_of-kind.ensures _ c.holds_alternatives.ensures c.if-holds_alternatives.true in
    let o = c.open-h.ensures (tries_head _ _ _ _ j _ _ h y) in
    rw sub-zero (choices_start _ _ _ _ j _ _ h y _ _ o)

pub size_command-open-b-requires-in-loop : goal.size_command-open-b-requires-in-loop
size_command-open-b-requires-in-loop t c =
    let l = c.loop.invariant c.requires in
    choice_head _ _ _ _ _ _ _ _ l (turn_left _ _ c.loop-test.true)

pub size_command-size_sequence-r-requires : goal.size_command-size_sequence-r-requires
size_command-size_sequence-r-requires t c =
    let l = c.loop.invariant c.requires in
    let o = c.open-b-in-loop.ensures (choice_head _ _ _ _ _ _ _ _ l (turn_left _ _ c.loop-test.true)) in
    (omega (arith, c.decreases, starts _ _ _ _ c.requires, choice_later _ _ _ _ _ _ _ _ l (turn_left _ _ c.loop-test.true) _ _ o), choice_here _ _ _ _ _ _ _ _ l (turn_left _ _ c.loop-test.true) _ _ o)

pub size_command-overflow_add-now : goal.size_command-overflow_add-now
size_command-overflow_add-now t c =
    let l = c.loop.invariant c.requires in
    let o = c.open-b-in-loop.ensures (choice_head _ _ _ _ _ _ _ _ l (turn_left _ _ c.loop-test.true)) in
    omega (arith, (choices_small _ _ _ _ _ _ _ _ l (turn_left _ _ c.loop-test.true) _ _ o _ (c.size_sequence-r.ensures (choice_here _ _ _ _ _ _ _ _ l (turn_left _ _ c.loop-test.true) _ _ o))).0)

pub size_command-overflow_add-now-in-loop : goal.size_command-overflow_add-now-in-loop
size_command-overflow_add-now-in-loop t c =
    let l = c.loop.invariant c.requires in
    let o = c.open-b-in-loop.ensures (choice_head _ _ _ _ _ _ _ _ l (turn_left _ _ c.loop-test.true)) in
    omega (arith, (choices_small _ _ _ _ _ _ _ _ l (turn_left _ _ c.loop-test.true) _ _ o _ (c.size_sequence-r.ensures (choice_here _ _ _ _ _ _ _ _ l (turn_left _ _ c.loop-test.true) _ _ o))).1)

pub size_command-loop-preserved : goal.size_command-loop-preserved
size_command-loop-preserved t c =
    λ j.
    let l = c.loop.invariant j in
    let o = c.open-b-in-loop.ensures (choice_head _ _ _ _ _ _ _ _ l (turn_left _ _ c.loop-test.true)) in
    rw turn_less (choices_on _ _ _ _ _ _ _ _ l (turn_left _ _ c.loop-test.true) _ _ o _ (c.size_sequence-r.ensures (choice_here _ _ _ _ _ _ _ _ l (turn_left _ _ c.loop-test.true) _ _ o)))

pub size_command-returns-then-holds_alternatives : goal.size_command-returns-then-holds_alternatives
size_command-returns-then-holds_alternatives t c = λ j. choices_done _ _ _ _ _ _ _ _ (c.loop.invariant j) (omega (arith, c.loop-test.false))

pub size_command-read_one-a-requires : goal.size_command-read_one-a-requires
size_command-read_one-a-requires t c =
    let h = c.open-c.ensures (command-head _ _ _ _ c.requires) in
    let z = runs-not _ _ c.kind_of-kind.ensures _ c.holds_sequence.ensures c.if-holds_sequence.false in
    let y = tries_not _ _ c.kind_of-kind.ensures _ c.holds_alternatives.ensures c.if-holds_alternatives.false in
    one-here _ _ _ _ c.requires _ _ h z y

pub size_command-argument_size-requires : goal.size_command-argument_size-requires
size_command-argument_size-requires t c =
    let h = c.open-c.ensures (command-head _ _ _ _ c.requires) in
    let z = runs-not _ _ c.kind_of-kind.ensures _ c.holds_sequence.ensures c.if-holds_sequence.false in
    let y = tries_not _ _ c.kind_of-kind.ensures _ c.holds_alternatives.ensures c.if-holds_alternatives.false in
    one-small _ _ _ _ c.requires _ _ h z y _ (c.read_one-a.ensures (one-here _ _ _ _ c.requires _ _ h z y)) _ c.kind_of-kind.ensures

pub size_command-returns : goal.size_command-returns
size_command-returns t c =
    λ j.
    let h = c.open-c.ensures (command-head _ _ _ _ j) in
    let z = runs-not _ _ c.kind_of-kind.ensures _ c.holds_sequence.ensures c.if-holds_sequence.false in
    let y = tries_not _ _ c.kind_of-kind.ensures _ c.holds_alternatives.ensures c.if-holds_alternatives.false in
    one_sized _ _ _ _ j _ _ h z y _ (c.read_one-a.ensures (one-here _ _ _ _ j _ _ h z y)) _ c.kind_of-kind.ensures _ c.argument_size.ensures

pub size_sequence-open-h-requires : goal.size_sequence-open-h-requires
size_sequence-open-h-requires t c = sequence-head _ _ _ _ c.requires

pub size_sequence-loop-init : goal.size_sequence-loop-init
size_sequence-loop-init t c = λ j. rw sub-zero (commands-start _ _ _ _ j _ _ (c.open-h.ensures (sequence-head _ _ _ _ j)))

pub size_sequence-overflow_sub-depth : goal.size_sequence-overflow_sub-depth
size_sequence-overflow_sub-depth t c = omega (arith, sequence-deep _ _ _ _ c.requires)

pub size_sequence-size_command-c-requires : goal.size_sequence-size_command-c-requires
size_sequence-size_command-c-requires t c =
    let l = c.loop.invariant c.requires in
    (omega (arith, c.decreases, sequence-deep _ _ _ _ c.requires, l.behind), command-here _ _ _ _ _ _ _ _ l (turn_left _ _ c.loop-test.true))

pub size_sequence-overflow_add-now : goal.size_sequence-overflow_add-now
size_sequence-overflow_add-now t c =
    let l = c.loop.invariant c.requires in
    omega (arith, (commands-small _ _ _ _ _ _ _ _ l (turn_left _ _ c.loop-test.true) _ (c.size_command-c.ensures (command-here _ _ _ _ _ _ _ _ l (turn_left _ _ c.loop-test.true)))).0)

pub size_sequence-overflow_add-now-in-loop : goal.size_sequence-overflow_add-now-in-loop
size_sequence-overflow_add-now-in-loop t c =
    let l = c.loop.invariant c.requires in
    omega (arith, (commands-small _ _ _ _ _ _ _ _ l (turn_left _ _ c.loop-test.true) _ (c.size_command-c.ensures (command-here _ _ _ _ _ _ _ _ l (turn_left _ _ c.loop-test.true)))).1)

pub size_sequence-loop-preserved : goal.size_sequence-loop-preserved
size_sequence-loop-preserved t c =
    λ j.
    let l = c.loop.invariant (j) in
    rw turn_less (commands-on _ _ _ _ _ _ _ _ l (turn_left _ _ c.loop-test.true) _ (c.size_command-c.ensures (command-here _ _ _ _ _ _ _ _ l (turn_left _ _ c.loop-test.true))))

pub size_sequence-returns : goal.size_sequence-returns
size_sequence-returns t c = λ j. commands-done _ _ _ _ _ _ _ _ (c.loop.invariant j) (omega (arith, c.loop-test.false))
