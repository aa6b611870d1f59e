use mathlib.Core.Path.{refl}
use native.Mathlib.Nat.{sub-zero}
use native.Mathlib.Omega.{arith}
use borrow.Author.Rules.{rules}
use Rattle.rules_kinds.proofs.KindTests.{runs, runs-not, tries, tries_not}
use Rattle.translate_size.proofs.SequenceSizes.{turn_left, turn_less}
use Rattle.translate_sequence.proofs.WriteLaws.{all_alternatives, alternative_left, loop_starts, loop_done, command-job, loop_goes_on, sequence-deep}
use Rattle.translate_sequence.proofs.WriteLaws.{sequence-head, commands_later, commands-job, starts, command-head}
use Rattle.translate_sequence.proofs.WriteLaws.{command-here, sub-head, sub_later, sub-few, sub-here, sub-job, sub-wrote, leaf-job}
use Rattle.translate_sequence.proofs.WriteLaws.{leaf-wrote, tries_head, tries_start, choice_head, choice_later, choice_few}
use Rattle.translate_sequence.proofs.WriteLaws.{choice_here, choice_job, jump-room, jump-few, tries_on, tries_last}
use Rattle.translate_sequence.proofs.write.+write_command_write_sequence.Goals as goal

pub write_command-open-c-requires : goal.write_command-open-c-requires
write_command-open-c-requires t c = command-head _ _ _ _ _ c.requires

pub write_command-kind_of-kind-requires : goal.write_command-kind_of-kind-requires
write_command-kind_of-kind-requires t c = c.requires.rows

pub write_command-open-b-requires : goal.write_command-open-b-requires
write_command-open-b-requires t c =
    let h = c.open-c.ensures (command-head _ _ _ _ _ c.requires) in
    let z = runs _ _ c.kind_of-kind.ensures _ c.holds_sequence.ensures c.if-holds_sequence.true in
    sub-head _ _ _ _ _ c.requires _ _ h z

pub write_command-size_sequence-inner-requires : goal.write_command-size_sequence-inner-requires
write_command-size_sequence-inner-requires t c =
    let h = c.open-c.ensures (command-head _ _ _ _ _ c.requires) in
    let z = runs _ _ c.kind_of-kind.ensures _ c.holds_sequence.ensures c.if-holds_sequence.true in
    let o = c.open-b.ensures (sub-head _ _ _ _ _ c.requires _ _ h z) in
    sub-here _ _ _ _ _ c.requires _ _ h z _ _ o

pub write_command-record_after-z-requires : goal.write_command-record_after-z-requires
write_command-record_after-z-requires t c =
    let h = c.open-c.ensures (command-head _ _ _ _ _ c.requires) in
    let z = runs _ _ c.kind_of-kind.ensures _ c.holds_sequence.ensures c.if-holds_sequence.true in
    let o = c.open-b.ensures (sub-head _ _ _ _ _ c.requires _ _ h z) in
    omega (arith, sub-few _ _ _ _ _ c.requires _ _ h z _ (c.size_sequence-inner.ensures (sub-here _ _ _ _ _ c.requires _ _ h z _ _ o)).records)

pub write_command-write_sequence-requires : goal.write_command-write_sequence-requires
write_command-write_sequence-requires t c =
    let h = c.open-c.ensures (command-head _ _ _ _ _ c.requires) in
    let z = runs _ _ c.kind_of-kind.ensures _ c.holds_sequence.ensures c.if-holds_sequence.true in
    let o = c.open-b.ensures (sub-head _ _ _ _ _ c.requires _ _ h z) in
    rw c.enter-first.ensures (omega (arith, c.decreases, starts _ _ _ _ _ c.requires, sub_later _ _ _ _ _ c.requires _ _ h z _ _ o), sub-job _ _ _ _ _ c.requires _ _ h z _ _ o)

pub write_command-returns-then-holds_sequence : goal.write_command-returns-then-holds_sequence
write_command-returns-then-holds_sequence t c =
    λ j.
    let h = c.open-c.ensures (command-head _ _ _ _ _ j) in
    let z = runs _ _ c.kind_of-kind.ensures _ c.holds_sequence.ensures c.if-holds_sequence.true in
    let o = c.open-b.ensures (sub-head _ _ _ _ _ j _ _ h z) in
    sub-wrote _ _ _ _ _ j _ _ h z _ _ o _ _ (c.size_sequence-inner.ensures (sub-here _ _ _ _ _ j _ _ h z _ _ o)).records _ _
    ((rw (c.enter-first.ensures, c.record_after-z.ensures) at c.write_sequence.ensures) (sub-job _ _ _ _ _ j _ _ h z _ _ o))

pub write_command-size_command-whole-requires : goal.write_command-size_command-whole-requires
write_command-size_command-whole-requires t c = command-here _ _ _ _ _ c.requires

pub write_command-overflow_add-z : goal.write_command-overflow_add-z
write_command-overflow_add-z t c =
    omega (arith, c.requires.few, (c.size_command-whole.ensures (command-here _ _ _ _ _ c.requires)).records)

pub write_command-open-h-requires : goal.write_command-open-h-requires
write_command-open-h-requires t c =
    let h = c.open-c.ensures (command-head _ _ _ _ _ c.requires) in
    let y = tries _ _ c.kind_of-kind.ensures _ c.holds_alternatives.ensures c.if-holds_alternatives.true in
    tries_head _ _ _ _ _ c.requires _ _ h y

pub write_command-loop-init : goal.write_command-loop-init
write_command-loop-init t c = (
  refl,
  λ j.
      let h = c.open-c.ensures (command-head _ _ _ _ _ j) in
      let y = tries _ _ c.kind_of-kind.ensures _ c.holds_alternatives.ensures c.if-holds_alternatives.true in
      rw (all_alternatives, c.enter-now.ensures)
      (tries_start _ _ _ _ _ j _ _ h y _ _ _ _ (c.open-h.ensures (tries_head _ _ _ _ _ j _ _ h y)) _
      (c.size_command-whole.ensures (command-here _ _ _ _ _ j)).records refl),
)

pub write_command-open-b-requires-in-loop : goal.write_command-open-b-requires-in-loop
write_command-open-b-requires-in-loop t c = choice_head _ _ _ _ _ _ _ _ _ _ _ _ _ (c.loop.invariant.1 c.requires)

pub write_command-size_sequence-alternative-requires : goal.write_command-size_sequence-alternative-requires
write_command-size_sequence-alternative-requires t c =
    let l = c.loop.invariant.1 c.requires in
    let o = c.open-b-in-loop.ensures (choice_head _ _ _ _ _ _ _ _ _ _ _ _ _ l) in
    choice_here _ _ _ _ _ _ _ _ _ _ _ _ _ l _ _ o

pub write_command-overflow_add-after : goal.write_command-overflow_add-after
write_command-overflow_add-after t c =
    let l = c.loop.invariant.1 c.requires in
    let o = c.open-b-in-loop.ensures (choice_head _ _ _ _ _ _ _ _ _ _ _ _ _ l) in
    omega (arith, choice_few _ _ _ _ _ _ _ _ _ _ _ _ _ l (alternative_left _ _ c.loop-test.true) _ (c.size_sequence-alternative.ensures (choice_here _ _ _ _ _ _ _ _ _ _ _ _ _ l _ _ o)).records)

pub write_command-overflow_add-after-in-loop : goal.write_command-overflow_add-after-in-loop
write_command-overflow_add-after-in-loop t c =
    let l = c.loop.invariant.1 c.requires in
    let o = c.open-b-in-loop.ensures (choice_head _ _ _ _ _ _ _ _ _ _ _ _ _ l) in
    omega (arith, choice_few _ _ _ _ _ _ _ _ _ _ _ _ _ l (alternative_left _ _ c.loop-test.true) _ (c.size_sequence-alternative.ensures (choice_here _ _ _ _ _ _ _ _ _ _ _ _ _ l _ _ o)).records)

pub write_command-write_sequence-now-requires : goal.write_command-write_sequence-now-requires
write_command-write_sequence-now-requires t c =
    let l = c.loop.invariant.1 c.requires in
    let o = c.open-b-in-loop.ensures (choice_head _ _ _ _ _ _ _ _ _ _ _ _ _ l) in
    rw c.enter-first-in-loop.ensures (omega (arith, c.decreases, starts _ _ _ _ _ c.requires, choice_later _ _ _ _ _ _ _ _ _ _ _ _ _ l _ _ o), choice_job _ _ _ _ _ _ _ _ _ _ _ _ _ l _ _ o)

pub write_command-put_jump-now-requires : goal.write_command-put_jump-now-requires
write_command-put_jump-now-requires t c =
    let l = c.loop.invariant.1 c.requires in
    let o = c.open-b-in-loop.ensures (choice_head _ _ _ _ _ _ _ _ _ _ _ _ _ l) in
    let w = (rw c.enter-first-in-loop.ensures at c.write_sequence-now.ensures) (choice_job _ _ _ _ _ _ _ _ _ _ _ _ _ l _ _ o) in
    (jump-room _ _ _ _ _ _ _ _ _ _ _ _ _ l _ _ o (alternative_left _ _ c.loop-test.true) _ _ _ w, jump-few _ _ _ _ _ _ _ _ _ _ _ _ _ l _ _ o (alternative_left _ _ c.loop-test.true) _ _ _ w)

pub write_command-loop-preserved : goal.write_command-loop-preserved
write_command-loop-preserved t c = (
  omega (arith, c.loop.invariant.0),
  λ j.
      let l = c.loop.invariant.1 j in
      let o = c.open-b-in-loop.ensures (choice_head _ _ _ _ _ _ _ _ _ _ _ _ _ l) in
      rw turn_less (tries_on _ _ _ _ _ _ _ _ _ _ _ _ _ l _ _ o (alternative_left _ _ c.loop-test.true) _ _ _ ((rw c.enter-first-in-loop.ensures at c.write_sequence-now.ensures)
      (choice_job _ _ _ _ _ _ _ _ _ _ _ _ _ l _ _ o))
      (omega (arith, (c.size_sequence-alternative.ensures (choice_here _ _ _ _ _ _ _ _ _ _ _ _ _ l _ _ o)).records)) _ _
      c.put_jump-now.ensures),
)

pub write_command-open-b-requires-then-holds_alternatives : goal.write_command-open-b-requires-then-holds_alternatives
write_command-open-b-requires-then-holds_alternatives t c = choice_head _ _ _ _ _ _ _ _ _ _ _ _ _ (c.loop.invariant.1 c.requires)

pub write_command-write_sequence-requires-then-holds_alternatives : goal.write_command-write_sequence-requires-then-holds_alternatives
write_command-write_sequence-requires-then-holds_alternatives t c =
    let l = c.loop.invariant.1 c.requires in
    let o = c.open-b-then-holds_alternatives.ensures (choice_head _ _ _ _ _ _ _ _ _ _ _ _ _ l) in
    rw c.enter-last.ensures (omega (arith, c.decreases, starts _ _ _ _ _ c.requires, choice_later _ _ _ _ _ _ _ _ _ _ _ _ _ l _ _ o), choice_job _ _ _ _ _ _ _ _ _ _ _ _ _ l _ _ o)

pub write_command-returns-then-holds_alternatives : goal.write_command-returns-then-holds_alternatives
write_command-returns-then-holds_alternatives t c =
    λ j.
    let l = c.loop.invariant.1 j in
    let o = c.open-b-then-holds_alternatives.ensures (choice_head _ _ _ _ _ _ _ _ _ _ _ _ _ l) in
    tries_last _ _ _ _ _ _ _ _ _ _ _ _ _ l _ _ o (omega (arith, c.loop-test.false, l.some_left)) _ _
    ((rw c.enter-last.ensures at c.write_sequence-then-holds_alternatives.ensures) (choice_job _ _ _ _ _ _ _ _ _ _ _ _ _ l _ _ o))

pub write_command-put_command-requires : goal.write_command-put_command-requires
write_command-put_command-requires t c =
    let h = c.open-c.ensures (command-head _ _ _ _ _ c.requires) in
    let z = runs-not _ _ c.kind_of-kind.ensures _ c.holds_sequence.ensures c.if-holds_sequence.false in
    let y = tries_not _ _ c.kind_of-kind.ensures _ c.holds_alternatives.ensures c.if-holds_alternatives.false in
    leaf-job _ _ _ _ _ c.requires _ _ h z y

pub write_command-returns : goal.write_command-returns
write_command-returns t c =
    λ j.
    let h = c.open-c.ensures (command-head _ _ _ _ _ j) in
    let z = runs-not _ _ c.kind_of-kind.ensures _ c.holds_sequence.ensures c.if-holds_sequence.false in
    let y = tries_not _ _ c.kind_of-kind.ensures _ c.holds_alternatives.ensures c.if-holds_alternatives.false in
    leaf-wrote _ _ _ _ _ j _ _ h z y _ _ _ (c.put_command.ensures (leaf-job _ _ _ _ _ j _ _ h z y))

pub write_sequence-open-h-requires : goal.write_sequence-open-h-requires
write_sequence-open-h-requires t c = sequence-head _ _ _ _ _ c.requires

pub write_sequence-loop-init : goal.write_sequence-loop-init
write_sequence-loop-init t c = (refl, rw sub-zero (loop_starts _ _ _ _ _ _ _ _ _))

pub write_sequence-overflow_sub-depth : goal.write_sequence-overflow_sub-depth
write_sequence-overflow_sub-depth t c = omega (arith, sequence-deep _ _ _ _ _ c.requires)

pub write_sequence-write_command-now-requires : goal.write_sequence-write_command-now-requires
write_sequence-write_command-now-requires t c =
    let q = c.open-h.ensures (sequence-head _ _ _ _ _ c.requires) in
    let l = c.loop.invariant.1 (commands-job _ _ _ _ _ c.requires _ _ q) in
    (omega (arith, c.decreases, sequence-deep _ _ _ _ _ c.requires, commands_later _ _ _ _ _ c.requires _ _ q, l.behind), command-job _ _ _ _ _ _ _ _ _ _ _ _ _ _ l (turn_left _ _ c.loop-test.true))

pub write_sequence-loop-preserved : goal.write_sequence-loop-preserved
write_sequence-loop-preserved t c = (
  search rules,
  λ x.
      let l = c.loop.invariant.1 x in
      let h = turn_left _ _ c.loop-test.true in
      let wrote = c.write_command-now.ensures (command-job _ _ _ _ _ _ _ _ _ _ _ _ _ _ l h) in
      rw turn_less (loop_goes_on _ _ _ _ _ _ _ _ _ _ _ _ _ _ l h _ c.caught-t.ensures _ _ wrote),
)

pub write_sequence-returns : goal.write_sequence-returns
write_sequence-returns t c = λ j.
    let q = c.open-h.ensures (sequence-head _ _ _ _ _ j) in
    rw c.enter.ensures
    (loop_done _ _ _ _ _ _ _ _ _ _ _ _ _ _ (c.loop.invariant.1 (commands-job _ _ _ _ _ j _ _ q)) (omega (arith, c.loop-test.false)) _ refl refl)
