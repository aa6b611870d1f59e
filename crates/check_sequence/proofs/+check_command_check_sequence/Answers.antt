use mathlib.Core.Path.{refl, sym, ◌∙◌}
use mathlib.Core.Logic.{inl}
use native.Mathlib.Omega.{arith}
use borrow.Author.Rules.{rules}
use Rattle.cbor_reading.proofs.ReadingLaws.{handed, item-stopped, item_went, string-fits, rest, above, reading-stopped}
use Rattle.rules.proofs.CheckLaws.{item_law}
use Rattle.check_command.proofs.CommandLaws.{start_forth}
use Rattle.check_sequence.proofs.SequenceLaws.{all-left, opened, read, done, command_forth, command_stop, command_opened, nested-none}
use Rattle.check_sequence.proofs.SequenceLaws.{nested_stop, nested-bad, nested-left_over, nested-more, commands-none, commands_stop}
use Rattle.check_sequence.proofs.SequenceLaws.{commands-more, sequence_stop, sequence_odd, sequence-deep, sequence_body}
use Rattle.check_sequence.proofs.+check_command_check_sequence.Goals as goal

pub check_command-returns-in_err-o : goal.check_command-returns-in_err-o
check_command-returns-in_err-o t c =
    handed _ _ c.from_residual.ensures.1 ∙ command_stop _ _ _ _ _ _ _ _ _ (reading-stopped (λ k. k) _ _ c.in_err-o.ensures)

pub check_command-overflow_add-sum : goal.check_command-overflow_add-sum
check_command-overflow_add-sum t c =
    omega (arith, (start_forth _ _ _ _ _ _ _ _ _ (opened _ _ _ _ _ _ _ _ c.in_ok-o.ensures)).0)

pub check_command-loop-init : goal.check_command-loop-init
check_command-loop-init t c =
    let o = opened _ _ _ _ _ _ _ _ c.in_ok-o.ensures in
    (simp all-left (command_opened _ _ _ _ _ _ _ _ _ _ o), (start_forth _ _ _ _ _ _ _ _ _ o).1)

pub check_command-returns-in_err-b : goal.check_command-returns-in_err-b
check_command-returns-in_err-b t c =
    handed _ _ c.from_residual-in_err-b.ensures.1
    ∙ nested_stop _ _ _ _ _ _ _ _ (rest _ _ c.loop-test.true) _ (item-stopped _ _ _ _ _ _ _ c.in_err-b.ensures)
    ∙ sym c.loop.invariant.0

pub check_command-overflow_add-to : goal.check_command-overflow_add-to
check_command-overflow_add-to t c =
    omega (arith, string-fits _ _ _ _ _ _ _ (inl refl) (item_went _ _ _ _ _ _ _ c.in_ok-b.ensures))

pub check_command-check_sequence-requires : goal.check_command-check_sequence-requires
check_command-check_sequence-requires t c =
    let i = item_went _ _ _ _ _ _ _ c.in_ok-b.ensures in
    let f = string-fits _ _ _ _ _ _ _ (inl refl) i in (
      omega (arith, f, (item_law _ _ _ _ _ _ _ i).up, c.loop.invariant.1),
      (omega (arith, f), search rules, search rules, search rules),
    )

pub check_command-returns-in_err-r : goal.check_command-returns-in_err-r
check_command-returns-in_err-r t c =
    handed _ _ c.from_residual-in_err-r.ensures.1
    ∙ nested-bad _ _ _ _ _ _ _ _ (rest _ _ c.loop-test.true) _ _ (item_went _ _ _ _ _ _ _ c.in_ok-b.ensures)
    _ (reading-stopped (λ a. _) _ _ c.in_err-r.ensures)
    ∙ sym c.loop.invariant.0

pub check_command-returns-then-r-to : goal.check_command-returns-then-r-to
check_command-returns-then-r-to t c =
    let (a, w, v) = read _ _ _ _ _ _ _ _ _ c.in_ok-r.ensures in
    c.refuse.ensures
    ∙ nested-left_over _ _ _ _ _ _ _ _ (rest _ _ c.loop-test.true) _ _ (item_went _ _ _ _ _ _ _ c.in_ok-b.ensures) a _ w c.if-r-to.true
    ∙ sym c.loop.invariant.0

pub check_command-loop-preserved : goal.check_command-loop-preserved
check_command-loop-preserved t c =
    let i = item_went _ _ _ _ _ _ _ c.in_ok-b.ensures in
    let (a, w, v) = read _ _ _ _ _ _ _ _ _ c.in_ok-r.ensures in (
      c.loop.invariant.0 ∙ nested-more _ _ _ _ _ _ _ _ (rest _ _ c.loop-test.true) _ _ i a _ w c.if-r-to.false _ v,
      omega (arith, (item_law _ _ _ _ _ _ _ i).up, c.loop.invariant.1),
    )

pub check_command-returns : goal.check_command-returns
check_command-returns t c = nested-none _ _ _ _ _ _ _ (omega arith) ∙ sym c.loop.invariant.0

pub check_sequence-returns-in_err-h : goal.check_sequence-returns-in_err-h
check_sequence-returns-in_err-h t c =
    handed _ _ c.from_residual.ensures.1 ∙ sequence_stop _ _ _ _ _ _ _ _ _ (item-stopped _ _ _ _ _ _ _ c.in_err-h.ensures)

pub check_sequence-returns-then-h-ne0 : goal.check_sequence-returns-then-h-ne0
check_sequence-returns-then-h-ne0 t c =
    c.refuse.ensures ∙ sequence_odd _ _ _ _ _ _ _ _ _ _ (item_went _ _ _ _ _ _ _ c.in_ok-h.ensures) c.if-h-ne0.true

pub check_sequence-returns-then-depth-eq0 : goal.check_sequence-returns-then-depth-eq0
check_sequence-returns-then-depth-eq0 t c =
    c.refuse-then-depth-eq0.ensures
    ∙ sequence-deep _ _ _ _ _ _ _ _ _ _ (item_went _ _ _ _ _ _ _ c.in_ok-h.ensures) c.if-h-ne0.false c.if-depth-eq0.true

pub check_sequence-loop-init : goal.check_sequence-loop-init
check_sequence-loop-init t c =
    let i = item_went _ _ _ _ _ _ _ c.in_ok-h.ensures in
    (simp all-left (sequence_body _ _ _ _ _ _ _ _ _ _ i c.if-h-ne0.false _ (above _ c.if-depth-eq0.false)), (item_law _ _ _ _ _ _ _ i).up)

pub check_sequence-returns-in_err-c : goal.check_sequence-returns-in_err-c
check_sequence-returns-in_err-c t c =
    handed _ _ c.from_residual-in_err-c.ensures.1
    ∙ commands_stop _ _ _ _ _ _ _ _ _ _ (rest _ _ c.loop-test.true) _ (reading-stopped (λ a. _) _ _ c.in_err-c.ensures)
    ∙ sym c.loop.invariant.0

pub check_sequence-loop-preserved : goal.check_sequence-loop-preserved
check_sequence-loop-preserved t c =
    let (a, w, v) = done _ _ _ _ _ _ _ _ _ c.in_ok-c.ensures in (
      c.loop.invariant.0 ∙ commands-more _ _ _ _ _ _ _ _ _ _ (rest _ _ c.loop-test.true) a _ w _ v,
      omega (arith, command_forth _ _ _ _ _ _ _ _ _ _ w, c.loop.invariant.1),
    )

pub check_sequence-returns : goal.check_sequence-returns
check_sequence-returns t c = commands-none _ _ _ _ _ _ _ _ _ (omega arith) ∙ sym c.loop.invariant.0
