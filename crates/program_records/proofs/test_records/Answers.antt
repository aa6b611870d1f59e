use mathlib.Core.Path.{◌∙◌}
use native.Mathlib.Omega.{arith}
use Rattle.program_record.proofs.RecordLaws.{end-room, no_end, no_command, is-command, no_jump, is-jump}
use Rattle.program_records.proofs.RecordsLaws.{sofar_start, sofar_stop, sofar_command, sofar_jump, sofar_end}
use Rattle.program_records.proofs.test_records.Goals as goal
use Rattle.program_records.proofs.test_records.Goals.{then-wide-lt-CODES+else-not-command_fits, else-wide-lt-CODES+else-not-jump_fits}

pub loop-n-init : goal.loop-n-init
loop-n-init c = sofar_start _ _ _ _ _ c.requires.0

pub record_end-requires : goal.record_end-requires
record_end-requires c = c.loop-n.invariant.here

pub returns-in_err-next : goal.returns-in_err-next
returns-in_err-next c =
    c.from_residual.ensures
    ∙ sofar_stop _ _ _ _ _ _ _ _ c.loop-n.invariant (omega arith)
    (no_end _ _ _ _ _ _ c.in_err-next.ensures)

pub overflow_add-from : goal.overflow_add-from
overflow_add-from c = omega (arith, end-room _ _ _ c.in_ok-next.ensures)

pub bounds-p-from : goal.bounds-p-from
bounds-p-from c = omega (arith, end-room _ _ _ c.in_ok-next.ensures)

pub command_fits-requires : goal.command_fits-requires
command_fits-requires c =
    let r = end-room _ _ _ c.in_ok-next.ensures in
    (r.0, r.1, c.requires.1, omega (arith, c.wide.ensures.0, c.if-wide-lt-CODES.true))

pub returns-then-not-command_fits : goal.returns-then-not-command_fits
returns-then-not-command_fits c =
    sofar_stop _ _ _ _ _ _ _ _ c.loop-n.invariant (omega arith)
    (no_command _ _ _ _ _ _ _ c.in_ok-next.ensures _ c.wide.ensures.0 c.if-wide-lt-CODES.true _ c.command_fits.ensures c.if-not-command_fits.true)

pub jump_fits-requires : goal.jump_fits-requires
jump_fits-requires c =
    omega (arith, end-room _ _ _ c.in_ok-next.ensures)

pub returns-then-not-jump_fits : goal.returns-then-not-jump_fits
returns-then-not-jump_fits c =
    sofar_stop _ _ _ _ _ _ _ _ c.loop-n.invariant (omega arith)
    (no_jump _ _ _ _ _ _ _ c.in_ok-next.ensures _ c.wide.ensures.0 c.if-wide-lt-CODES.false _ c.jump_fits.ensures c.if-not-jump_fits.true)

pub overflow_add-jumps : goal.overflow_add-jumps
overflow_add-jumps c = omega (arith, c.loop-n.invariant.count)

pub loop-n-preserved : goal.loop-n-preserved
loop-n-preserved c =
    let r = end-room _ _ _ c.in_ok-next.ensures in
    elim c.if-wide-lt-CODES.branch [
      | then-wide-lt-CODES+else-not-command_fits w ↦
          let (op, k) = is-command _ _ _ _ _ _ _ c.in_ok-next.ensures _ c.wide.ensures.0 w.if-wide-lt-CODES.true _ w.command_fits.ensures w.if-not-command_fits.false in
          sofar_command _ _ _ _ _ _ _ _ c.loop-n.invariant (omega arith) _ _ r.1 op _ _ _ k w.jumps-is
      | else-wide-lt-CODES+else-not-jump_fits w ↦
          let k = is-jump _ _ _ _ _ _ _ c.in_ok-next.ensures _ c.wide.ensures.0 w.if-wide-lt-CODES.false _ w.jump_fits.ensures w.if-not-jump_fits.false in
          sofar_jump _ _ _ _ _ _ _ _ c.loop-n.invariant (omega arith) _ _ r.1 _ k w.jumps-is
    ]

pub overflow_sub-result : goal.overflow_sub-result
overflow_sub-result c = omega (arith, c.loop-n.invariant.count)

pub returns : goal.returns
returns c = sofar_end _ _ _ _ _ _ _ _ c.loop-n.invariant (omega arith)
