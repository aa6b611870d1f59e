use Rattle.agreement.proofs.AgreementLaws.{refused_agrees, program_agrees}
use Rattle.agreement.proofs.agree.Goals as goal
use mathlib.Core.Path.{refl}

pub returns-in-Err : goal.returns-in-Err
returns-in-Err c =
    refused_agrees c.args.s.now c.args.group c.args.verdict c.args.device c.args.answers.now c.args.room.now c.translate-translated.new.room c.args.pslots.now c.args.ptrace.now c.args.eslots.now
    _ c.args.etrace.now _ _
    c.run-envelope.ensures _ c.in-Err.fault.refusal c.in-Err.fault.at c.in-Err.is c.translate-translated.ensures _ c.refused-program.ensures

pub returns-in-Ok : goal.returns-in-Ok
returns-in-Ok c =
    program_agrees c.args.s.now c.args.group c.args.verdict c.args.device c.args.answers.now c.args.room.now c.translate-translated.new.room c.args.pslots.now c.args.ptrace.now c.args.eslots.now
    _ c.args.etrace.now _ _
    c.run-envelope.ensures _ _ c.in-Ok.is c.translate-translated.ensures _ refl _ _ _
    c.run_program-program.ensures
