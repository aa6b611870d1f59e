use mathlib.Core.Path.{refl}
use lib.ListN.{length}
use Rattle.rules.specs.Program.{translate}
use Rattle.pitvorgas_answers.specs.Inputs.{group_of}
use Rattle.pitvorgas.proofs.AnswerLaws.{refused_translation, program_translation}
use Rattle.pitvorgas.proofs.pitvorgas_translate.Goals as goal

pub returns-in-Err : goal.returns-in-Err
returns-in-Err c =
    refused_translation (translate c.args.envelope.now (group_of c.args.boot) (length c.args.room.now)) _ c.args.room.now _
    (rw c.group_of.ensures at c.in-Err.ensures) c.in-Err.fault.refusal c.in-Err.fault.at _ refl c.number.ensures

pub returns-in-Ok : goal.returns-in-Ok
returns-in-Ok c =
    program_translation (translate c.args.envelope.now (group_of c.args.boot) (length c.args.room.now)) _ c.args.room.now _
    (rw c.group_of.ensures at c.in-Ok.ensures) _ refl
