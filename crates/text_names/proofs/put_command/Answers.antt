use Rattle.text_names.specs.Words.{command_words}
use Rattle.text_rows.proofs.RowLaws.{wide-none}
use Rattle.text_names.proofs.put_command.Goals as goal

pub returns : goal.returns
returns c =
    rw (← wide-none (command_words c.args.code)) c.put_command_wide.ensures
