use Rattle.rules.specs.Tables.{table_of}
use Rattle.rules_tables.proofs.with_commands.Goals as goal

pub loop-row-init : goal.loop-row-init
unfolding table_of
loop-row-init c = rw c.requires
