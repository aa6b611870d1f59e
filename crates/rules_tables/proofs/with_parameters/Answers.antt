use Rattle.rules.specs.Tables.{table_of, by_number}
use Rattle.rules_tables.proofs.with_parameters.Goals as goal

pub loop-row-init : goal.loop-row-init
unfolding table_of by_number
loop-row-init c = rw (c.requires.0, c.requires.1)
