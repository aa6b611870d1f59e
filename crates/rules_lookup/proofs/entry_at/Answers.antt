use Rattle.rules_lookup.proofs.LookUpLaws.{entry_at}
use Rattle.rules_lookup.proofs.entry_at.Goals as goal

pub returns : goal.returns
returns c =
    rw (c.condition_in.ensures, c.kind_in.ensures, c.sections_in.ensures)
    (entry_at c.args.table.now c.args.code c.requires.0 c.requires.1)
