use borrow.Author.Rules.{rules}
use borrow.Author.Tests.{ne_eqb}
use Rattle.depot_parts.specs.Parts.{manifest_key}
use Rattle.depot_part_names.specs.Names.{envelope_title}
use Rattle.depot_part_names.proofs.put_envelope_title.Goals as goal

pub returns-in_default : goal.returns-in_default
unfolding envelope_title
returns-in_default c = rw (ne_eqb c.args.key manifest_key (search rules)) c.put.ensures
