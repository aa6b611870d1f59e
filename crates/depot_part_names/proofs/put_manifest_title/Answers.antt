use borrow.Author.Rules.{rules}
use borrow.Author.Tests.{lt-ltb, le-ltb, ne_eqb}
use Rattle.text.proofs.TextLaws.{wrote_none}
use Rattle.rules.specs.Commands.{COMMON}
use Rattle.depot_part_names.specs.Names.{number_key, manifest_title}
use Rattle.depot_part_names.proofs.put_manifest_title.Goals as goal

pub returns-in-3 : goal.returns-in-3
unfolding manifest_title
returns-in-3 c = rw c.in-3.is (wrote_none _ _)

pub returns-in-2 : goal.returns-in-2
unfolding manifest_title
returns-in-2 c = rw c.in-2.is c.put.ensures

pub returns-in_default : goal.returns-in_default
unfolding manifest_title
returns-in_default c = rw (lt-ltb COMMON _ c.if-key-gt-COMMON.true) c.put_section_title.ensures

pub returns-in_default-2 : goal.returns-in_default-2
unfolding manifest_title
returns-in_default-2 c =
    rw (le-ltb COMMON _ c.if-key-gt-COMMON.false, ne_eqb c.args.key COMMON (search rules), ne_eqb c.args.key number_key (search rules)) c.put-in_default-2.ensures
