use borrow.Author.Tests.{eq-eqb, ne_eqb}
use Rattle.text.proofs.TextLaws.{wrote_then}
use Rattle.depot_part_names.specs.Names.{key_text}
use Rattle.depot_part_names.proofs.put_key.Goals as goal

pub returns-then-shape_of-eq-MAP : goal.returns-then-shape_of-eq-MAP
unfolding key_text
returns-then-shape_of-eq-MAP c =
    rw (← c.shape_of.ensures, eq-eqb _ _ c.if-shape_of-eq-MAP.true) (wrote_then c.put_name-to.ensures c.put.ensures)

pub returns-else-shape_of-eq-MAP : goal.returns-else-shape_of-eq-MAP
unfolding key_text
returns-else-shape_of-eq-MAP c =
    rw (← c.shape_of.ensures, ne_eqb _ _ c.if-shape_of-eq-MAP.false) (wrote_then c.put_entry-to.ensures c.put-else-shape_of-eq-MAP.ensures)
