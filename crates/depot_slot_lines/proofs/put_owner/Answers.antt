use Rattle.text.proofs.TextLaws.{wrote_then}
use Rattle.depot_slot_lines.specs.SlotLines.{owner_text}
use Rattle.depot_slot_lines.proofs.put_owner.Goals as goal

pub returns-in-Some : goal.returns-in-Some
unfolding owner_text
returns-in-Some c = rw c.in-Some.is (wrote_then c.put-a.ensures c.put_padded.ensures)

pub returns-in-None : goal.returns-in-None
unfolding owner_text
returns-in-None c = rw c.in-None.is (wrote_then c.put-a.ensures c.put.ensures)
