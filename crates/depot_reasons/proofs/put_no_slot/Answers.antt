use Rattle.text.proofs.TextLaws.{wrote_none, wrote_then}
use Rattle.depot_reasons.specs.First.{first}
use Rattle.depot_reasons.specs.Reasons.{no_slot_text, without_text}
use Rattle.text_pieces.specs.Pieces.{between}
use Rattle.depot_reasons.proofs.put_no_slot.Goals as goal

pub returns-in_default : goal.returns-in_default
unfolding no_slot_text first
returns-in_default c = rw (← c.in_default.ensures.which) (wrote_none _ _)

pub returns : goal.returns
unfolding no_slot_text without_text between first
returns c =
    rw (← c.in-Some.ensures.which) (wrote_then (wrote_then (wrote_then c.put_labelled-a.ensures c.put-b.ensures)
    c.put_identifier_at-c.ensures) c.put_byte.ensures)
