use Rattle.text.proofs.TextLaws.{wrote_then}
use Rattle.depot_reasons.specs.Reasons.{numbers_text}
use Rattle.depot_reasons.proofs.put_numbers.Goals as goal

pub returns : goal.returns
unfolding numbers_text
returns c =
    wrote_then (wrote_then (wrote_then c.put_group-a.ensures c.put_labelled-b.ensures) c.put_labelled-c.ensures) c.put_byte.ensures
