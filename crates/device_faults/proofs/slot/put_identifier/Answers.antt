use Rattle.text.proofs.TextLaws.{wrote_then}
use Rattle.device_faults.proofs.slot.put_identifier.Goals as goal

pub returns : goal.returns
returns c =
    wrote_then c.put_labelled-a.ensures c.put.ensures
