use Rattle.text.proofs.TextLaws.{wrote_then}
use Rattle.device_faults.proofs.image.put_too_many.Goals as goal

pub returns : goal.returns
returns c =
    wrote_then (wrote_then (wrote_then c.put_labelled-a.ensures c.put_byte-b.ensures) c.put-c.ensures) c.put_byte.ensures
