use Rattle.text.proofs.TextLaws.{wrote_then}
use Rattle.device_faults.proofs.image.put_digest.Goals as goal

pub returns : goal.returns
returns c =
    wrote_then (wrote_then c.put-a.ensures c.put_labelled-b.ensures) c.put.ensures
