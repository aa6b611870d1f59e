use Rattle.text.proofs.TextLaws.{wrote_then}
use Rattle.device_faults.specs.Faults.{sixteen_text}
use Rattle.device_faults.proofs.setting.put_sixteen.Goals as goal

pub returns : goal.returns
unfolding sixteen_text
returns c =
    wrote_then (wrote_then c.put-a.ensures c.put_labelled-b.ensures) c.put.ensures
