use Rattle.text.proofs.TextLaws.{wrote_then}
use Rattle.device_faults.specs.Faults.{unknown_text}
use Rattle.device_faults.proofs.setting.put_unknown.Goals as goal

pub returns : goal.returns
unfolding unknown_text
returns c =
    rw (← c.shown.ensures) (wrote_then c.put-a.ensures c.put_quoted.ensures)
