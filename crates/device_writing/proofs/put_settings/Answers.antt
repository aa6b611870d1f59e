use Rattle.text.proofs.TextLaws.{wrote_then}
use Rattle.device_writing.specs.Device.{setting_lines}
use Rattle.device_writing.proofs.put_settings.Goals as goal

pub returns : goal.returns
unfolding setting_lines
returns c =
    wrote_then (wrote_then (wrote_then (wrote_then c.put_flag-a.ensures c.put_name-b.ensures) c.put_name-c.ensures) c.put_number-e.ensures) c.put_flag.ensures
