use mathlib.Core.Path.{refl}
use Rattle.text.specs.Text.{ascii}
use Rattle.device_description.proofs.WordLaws.{not_text}
use Rattle.device_faults.specs.Faults.{setting_fault}
use Rattle.device_faults.proofs.setting.put_setting_fault.Goals as goal

pub returns-in_default : goal.returns-in_default
unfolding setting_fault
returns-in_default c =
    let no = not_text c.args.w.now in
    let h = c.in_default.ensures.cases.0 in
    rw (no (ascii "verdict") h refl, no (ascii "vendor") h refl, no (ascii "class") h refl, no (ascii "number") h refl, no (ascii "event") h refl)
    c.put_unknown.ensures

pub returns-in-event : goal.returns-in-event
unfolding setting_fault
returns-in-event c = rw (← c.in-Ok.ensures.cases.0, c.in-event.is) c.put-in-event.ensures
