use mathlib.Core.Path.{refl}
use Rattle.text.specs.Text.{ascii}
use Rattle.depot_usage.specs.Usage.{asked_of}
use Rattle.depot_usage.proofs.WordLaws.{not_text}
use Rattle.depot_usage.proofs.asked_group.Goals as goal

pub returns-in_default : goal.returns-in_default
unfolding asked_of
returns-in_default c =
    let no = not_text c.args.word.now in
    let h = c.in_default.ensures.cases.0 in
    rw (no (ascii "install") h refl, no (ascii "boot") h refl)
