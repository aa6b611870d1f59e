use mathlib.Core.Path.{refl}
use Rattle.text.specs.Text.{ascii}
use Rattle.depot_usage.specs.Usage.{told_of, job_of}
use Rattle.depot_usage.proofs.WordLaws.{not_text}
use Rattle.depot_usage.proofs.job_of.Goals as goal

pub returns-in_default : goal.returns-in_default
unfolding told_of job_of
returns-in_default c =
    let no = not_text c.args.word.now in
    let h = c.in_default.ensures.cases.0 in
    rw (
      no (ascii "check") h refl,
      no (ascii "show") h refl,
      no (ascii "newer") h refl,
      no (ascii "translate") h refl,
      no (ascii "list") h refl,
      no (ascii "run") h refl,
      no (ascii "run-program") h refl,
      no (ascii "batch") h refl,
      no (ascii "help") h refl,
      no (ascii "--help") h refl,
      no (ascii "-h") h refl,
      no (ascii "--version") h refl,
    )
