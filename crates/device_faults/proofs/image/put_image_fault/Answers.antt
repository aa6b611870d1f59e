use mathlib.Core.Path.{◌≡◌, ap, ◌∙◌}
use mathlib.Core.Bool.{false, not}
use Rattle.text.proofs.TextLaws.{wrote_then}
use Rattle.device_text.specs.Words as Words
use Rattle.device_text.proofs.WordLaws.{decimal-none}
use Rattle.device_faults.specs.Faults.{image_fault}
use Rattle.device_faults.proofs.image.put_image_fault.Goals as goal

pub returns-then-is_none : goal.returns-then-is_none
unfolding image_fault
returns-then-is_none c =
    let none : Words.is_number (Words.word c.args.t.now) ≡ false = decimal-none _ c.decimal.ensures c.word.ensures (c.is_none.ensures ∙ ap not c.if-is_none.true) in
    rw none (wrote_then c.put-a.ensures c.put_labelled.ensures)
