use mathlib.Core.Path.{◌≡◌, ap, ◌∙◌}
use mathlib.Core.Bool.{false, not}
use Rattle.rules.specs.Limits.{limits}
use Rattle.device_text.specs.Words as Words
use Rattle.device_text.proofs.WordLaws.{decimal-none}
use Rattle.device_faults.specs.Faults.{slot_fault}
use Rattle.device_faults.proofs.slot.put_slot_fault.Goals as goal

pub returns-then-is_none : goal.returns-then-is_none
unfolding slot_fault
returns-then-is_none c =
    let none : Words.is_number (Words.word (Words.rest c.args.t.now)) ≡ false = decimal-none _ c.decimal.ensures (c.word-2.ensures ∙ ap Words.word c.rest-t2.ensures) (c.is_none.ensures ∙ ap not c.if-is_none.true) in
    let long = c.up_to_bytes.ensures ∙ ap (Words.up_to_bytes limits.identifier) c.word.ensures in
    rw (← long, c.if-not-up_to_bytes.false, none) c.put_labelled.ensures
