use mathlib.Core.Path.{◌≡◌, ap, ◌∙◌}
use Rattle.rules.specs.Bytes.{be4}
use Rattle.text.proofs.TextLaws.{wrote_then}
use Rattle.device_text.specs.Words as Words
use Rattle.device_slots.specs.SlotText as Rule
use Rattle.device_slots.proofs.LengthLaws.{four-or}
use Rattle.device_slots.proofs.put.put_slot.Goals as goal

pub returns : goal.returns
unfolding Rule.slot
returns c =
    let three = c.rest-t3.ensures ∙ ap Words.rest c.rest-t2.ensures in
    let number : be4 c.unwrap_or.result ≡ be4 (Words.number (Words.word (Words.rest c.args.t.now))) = rw (c.unwrap_or.ensures, c.decimal.ensures, c.word-2.ensures, c.rest-t2.ensures) (four-or (Words.word (Words.rest c.args.t.now))) in
    let presence = c.presence.ensures ∙ ap Rule.presence (c.word-3.ensures ∙ ap Words.word three) in
    let image = c.rest.ensures ∙ ap Words.rest three in
    rw (← c.word.ensures, ← number, ← presence, ← image) (wrote_then (wrote_then (wrote_then c.put_identifier-a.ensures c.put_four-b.ensures) c.put_byte-c.ensures)
    c.put_image.ensures)
