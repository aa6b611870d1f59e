use mathlib.Core.Path.{◌≡◌, sym, subst, ◌∙◌}
use Rattle.rules.specs.Bytes.{Bytes, be4}
use Rattle.text.specs.Text.{Wrote}
use Rattle.text.proofs.TextLaws.{wrote_then}
use Rattle.device_text.specs.Words as Words
use Rattle.device_slots.specs.SlotText as Rule
use Rattle.device_slots.proofs.LengthLaws.{four-or}
use Rattle.device_slots.proofs.put.put_image.Goals as goal

pub returns-then-is_empty : goal.returns-then-is_empty
unfolding Rule.image
returns-then-is_empty c =
    rw (sym c.is_empty.ensures ∙ c.if-is_empty.true) c.put_times.ensures

pub returns : goal.returns
unfolding Rule.image
returns c =
    let n : be4 c.unwrap_or.result ≡ be4 (Words.number (Words.word c.args.t.now)) = rw (c.unwrap_or.ensures, c.decimal.ensures, c.word.ensures) (four-or (Words.word c.args.t.now)) in
    let size = subst (λ (b : Bytes). Wrote b c.args.at c.args.room.now c.put_four-a.result c.put_four-a.new.room) n c.put_four-a.ensures in
    rw (sym c.is_empty.ensures ∙ c.if-is_empty.false, ← c.rest.ensures) (wrote_then size c.put_bytes.ensures)
