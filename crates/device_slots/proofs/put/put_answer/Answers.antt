use Prim.Native.Nat.{◌%◌}
use mathlib.Core.Path.{◌≡◌}
use Rattle.text.proofs.TextLaws.{wrote_then}
use Rattle.device_text.specs.Words as Words
use Rattle.device_slots.specs.SlotText as Rule
use Rattle.device_slots.proofs.LengthLaws.{status-or}
use Rattle.device_slots.proofs.put.put_answer.Goals as goal

pub returns : goal.returns
unfolding Rule.answer
returns c =
    let e : c.unwrap_or.result % 256 ≡ Rule.status (Words.word c.args.t.now) % 256 = rw (c.unwrap_or.ensures, c.status.ensures, c.word.ensures) (status-or (Words.word c.args.t.now)) in
    rw (← e, ← c.low.ensures, ← c.rest.ensures) (wrote_then c.put_byte-a.ensures c.put_image.ensures)
