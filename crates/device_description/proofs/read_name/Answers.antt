use mathlib.Core.Path.{◌≡◌, sym, ◌∙◌}
use mathlib.Core.Bool.{true}
use Rattle.rules.specs.Limits.{limits}
use Rattle.device_text.specs.Words as Words
use Rattle.device_slots.proofs.LengthLaws.{sixteen-all}
use Rattle.device_description.proofs.read_name.Goals as goal

pub returns-then-is_bytes : goal.returns-then-is_bytes
returns-then-is_bytes c =
    let is : Words.is_bytes limits.class c.args.t.now ≡ true = sym c.is_bytes.ensures ∙ c.if-is_bytes.true in
    rw (is, ← sixteen-all c.args.t.now is, ← c.sixteen.ensures)
