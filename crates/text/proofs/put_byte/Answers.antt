use mathlib.Core.Path.{sym}
use mathlib.Core.List.{[], ◌∷◌}
use native.Mathlib.Omega.{arith}
use Rattle.text.proofs.TextLaws.{sets_past}
use Rattle.text.proofs.put_byte.Goals as goal

pub returns-then-room-at : goal.returns-then-room-at
returns-then-room-at c = record { filled = sym (sets_past c.args.room.now c.args.at (c.args.b ∷ []) c.if-room-at.true); next = omega arith }
