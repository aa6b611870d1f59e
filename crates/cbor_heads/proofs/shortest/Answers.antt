use mathlib.Core.Path.{refl}
use native.Mathlib.Omega.{arith}
use Rattle.cbor_heads.proofs.shortest.Goals as goal

pub returns-then-num-least : goal.returns-then-num-least
returns-then-num-least c = ((λ _. refl), (λ l. absurd (omega arith)))

pub returns : goal.returns
returns c = ((λ l. absurd (omega arith)), (λ _. refl))
