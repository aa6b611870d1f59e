use mathlib.Core.Path.{sym}
use native.Mathlib.Omega.{arith}
use borrow.Author.Rules.{rules}
use Rattle.depot_items.proofs.ItemLaws.{other_in}
use Rattle.depot_items.proofs.whole.Goals as goal

pub returns-in_default : goal.returns-in_default
returns-in_default c = sym (other_in _ _ (λ q. omega arith) (λ q. omega arith) (search rules))

pub returns-in_default-2 : goal.returns-in_default-2
returns-in_default-2 c = sym (other_in _ _ (λ q. omega arith) (λ q. omega arith) (search rules))
