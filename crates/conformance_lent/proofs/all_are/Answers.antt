use mathlib.Core.Path.{refl}
use borrow.Author.Rules.{rules}
use lib.Dec.{eqb}
use Rattle.std.proofs.lemmas.List.Recursion.{and_is}
use Rattle.conformance_lent.specs.Lent.{all_are}
use Rattle.conformance_lent.proofs.all_are.Goals as goal

pub returns : goal.returns
returns c =
    rw (← c.behind.ensures) (and_is (all_are c.args.x) (λ y. eqb y c.args.x) refl (λ _ _. refl) c.behind.result.now 0 _ (search rules) (search rules))
