use mathlib.Core.Path.{refl, ◌∙◌}
use borrow.Author.Rules.{rules}
use borrow.Author.Tests.{tests}
use Rattle.std.proofs.lemmas.Iterator.{YieldsList-from_range}
use Rattle.std.proofs.lemmas.Iterator.Search.{all_from_yields_List}
use Rattle.rules.specs.Slots.{slot_at, good_slot}
use Rattle.run_slot_search.proofs.SearchLaws.{good-range}
use Rattle.run_slot_search.proofs.whole.all_good.Goals as goal

pub returns : goal.returns
returns c =
    all_from_yields_List (λ k. good_slot (slot_at c.args.slots.now k)) _ _ c.all.result c.all.ensures.ran
    (YieldsList-from_range 0 c.args.n _ refl refl) (λ k b q h. search (rules, tests)) ∙ good-range _ _
