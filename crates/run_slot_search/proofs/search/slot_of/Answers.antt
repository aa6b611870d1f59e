use mathlib.Core.Path.{refl, sym, ◌∙◌}
use borrow.Author.Rules.{rules}
use borrow.Author.Tests.{tests}
use Rattle.std.proofs.lemmas.Iterator.{YieldsList-from_range}
use Rattle.std.proofs.lemmas.Iterator.Adapters.{option_map_id}
use Rattle.std.proofs.lemmas.Iterator.Search.{find_from_yields_List}
use Rattle.rules.specs.Bytes.{part, same}
use Rattle.rules.specs.Slots.{slot_at}
use Rattle.run_slot_search.proofs.SearchLaws.{find-range}
use Rattle.run_slot_search.proofs.search.slot_of.Goals as goal

pub returns : goal.returns
returns c =
    let x = part c.args.s.now c.args.at c.args.n in
    sym (option_map_id c.find.result)
    ∙ find_from_yields_List (λ k. same x (slot_at c.args.slots.now k).id) _ _ c.find.result c.find.ensures.ran
    (YieldsList-from_range 0 _ _ refl refl) (λ k b q h. search (rules, tests)) ∙ find-range _ _
