use mathlib.Core.Path.{refl, sym, ◌∙◌}
use borrow.Author.Rules.{rules}
use borrow.Author.Tests.{tests}
use Rattle.std.proofs.lemmas.Iterator.{YieldsList-from_range}
use Rattle.std.proofs.lemmas.Iterator.Adapters.{option_map_id}
use Rattle.std.proofs.lemmas.Iterator.Search.{find_from_yields_List}
use Rattle.rules.specs.Bytes.{same}
use Rattle.rules.specs.Slots.{slot_at}
use Rattle.depot_slot_names.proofs.NameLaws.{find-slot}
use Rattle.depot_slot_names.proofs.slot_with.Goals as goal

pub returns : goal.returns
returns c =
    sym (option_map_id c.find.result)
    ∙ find_from_yields_List (λ k. same c.args.id.now (slot_at c.args.slots.now k).id) _ _ c.find.result c.find.ensures.ran
    (YieldsList-from_range c.args.from _ _ refl refl) (λ k b q h. search (rules, tests)) ∙ find-slot _ _ _
