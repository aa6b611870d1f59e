use mathlib.Core.Path.{refl, sym, ◌∙◌}
use borrow.Author.Rules.{rules}
use borrow.Author.Tests.{tests}
use Rattle.std.proofs.lemmas.Iterator.{YieldsList-from_range}
use Rattle.std.proofs.lemmas.Iterator.Adapters.{option_map_id}
use Rattle.std.proofs.lemmas.Iterator.Search.{find_from_yields_List}
use Rattle.rules.specs.Bytes.{same, bytes_at, span_at}
use Rattle.depot_slot_names.proofs.NameLaws.{find_component}
use Rattle.depot_slot_names.proofs.component_with.Goals as goal

pub returns : goal.returns
returns c =
    sym (option_map_id c.find.result)
    ∙ find_from_yields_List (λ k. same c.args.id.now (bytes_at c.args.s.now (span_at c.args.ids.now k))) _ _ c.find.result c.find.ensures.ran
    (YieldsList-from_range 0 _ _ refl refl) (λ k b q h. search (rules, tests)) ∙ find_component c.args.id.now _ _ c.args.n
