use Prim.Native.Nat.{◌+◌}
use mathlib.Core.Path.{refl, ◌∙◌}
use borrow.Author.Rules.{rules}
use borrow.Author.Tests.{tests}
use Rattle.std.proofs.lemmas.Iterator.{YieldsList-from_range}
use Rattle.std.proofs.lemmas.Iterator.Search.{any_from_yields_List}
use Rattle.rules.specs.Bytes.{member}
use Rattle.rules.specs.Slots.{slot_at}
use Rattle.run_slot_search.specs.Search.{names_from}
use Rattle.run_slot_search.proofs.SearchLaws.{twice-range}
use Rattle.run_slot_search.proofs.whole.one_twice.Goals as goal

pub returns : goal.returns
returns c =
    let slots = c.args.slots.now in
    any_from_yields_List (λ i. member (slot_at slots i).id (names_from slots (i + 1) c.args.n)) _ _ c.any.result c.any.ensures.ran
    (YieldsList-from_range 0 c.args.n _ refl refl) (λ i b q h. search (rules, tests)) ∙ twice-range _ _
