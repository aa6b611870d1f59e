use mathlib.Core.Path.{◌∙◌}
use borrow.Author.Rules.{rules}
use borrow.Author.Tests.{tests}
use Rattle.std.proofs.lemmas.Iterator.{YieldsList-from_slice}
use Rattle.std.proofs.lemmas.Iterator.Search.{all_from_yields_List}
use Rattle.depot_identifiers.proofs.IdentifierLaws.{printable, all_print-is}
use Rattle.depot_identifiers.proofs.all_print.Goals as goal

pub returns : goal.returns
returns c =
    let xs = c.args.s.now in
    all_from_yields_List printable _ _ _ c.all.ensures.ran (YieldsList-from_slice xs (cc)) (λ x b q k. search (rules, tests)) ∙ all_print-is xs
