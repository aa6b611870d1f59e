use mathlib.Core.Path.{sym, ◌∙◌}
use borrow.Author.Tests.{ne_eqb}
use Rattle.run_slot_search.proofs.SearchLaws.{named_unlike, named_like}
use Rattle.run_slot_search.proofs.search.named.Goals as goal

pub returns-then-n-slots : goal.returns-then-n-slots
returns-then-n-slots c =
    c.equal.ensures ∙ named_like c.args.slots.now c.args.k c.requires.2 c.args.s.now c.args.at c.args.n c.if-n-slots.true

pub returns-else-n-slots : goal.returns-else-n-slots
returns-else-n-slots c =
    let (f, h, short) = c.requires in
    ne_eqb _ _ c.if-n-slots.false ∙ sym (named_unlike _ _ short _ _ _ f h c.if-n-slots.false)
