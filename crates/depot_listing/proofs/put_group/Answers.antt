use mathlib.Core.Path.{sym, ◌∙◌}
use borrow.Author.Tests.{eq-eqb, ne_eqb}
use Rattle.rules.specs.declared.answers.Group.TheVariants.{Boot}
use Rattle.rules.specs.Answers.{group_number}
use Rattle.depot_listing.specs.Listing.{group_text}
use Rattle.depot_listing.proofs.put_group.Goals as goal

pub returns-then-group-wide : goal.returns-then-group-wide
unfolding group_text
returns-then-group-wide c =
    rw (eq-eqb _ (group_number Boot) (c.if-group-wide.true ∙ c.wide.ensures.0 ∙ c.number.ensures)) c.put.ensures

pub returns-else-group-wide : goal.returns-else-group-wide
unfolding group_text
returns-else-group-wide c =
    rw (ne_eqb _ (group_number Boot) (λ e. c.if-group-wide.false (e ∙ sym (c.wide.ensures.0 ∙ c.number.ensures)))) c.put-else-group-wide.ensures
