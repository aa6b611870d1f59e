use mathlib.Core.Path.{refl}
use Rattle.rules.specs.Step.{unless}
use Rattle.run_actions.proofs.ActionLaws.{run_is}
use Rattle.run_actions.proofs.conditions.runs.Goals as goal

pub returns-then-present : goal.returns-then-present
unfolding unless
returns-then-present c = (refl, λ env i st e n. rw (run_is env i st _ _ e n, ← c.present.ensures, c.if-present.true))

pub returns : goal.returns
unfolding unless
returns c = (refl, λ env i st e n. rw (run_is env i st _ _ e n, ← c.present.ensures, c.if-present.false))
