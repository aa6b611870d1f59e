use Rattle.std.proofs.Common.{rules, ◌≡◌, ◌≢◌}
use borrow.Author.Tests.{tests}
use Rattle.std.proofs.lemmas.Iterator.{IsFirst-from_position, YieldsList-from_slice}
use Rattle.text.proofs.TextLaws.{position_is}
use Rattle.text.proofs.position.Goals as goal

pub returns : goal.returns
returns c =
    rw c.unwrap_or.ensures
    (position_is c.args.n c.args.s.now c.position.result
    (IsFirst-from_position _ _ _ (λ b. b ≡ c.args.n) (λ b. b ≢ c.args.n) c.position.ensures.ran (YieldsList-from_slice c.args.s.now cc) (λ x q k. search (rules, tests)) (λ x q k. search (rules, tests))))
