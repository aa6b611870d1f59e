use mathlib.Core.Path.{◌≡◌}
use mathlib.Core.Bool.{true, false}
use borrow.Author.Rules.{rules}
use borrow.Author.Tests.{tests}
use Rattle.std.proofs.lemmas.Iterator.{IsFirst-from_position, YieldsList-from_slice}
use Rattle.device_text.specs.Words as Words
use Rattle.device_text.proofs.WordLaws.{first_blank_is}
use Rattle.device_text.proofs.first_blank.Goals as goal

pub returns : goal.returns
returns c =
    rw c.unwrap_or.ensures
    (first_blank_is c.args.s.now c.position.result
    (IsFirst-from_position _ _ _ (λ x. Words.blank x ≡ true) (λ x. Words.blank x ≡ false) c.position.ensures.ran (YieldsList-from_slice c.args.s.now cc) (λ x q k. search (rules, tests)) (λ x q k. search (rules, tests))))
