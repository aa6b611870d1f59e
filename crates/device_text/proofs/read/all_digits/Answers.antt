use borrow.Author.Rules.{rules}
use Rattle.std.specs.Option.{is_some}
use Rattle.std.proofs.lemmas.List.Recursion.{and_is}
use Rattle.device_text.specs.Words as Words
use Rattle.device_text.proofs.WordLaws.{all_digits-none, all_digits-step}
use Rattle.device_text.proofs.read.all_digits.Goals as goal

pub returns : goal.returns
returns c =
    and_is Words.all_digits (λ b. is_some (Words.value b)) all_digits-none all_digits-step c.args.w.now 0 _ (search rules) (search rules)
