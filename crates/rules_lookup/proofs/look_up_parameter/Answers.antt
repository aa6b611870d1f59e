use mathlib.Core.Path.{refl, sym, ◌∙◌, ap}
use borrow.Author.Rules.{rules}
use Rattle.rules.specs.Commands.{params}
use Rattle.rules.specs.Tables.{keys, known}
use Rattle.rules_lookup.proofs.LookUpLaws.{no_param, known-at}
use Rattle.rules_lookup.proofs.look_up_parameter.Goals as goal

pub returns-then-key-ge-KEYS : goal.returns-then-key-ge-KEYS
returns-then-key-ge-KEYS c = sym (ap known (no_param keys params c.args.key refl c.if-key-ge-KEYS.true))

pub returns : goal.returns
returns c = c.known_at.ensures ∙ known-at _ _ c.requires (search rules)
