use borrow.Author.Rules.{rules}
use borrow.Author.Tests.{eq-eqb, ne_eqb}
use Rattle.text.proofs.TextLaws.{wrote_then}
use Rattle.depot_messages.specs.Messages.{words_text}
use Rattle.depot_messages.proofs.put_words.Goals as goal

pub returns-in-1 : goal.returns-in-1
unfolding words_text
returns-in-1 c =
    rw (eq-eqb _ 1 c.in-1.is) (wrote_then c.put_decimal-to.ensures c.put.ensures)

pub returns-in_default : goal.returns-in_default
unfolding words_text
returns-in_default c =
    rw (ne_eqb c.args.n 1 (search rules)) (wrote_then c.put_decimal-to.ensures c.put-in_default.ensures)
