use borrow.Author.Tests.{eq-eqb, ne_eqb}
use Rattle.text_names.specs.Words.{result_words}
use Rattle.text_names.proofs.put_result.Goals as goal

pub returns-then-number-eq-FINISHED : goal.returns-then-number-eq-FINISHED
unfolding result_words
returns-then-number-eq-FINISHED c = rw (eq-eqb _ 0 c.if-number-eq-FINISHED.true) c.put.ensures

pub returns : goal.returns
unfolding result_words
returns c = rw (ne_eqb _ 0 c.if-number-eq-FINISHED.false) c.put_end.ensures
