use mathlib.Core.Path.{refl}
use borrow.Author.Tests.{lt-ltb, le-ltb}
use Rattle.text_rows.specs.Rows.{numbers, words, plain, barless}
use Rattle.text_rows.proofs.RowLaws.{wrote-word}
use Rattle.depot_messages.specs.Errors.{errors, error_words}
use Rattle.depot_messages.proofs.errors.put_error_words.Goals as goal

pub returns-then-position-lt-COUNT : goal.returns-then-position-lt-COUNT
unfolding error_words errors numbers words plain barless
returns-then-position-lt-COUNT c =
    let known = lt-ltb _ 8 (rw c.position.ensures.0 at c.if-position-lt-COUNT.true) in
    rw known (wrote-word _ errors refl c.put_word.ensures)

pub returns : goal.returns
unfolding error_words errors numbers
returns c =
    let other = le-ltb _ 8 (rw c.position.ensures.0 at c.if-position-lt-COUNT.false) in
    rw other c.put_labelled.ensures
