use mathlib.Core.Path.{refl}
use Rattle.text_rows.specs.Rows.{numbers, words, plain, barless}
use Rattle.text_names.specs.Words.{ends, end_words}
use Rattle.text_rows.proofs.RowLaws.{wrote-word}
use Rattle.text_names.proofs.put_end.Goals as goal

pub returns : goal.returns
unfolding end_words ends numbers words plain barless
returns c = wrote-word _ ends refl c.put_word.ensures
