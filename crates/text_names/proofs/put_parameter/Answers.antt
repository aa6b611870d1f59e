use mathlib.Core.Path.{refl}
use Rattle.text_rows.specs.Rows.{numbers, words, plain, barless}
use Rattle.text_names.specs.Words.{parameters, parameter_words}
use Rattle.text_rows.proofs.RowLaws.{wrote-word}
use Rattle.text_names.proofs.put_parameter.Goals as goal

pub returns : goal.returns
unfolding parameter_words parameters numbers words plain barless
returns c = wrote-word _ parameters refl c.put_word.ensures
