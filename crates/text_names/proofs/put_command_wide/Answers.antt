use mathlib.Core.Path.{refl}
use Rattle.text_rows.specs.Rows.{numbers, words, plain, barless}
use Rattle.text_names.specs.Words.{commands, command_words}
use Rattle.text_rows.proofs.RowLaws.{wrote_wide_word}
use Rattle.text_names.proofs.put_command_wide.Goals as goal

pub returns : goal.returns
unfolding command_words commands numbers words plain barless
returns c = wrote_wide_word _ commands refl _ c.put_word.ensures
