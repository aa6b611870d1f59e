use mathlib.Core.Path.{refl}
use Rattle.text_rows.specs.Rows.{numbers, words, plain, barless}
use Rattle.text_names.specs.Words.{sections, section_words}
use Rattle.text_rows.proofs.RowLaws.{wrote-word}
use Rattle.text_names.proofs.put_section.Goals as goal

pub returns : goal.returns
unfolding section_words sections numbers words plain barless
returns c = wrote-word _ sections refl c.put_word.ensures
