use mathlib.Core.Path.{refl}
use Rattle.text_rows.specs.Rows.{numbers, words, plain, barless}
use Rattle.text_names.specs.Words.{refusals, refusal_words}
use Rattle.text_rows.proofs.RowLaws.{wrote-word}
use Rattle.text_names.proofs.put_refusal.Goals as goal

pub returns : goal.returns
unfolding refusal_words refusals numbers words plain barless
returns c = wrote-word _ refusals refl c.put_word.ensures
