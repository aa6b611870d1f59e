use Rattle.text.proofs.TextLaws.{wrote_then}
use Rattle.depot_words.specs.CommandLine.{words_of}
use Rattle.depot_words.proofs.put_words.Goals as goal

pub returns : goal.returns
unfolding words_of
returns c =
    wrote_then c.put_parted-to.ensures c.put_byte.ensures
