use Rattle.text.proofs.TextLaws.{wrote_then}
use Rattle.depot_around.specs.Around.{before_text}
use Rattle.depot_around.proofs.put_before.Goals as goal

pub returns : goal.returns
unfolding before_text
returns c =
    rw (← c.back-from.ensures) (wrote_then (wrote_then c.put_labelled-a.ensures c.put_byte-b.ensures) c.put_spaced.ensures)
