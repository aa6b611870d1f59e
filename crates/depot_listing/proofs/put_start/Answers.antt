use Rattle.depot_listing.specs.Listing.{start_text}
use Rattle.text.proofs.TextLaws.{wrote_then}
use Rattle.depot_listing.proofs.put_start.Goals as goal

pub returns : goal.returns
unfolding start_text
returns c =
    rw (← c.wide.ensures.0, ← c.four.ensures.0, ← c.wide-2.ensures.0, ← c.two.ensures.0)
    (wrote_then (wrote_then c.put_group-a.ensures c.put_labelled-b.ensures) c.put_counts.ensures)
