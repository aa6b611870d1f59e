use Rattle.depot_listing.specs.Listing.{counts_text}
use Rattle.text.proofs.TextLaws.{wrote_then}
use Rattle.depot_listing.proofs.put_counts.Goals as goal

pub returns : goal.returns
unfolding counts_text
returns c =
    wrote_then (wrote_then c.put_counted-a.ensures c.put_counted-b.ensures) c.put.ensures
