use Rattle.text.proofs.TextLaws.{wrote_then}
use mathlib.Core.Path.{refl}
use Rattle.depot_show.specs.Shown.{stopped}
use Rattle.depot_show.proofs.walk.put_stop.Goals as goal

pub returns : goal.returns
unfolding stopped
returns c =
    record { next = refl; wrote = wrote_then (wrote_then c.put_margin-a.ensures c.put-b.ensures) c.put_byte-c.ensures }
