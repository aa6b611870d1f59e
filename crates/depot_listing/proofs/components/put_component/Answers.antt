use Rattle.rules.specs.ProgramFormat.{length_from, name_size}
use Rattle.depot_listing.specs.Listing.{component_text}
use Prim.Native.Nat.{◌+◌, ◌-◌}
use mathlib.Core.Path.{◌≡◌}
use lib.ListN.{get_or}
use native.Mathlib.Omega.{arith}
use Rattle.text.proofs.TextLaws.{wrote_then}
use Rattle.depot_listing.proofs.components.put_component.Goals as goal

pub returns : goal.returns
unfolding component_text
returns c =
    let e : name_size + c.wide-end.result - name_size ≡ get_or c.args.s.now length_from 0 = omega (arith, c.wide-end.ensures.0) in
    rw (← e) (wrote_then (wrote_then (wrote_then c.put_labelled-a.ensures c.put-b.ensures) c.put_identifier-c.ensures) c.put.ensures)
