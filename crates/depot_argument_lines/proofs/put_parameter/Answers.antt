use Rattle.depot_argument_lines.specs.Arguments.{parameter_text}
use Rattle.rules.specs.ProgramFormat.{entry_length_from, entry_size}
use Prim.Native.Nat.{◌+◌, ◌-◌}
use mathlib.Core.Path.{◌≡◌}
use lib.ListN.{get_or}
use native.Mathlib.Omega.{arith}
use Rattle.text.proofs.TextLaws.{wrote_then}
use Rattle.depot_argument_lines.proofs.put_parameter.Goals as goal

pub returns : goal.returns
unfolding parameter_text
returns c =
    let e : entry_size + c.wide-end.result - entry_size ≡ get_or c.args.s.now entry_length_from 0 = omega (arith, c.wide-end.ensures.0) in
    rw (← e, ← c.wide-key.ensures.0) (wrote_then (wrote_then (wrote_then (wrote_then c.put_spaces-a.ensures c.put_parameter-b.ensures)
    c.put-c.ensures) c.put_value-d.ensures) c.put.ensures)
