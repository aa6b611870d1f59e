use Rattle.rules.specs.ProgramFormat.{record_size, target_from, argument_from}
use Rattle.rules.specs.Bytes.{two_at}
use Rattle.depot_record_lines.specs.Lines.{command_text}
use Prim.Native.Nat.{◌+◌, ◌-◌}
use mathlib.Core.Path.{◌≡◌}
use native.Mathlib.Omega.{arith}
use Rattle.text.proofs.TextLaws.{wrote_then}
use Rattle.depot_record_lines.proofs.put_command_record.Goals as goal

pub returns : goal.returns
unfolding command_text
returns c =
    let e : record_size + c.two-end.result - record_size ≡ two_at c.args.s.now argument_from = omega (arith, c.two-end.ensures.0) in
    let target : c.two-2.result ≡ two_at c.args.s.now target_from = c.two-2.ensures.0 in
    rw (← e, ← c.wide-code.ensures.0, ← c.wide.ensures.0, ← c.two.ensures.0, ← target)
    (wrote_then (wrote_then c.put_line-a.ensures c.put_failure-b.ensures) c.put_argument.ensures)
