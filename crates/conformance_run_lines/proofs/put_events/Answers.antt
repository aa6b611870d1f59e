use mathlib.Core.Path.{sym}
use native.Mathlib.Omega.{arith}
use lib.Seq.{length-take-le}
use Rattle.text.proofs.TextLaws.{wrote_then}
use Rattle.conformance_run_lines.specs.Lines.{events_text}
use Rattle.conformance_run_lines.proofs.put_events.Goals as goal

pub slice_bounds-put_bytes-end : goal.slice_bounds-put_bytes-end
slice_bounds-put_bytes-end c =
    sym (length-take-le c.events_end-n.result c.args.trace.now (omega arith))

pub returns : goal.returns
unfolding events_text
returns c =
    wrote_then (wrote_then c.put_byte-a.ensures (rw c.events_end-n.ensures at c.put_bytes-b.ensures)) c.put_byte.ensures
