use Rattle.text.proofs.TextLaws.{wrote_then}
use Rattle.conformance_lines.specs.Lines.{program_text}
use Rattle.conformance_lines.proofs.put_program.Goals as goal

pub put_bytes-b-requires : goal.put_bytes-b-requires
put_bytes-b-requires c = tt

pub put_byte-requires : goal.put_byte-requires
put_byte-requires c = tt

pub returns : goal.returns
unfolding program_text
returns c =
    wrote_then (wrote_then c.put-a.ensures c.put_bytes-b.ensures) c.put_byte.ensures
