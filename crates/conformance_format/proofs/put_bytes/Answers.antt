use borrow.Author.Tests.{eq-eqb, ne_eqb}
use Rattle.conformance_format.specs.Format.{bytes_text}
use Rattle.conformance_format.proofs.put_bytes.Goals as goal

pub put_byte-requires : goal.put_byte-requires
put_byte-requires c = tt

pub returns-then-b-eq0 : goal.returns-then-b-eq0
unfolding bytes_text
returns-then-b-eq0 c =
    rw (eq-eqb _ _ c.if-b-eq0.true) c.put_byte.ensures

pub put_hex-requires : goal.put_hex-requires
put_hex-requires c = tt

pub returns : goal.returns
unfolding bytes_text
returns c =
    rw (ne_eqb _ _ c.if-b-eq0.false) c.put_hex.ensures
