use borrow.Author.Tests.{eq-eqb, ne_eqb}
use Rattle.conformance_format.proofs.put_piece.Goals as goal

pub put_decimal-requires : goal.put_decimal-requires
put_decimal-requires c = tt

pub returns-then-c-eq-PERCENT : goal.returns-then-c-eq-PERCENT
returns-then-c-eq-PERCENT c =
    rw (eq-eqb _ _ c.if-c-eq-PERCENT.true) c.put_decimal.ensures

pub put_byte-requires : goal.put_byte-requires
put_byte-requires c = tt

pub returns : goal.returns
returns c =
    rw (ne_eqb _ _ c.if-c-eq-PERCENT.false) c.put_byte.ensures
