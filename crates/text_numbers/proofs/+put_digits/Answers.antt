use Rattle.text.proofs.TextLaws.{wrote_none, wrote_then}
use Rattle.text_numbers.proofs.NumberLaws.{digits-none, digits-one, digits_more}
use Rattle.text_numbers.proofs.+put_digits.Goals as goal

pub returns-then-k-eq0 : goal.returns-then-k-eq0
returns-then-k-eq0 t c = rw (digits-none c.args.k c.args.n c.if-k-eq0.true) (wrote_none _ _)

pub returns-then-n-lt10 : goal.returns-then-n-lt10
returns-then-n-lt10 t c = rw (digits-one c.args.k c.args.n c.if-k-eq0.false c.if-n-lt10.true, ← c.digit.ensures) c.put_byte.ensures

pub returns : goal.returns
returns t c =
    let last = rw c.digit-2.ensures at c.put_byte-2.ensures in
    rw (digits_more c.args.k c.args.n c.if-k-eq0.false c.if-n-lt10.false) (wrote_then c.put_digits-to.ensures last)
