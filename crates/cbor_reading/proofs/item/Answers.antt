use mathlib.Core.Path.{sym, ap}
use native.Mathlib.Omega.{arith}
use Rattle.cbor_reading.specs.Reading.{head_reading}
use Rattle.cbor_reading.proofs.ShortLaws.{short-item}
use Rattle.cbor_reading.proofs.item.Goals as goal

pub returns-then-number_fits : goal.returns-then-number_fits
returns-then-number_fits c =
    let kinds = c.is_short.ensures c.if-is_short.true in
    let number = c.number_fits.ensures c.if-number_fits.true in
    sym (ap head_reading (short-item _ _ _ _ _ _ _ _ c.wide-first.ensures.0 (omega arith) kinds number))
