use mathlib.Core.Path.{sym, ap}
use native.Mathlib.Omega.{arith}
use Rattle.cbor_reading.specs.Reading.{head_reading}
use Rattle.cbor_reading.proofs.ShortLaws.{nil-item}
use Rattle.cbor_reading.proofs.nil.Goals as goal

pub returns-then-s-at : goal.returns-then-s-at
returns-then-s-at c = sym (ap head_reading (nil-item _ _ _ (omega arith)))
