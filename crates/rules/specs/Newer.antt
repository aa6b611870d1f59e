-- Newer (01, Five jobs): which of two envelopes has the newer manifest, and where it stands in it: 'of two lent envelopes, hand back the
-- manifest bytes of the newer one, a part of that envelope itself. First wins a tie. One that check refuses is passed over; both refused
-- gives the empty start of the first.'
use Rattle.rules.specs.Base.{cond, ltb}
use Rattle.rules.specs.Bytes.{Bytes, Span, span}
use Rattle.rules.specs.Got.{Got, refused, got}
use Rattle.rules.specs.Manifest.{Manifest}
use Rattle.rules.specs.Check.{check}

pub data Newer : Type 0 where
  in_first : Span → Newer
  in_second : Span → Newer

abbrev pub newer_of : Got Manifest → Got Manifest → Newer
newer_of (refused n p) (refused m q) = in_first (span 0 0)
newer_of (refused n p) (got b) = in_second b.part
newer_of (got a) (refused m q) = in_first a.part
newer_of (got a) (got b) = cond (ltb a.number b.number) (in_second b.part) (in_first a.part)

unfoldable pub newer : Bytes → Bytes → Newer
newer a b = newer_of (check a) (check b)
