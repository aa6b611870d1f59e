use Rattle.device_text.proofs.WordLaws.{value-or}
use Rattle.device_slots.proofs.put.pair.Goals as goal

pub returns : goal.returns
returns c =
    rw (c.unwrap_or.ensures, c.digit.ensures, value-or c.args.a, c.unwrap_or-2.ensures, c.digit-2.ensures, value-or c.args.b)
