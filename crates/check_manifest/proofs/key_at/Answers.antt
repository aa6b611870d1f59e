use Rattle.rules.specs.Check.{key}
use Rattle.cbor_reading.proofs.ReadingLaws.{handed, item-stopped, item_went}
use Rattle.check_manifest.proofs.key_at.Goals as goal

pub returns-in_err-k : goal.returns-in_err-k
unfolding key
returns-in_err-k c = rw (handed _ _ c.from_residual.ensures.1, item-stopped _ _ _ _ _ _ _ c.in_err-k.ensures)

pub returns : goal.returns
unfolding key
returns c = rw (item_went _ _ _ _ _ _ _ c.in_ok-k.ensures)
