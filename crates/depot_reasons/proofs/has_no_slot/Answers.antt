use mathlib.Core.Path.{◌∙◌}
use Rattle.text_pieces.specs.Pieces.{between}
use Rattle.depot_slot_names.proofs.NameLaws.{first-none}
use Rattle.depot_reasons.proofs.ReasonLaws.{not-some}
use Rattle.depot_reasons.specs.Reasons.{has_no_slot}
use Rattle.depot_reasons.proofs.has_no_slot.Goals as goal

pub returns : goal.returns
unfolding has_no_slot between
returns c =
    not-some _ _ c.is_none.ensures ∙ rw (← c.within-p.ensures.2, c.slot_with.ensures) (first-none _ _)
