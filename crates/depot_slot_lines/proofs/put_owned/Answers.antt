use Rattle.depot_slot_lines.specs.SlotLines.{owned_text}
use Rattle.depot_slot_lines.proofs.put_owned.Goals as goal

pub returns : goal.returns
unfolding owned_text
returns c =
    rw (← c.slot_name.ensures, ← c.component_with-owner.ensures) c.put_slot.ensures
