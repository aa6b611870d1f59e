use mathlib.Core.Path.{refl, ◌∙◌, ap}
use Prim.Native.Nat.{ℕ}
use Rattle.depot_slot_names.proofs.NameLaws.{slot-id}
use Rattle.rules.specs.Limits.{limits}
use Rattle.text.specs.Text.{least}
use Rattle.depot_slot_names.proofs.slot_name.Goals as goal

pub returns : goal.returns
returns c =
    slot-id _ _ _ _ _ _ refl (c.least-n.ensures ∙ ap (λ (x : ℕ). least x limits.identifier) c.wide.ensures.0) refl refl
