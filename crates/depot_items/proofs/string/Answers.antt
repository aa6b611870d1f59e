use mathlib.Core.Path.{◌∙◌, sym}
use native.Mathlib.Omega.{arith}
use Rattle.depot_items.proofs.ItemLaws.{string_past, string_in}
use Rattle.depot_items.proofs.string.Goals as goal

pub returns-then-e-next : goal.returns-then-e-next
returns-then-e-next c = c.nothing.ensures ∙ sym (string_past _ _ c.requires.0 (omega arith))

pub returns : goal.returns
returns c = sym (string_in _ _ c.requires.0 (omega arith))
