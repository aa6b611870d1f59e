use native.Mathlib.Omega.{arith}
use mathlib.Core.Path.{◌∙◌}
use Rattle.cbor_reading.proofs.ReadingLaws.{item_went, string-fits}
use Rattle.check_argument.proofs.ArgumentLaws.{string-end}
use Rattle.check_argument.proofs.string.Goals as goal

pub overflow_add-h : goal.overflow_add-h
overflow_add-h c = omega (arith, string-fits _ _ _ _ _ _ _ c.requires.1 (item_went _ _ _ _ _ _ _ c.in_ok-h.ensures))

pub returns : goal.returns
returns c = c.ended.ensures ∙ rw (item_went _ _ _ _ _ _ _ c.in_ok-h.ensures) (string-end _ c.requires.1)
