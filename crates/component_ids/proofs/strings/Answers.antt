use Prim.Native.Nat.{◌+◌, ◌-◌}
use mathlib.Core.Path.{◌≡◌, refl, sym, ap, ◌∙◌}
use mathlib.Core.Logic.{inl}
use native.Mathlib.Omega.{arith}
use Rattle.cbor_reading.specs.Reading.{place_of}
use Rattle.cbor_reading.proofs.ReadingLaws.{handed, item_went, string-fits}
use Rattle.component_ids.proofs.IdentifierLaws.{strings-end, strings_stop, strings-next}
use Rattle.component_ids.proofs.strings.Goals as goal

pub returns-in_err-h : goal.returns-in_err-h
returns-in_err-h c =
    rw (handed _ _ c.from_residual.ensures.1, c.loop.invariant) (ap place_of (sym (strings_stop _ _ _ _ (omega arith) c.in_err-h.ensures)))

pub overflow_add-p : goal.overflow_add-p
overflow_add-p c = let f = string-fits _ _ _ _ _ _ _ (inl refl) (item_went _ _ _ _ _ _ _ c.in_ok-h.ensures) in omega arith

pub loop-preserved : goal.loop-preserved
loop-preserved c =
    let z : c.args.count - c.loop.counter - 1 ≡ c.args.count - (c.loop.counter + 1) = omega arith in
    c.loop.invariant ∙ rw (← z) (strings-next _ _ _ _ (omega arith) c.in_ok-h.ensures)

pub returns : goal.returns
returns c = rw (c.loop.invariant) (ap place_of (sym (strings-end _ _ _ _ (omega arith))))
