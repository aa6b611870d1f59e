use mathlib.Core.Path.{refl}
use mathlib.Core.Logic.{inl}
use native.Mathlib.Omega.{arith}
use lib.ListN.{length}
use Rattle.cbor_reading.proofs.ReadingLaws.{handed, item-stopped, item_went, string-fits, reading-stopped, reading_went}
use Rattle.check_manifest.proofs.InBytesLaws.{in_stop, in_bad, in_over}
use Rattle.check_manifest.proofs.ListLaws.{list_stop, list-good}
use Rattle.check_manifest.proofs.component_list.Goals as goal

pub returns-in_err-b : goal.returns-in_err-b
returns-in_err-b c =
    rw (handed _ _ c.from_residual.ensures.1) (list_stop _ _ _ _ _ _ (in_stop _ _ _ _ _ (item-stopped _ _ _ _ _ _ _ c.in_err-b.ensures)))

pub overflow_add-to : goal.overflow_add-to
overflow_add-to c = let f = string-fits _ _ _ _ _ _ _ (inl refl) (item_went _ _ _ _ _ _ _ c.in_ok-b.ensures) in omega arith

pub components-requires : goal.components-requires
components-requires c = let f = string-fits _ _ _ _ _ _ _ (inl refl) (item_went _ _ _ _ _ _ _ c.in_ok-b.ensures) in omega arith

pub returns-in_err-r : goal.returns-in_err-r
returns-in_err-r c =
    rw (handed _ _ c.from_residual-in_err-r.ensures.1)
    (list_stop _ _ _ _ _ _
    (in_bad _ _ _ _ _ _ (item_went _ _ _ _ _ _ _ c.in_ok-b.ensures) _ (reading-stopped length _ _ c.in_err-r.ensures.0)))

pub returns-then-r-to : goal.returns-then-r-to
returns-then-r-to c =
    let (ids, w, n) = reading_went length _ _ c.in_ok-r.ensures.0 in
    rw c.refuse.ensures
    (list_stop _ _ _ _ _ _ (in_over _ _ _ _ _ _ (item_went _ _ _ _ _ _ _ c.in_ok-b.ensures) ids _ w c.if-r-to.true))

pub returns : goal.returns
returns c =
    list-good _ _ _ _ _ (item_went _ _ _ _ _ _ _ c.in_ok-b.ensures) _
    c.in_ok-r.ensures.0 c.if-r-to.false _ _ c.in_ok-r.ensures.1
