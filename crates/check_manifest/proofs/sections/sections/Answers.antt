use Prim.Native.Nat.{◌+◌, ◌-◌}
use mathlib.Core.Path.{◌≡◌}
use native.Mathlib.Omega.{arith}
use borrow.Author.Rules.{rules}
use Rattle.rules.proofs.CheckLaws.{item_law}
use Rattle.cbor_reading.proofs.ReadingLaws.{handed, item-stopped, item_went, pos, reading-stopped}
use Rattle.check_manifest.proofs.SectionLaws.{key-section, all_left, left-stopped, sections-none, sections_stop, sections-bad, sections-more}
use Rattle.check_manifest.proofs.sections.sections.Goals as goal

pub loop-init : goal.loop-init
loop-init c = let z : c.args.k - 0 ≡ c.args.k = omega arith in (omega arith, rw z (all_left _ _ _))

pub returns-in_err-h : goal.returns-in_err-h
returns-in_err-h c =
    rw (handed _ _ c.from_residual.ensures.1)
    (left-stopped _ _ _ _ _ _ _ _ c.loop.invariant.1
    (sections_stop _ _ _ _ _ _ _ _ (pos _ (omega arith)) _ (item-stopped _ _ _ _ _ _ _ c.in_err-h.ensures)))

pub section-requires : goal.section-requires
section-requires c =
    let i = item_law _ _ _ _ _ _ _ (item_went _ _ _ _ _ _ _ c.in_ok-h.ensures) in
    (search rules, search rules, key-section _ _ c.loop.invariant.0 i.low i.high, omega arith)

pub returns-in_err-r : goal.returns-in_err-r
returns-in_err-r c =
    rw (handed _ _ c.from_residual-in_err-r.ensures.1)
    (left-stopped _ _ _ _ _ _ _ _ c.loop.invariant.1
    (sections-bad _ _ _ _ _ _ _ _ (pos _ (omega arith)) _ _ (item_went _ _ _ _ _ _ _ c.in_ok-h.ensures)
    _ (reading-stopped (λ x. _) _ _ c.in_err-r.ensures.0)))

pub overflow_add-low : goal.overflow_add-low
overflow_add-low c = let i = item_law _ _ _ _ _ _ _ (item_went _ _ _ _ _ _ _ c.in_ok-h.ensures) in omega (arith, i.high)

pub loop-preserved : goal.loop-preserved
loop-preserved c =
    let g = item_went _ _ _ _ _ _ _ c.in_ok-h.ensures in
    let i = item_law _ _ _ _ _ _ _ g in
    let z : c.args.k - c.loop.counter - 1 ≡ c.args.k - (c.loop.counter + 1) = omega arith in (
      omega (arith, i.low, c.loop.invariant.0),
      rw (← z) (sections-more _ _ _ _ _ _ _ _ (pos _ (omega arith)) _ _ g _ _ _ c.in_ok-r.ensures _ _ _ c.loop.invariant.1),
    )

pub returns : goal.returns
returns c = sections-none _ _ _ _ _ _ _ (omega arith) _ _ _ _ c.loop.invariant.1
