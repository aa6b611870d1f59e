use mathlib.Core.List.{[], ◌∷◌}
use mathlib.Core.Path.{refl}
use mathlib.Core.Logic.{inl}
use native.Mathlib.Omega.{arith}
use borrow.Author.Rules.{rules}
use Rattle.cbor_reading.proofs.ReadingLaws.{handed, item-stopped, item_went, string-fits, reading-stopped, reading_went}
use Rattle.check_manifest.proofs.SectionLaws.{stopped_promise, section_stop, section-bad, section-left_over, section_promise}
use Rattle.check_manifest.proofs.sections.section.Goals as goal

pub returns-in_err-b : goal.returns-in_err-b
returns-in_err-b c =
    rw (handed _ _ c.from_residual.ensures.1)
    (stopped_promise _ (λ x. x ∷ []) _ _ c.args.places.now c.args.places.now (section_stop _ _ _ _ _ _ _ _ (item-stopped _ _ _ _ _ _ _ c.in_err-b.ensures)))

pub overflow_add-to : goal.overflow_add-to
overflow_add-to c = omega (arith, string-fits _ _ _ _ _ _ _ (inl refl) (item_went _ _ _ _ _ _ _ c.in_ok-b.ensures))

pub check_sequence-requires : goal.check_sequence-requires
check_sequence-requires c = let f = string-fits _ _ _ _ _ _ _ (inl refl) (item_went _ _ _ _ _ _ _ c.in_ok-b.ensures) in (
  omega (arith, f),
  search rules,
  search rules,
  search rules,
)

pub returns-in_err-r : goal.returns-in_err-r
returns-in_err-r c =
    rw (handed _ _ c.from_residual-in_err-r.ensures.1)
    (stopped_promise _ (λ x. x ∷ []) _ _ c.args.places.now c.args.places.now
    (section-bad _ _ _ _ _ _ _ _ _ (item_went _ _ _ _ _ _ _ c.in_ok-b.ensures) _ (reading-stopped (λ a. _) _ _ c.in_err-r.ensures)))

pub returns-then-r-to : goal.returns-then-r-to
returns-then-r-to c =
    let (a, w, v) = reading_went (λ a. _) _ _ c.in_ok-r.ensures in
    rw c.refuse.ensures
    (stopped_promise _ (λ x. x ∷ []) _ _ c.args.places.now c.args.places.now
    (section-left_over _ _ _ _ _ _ _ _ _ (item_went _ _ _ _ _ _ _ c.in_ok-b.ensures) a _ w c.if-r-to.true))

pub returns : goal.returns
returns c =
    section_promise _ _ _ _ _ _ _ _ _ (item_went _ _ _ _ _ _ _ c.in_ok-b.ensures)
    _ c.in_ok-r.ensures c.if-r-to.false _ _ c.section_number-i.ensures.0
