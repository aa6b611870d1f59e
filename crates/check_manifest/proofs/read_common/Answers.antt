use mathlib.Core.Path.{refl}
use mathlib.Core.Logic.{inl}
use native.Mathlib.Omega.{arith}
use borrow.Author.Rules.{rules}
use Rattle.rules.proofs.CheckLaws.{item_law}
use Rattle.cbor_reading.proofs.ReadingLaws.{handed, item-stopped, item_went, place_of-stopped, place_of-went, string-fits, reading-stopped, reading_went}
use Rattle.check_manifest.proofs.CommonLaws.{common_stop, common_no_bytes, common_no_map, common_no_key, common_no_list, common-bad}
use Rattle.check_manifest.proofs.CommonLaws.{common-left_over, common-good, list_went, list-stopped}
use Rattle.check_manifest.proofs.read_common.Goals as goal

pub returns-in_err-b : goal.returns-in_err-b
returns-in_err-b c =
    rw (handed _ _ c.from_residual.ensures.1)
    (common_stop _ _ _ _ _ _ _ (common_no_bytes _ _ _ _ _ (item-stopped _ _ _ _ _ _ _ c.in_err-b.ensures)))

pub overflow_add-to : goal.overflow_add-to
overflow_add-to c = omega (arith, string-fits _ _ _ _ _ _ _ (inl refl) (item_went _ _ _ _ _ _ _ c.in_ok-b.ensures))

pub item-requires-2 : goal.item-requires-2
item-requires-2 c = omega (arith, string-fits _ _ _ _ _ _ _ (inl refl) (item_went _ _ _ _ _ _ _ c.in_ok-b.ensures))

pub returns-in_err-h : goal.returns-in_err-h
returns-in_err-h c =
    rw (handed _ _ c.from_residual-in_err-h.ensures.1)
    (common_stop _ _ _ _ _ _ _
    (common_no_map _ _ _ _ _ _ (item_went _ _ _ _ _ _ _ c.in_ok-b.ensures) _ (item-stopped _ _ _ _ _ _ _ c.in_err-h.ensures)))

pub key_at-requires : goal.key_at-requires
key_at-requires c = omega (arith, string-fits _ _ _ _ _ _ _ (inl refl) (item_went _ _ _ _ _ _ _ c.in_ok-b.ensures))

pub returns-in_err-p : goal.returns-in_err-p
returns-in_err-p c =
    rw (handed _ _ c.from_residual-in_err-p.ensures.1)
    (common_stop _ _ _ _ _ _ _
    (common_no_key _ _ _ _ _ _ (item_went _ _ _ _ _ _ _ c.in_ok-b.ensures) _ _
    (item_went _ _ _ _ _ _ _ c.in_ok-h.ensures) _ (place_of-stopped _ _ c.in_err-p.ensures)))

pub component_list-requires : goal.component_list-requires
component_list-requires c = omega (arith, string-fits _ _ _ _ _ _ _ (inl refl) (item_went _ _ _ _ _ _ _ c.in_ok-b.ensures))

pub returns-in_err-l : goal.returns-in_err-l
returns-in_err-l c =
    rw (handed _ _ c.from_residual-in_err-l.ensures.1)
    (common_stop _ _ _ _ _ _ _
    (common_no_list _ _ _ _ _ _ (item_went _ _ _ _ _ _ _ c.in_ok-b.ensures) _ _
    (item_went _ _ _ _ _ _ _ c.in_ok-h.ensures) _ (place_of-went _ _ c.in_ok-p.ensures)
    _ (list-stopped _ _ _ _ c.in_err-l.ensures.0)))

pub overflow_sub-h : goal.overflow_sub-h
overflow_sub-h c = let i = item_law _ _ _ _ _ _ _ (item_went _ _ _ _ _ _ _ c.in_ok-h.ensures) in omega (arith, i.low)

pub common_sequence-requires : goal.common_sequence-requires
common_sequence-requires c =
    let i = item_law _ _ _ _ _ _ _ (item_went _ _ _ _ _ _ _ c.in_ok-h.ensures) in
    let f = string-fits _ _ _ _ _ _ _ (inl refl) (item_went _ _ _ _ _ _ _ c.in_ok-b.ensures) in
    (omega (arith, f), search rules, omega (arith, i.high), search rules)

pub returns-in_err-q : goal.returns-in_err-q
returns-in_err-q c =
    let (ids, u, q, a, n) = list_went _ _ _ _ c.in_ok-l.ensures.0 in
    rw (handed _ _ c.from_residual-in_err-q.ensures.1)
    (common_stop _ _ _ _ _ _ _
    (common-bad _ _ _ _ _ _ (item_went _ _ _ _ _ _ _ c.in_ok-b.ensures) _ _
    (item_went _ _ _ _ _ _ _ c.in_ok-h.ensures) _ (place_of-went _ _ c.in_ok-p.ensures) ids u q _ _ n a
    _ (reading-stopped (λ xs. _) _ _ c.in_err-q.ensures.0)))

pub returns-then-q-to : goal.returns-then-q-to
returns-then-q-to c =
    let (ids, u, q, a, n) = list_went _ _ _ _ c.in_ok-l.ensures.0 in
    let (xs, w, v) = reading_went (λ xs. _) _ _ c.in_ok-q.ensures.0 in
    rw c.refuse.ensures
    (common_stop _ _ _ _ _ _ _
    (common-left_over _ _ _ _ _ _ (item_went _ _ _ _ _ _ _ c.in_ok-b.ensures) _ _
    (item_went _ _ _ _ _ _ _ c.in_ok-h.ensures) _ (place_of-went _ _ c.in_ok-p.ensures) ids u q _ _ n a xs _ w c.if-q-to.true))

pub returns : goal.returns
returns c =
    let (ids, u, q, a, n) = list_went _ _ _ _ c.in_ok-l.ensures.0 in
    let (xs, w, v) = reading_went (λ xs. _) _ _ c.in_ok-q.ensures.0 in
    common-good _ _ _ _ _ _ (item_went _ _ _ _ _ _ _ c.in_ok-b.ensures) _ _
    (item_went _ _ _ _ _ _ _ c.in_ok-h.ensures) _ (place_of-went _ _ c.in_ok-p.ensures) ids u q _ _ n a xs _ w c.if-q-to.false _ v _ _ _ _
    c.in_ok-l.ensures.1 c.in_ok-q.ensures.1
