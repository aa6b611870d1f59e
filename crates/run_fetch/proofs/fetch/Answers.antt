use Prim.Native.Nat.{◌+◌, ◌*◌, ◌≤◌}
use mathlib.Core.Path.{◌≡◌, refl}
use native.Mathlib.Omega.{arith}
use lib.ListN.{length}
use borrow.Author.Tests.{eq-eqb, ne_eqb, le-leb, lt-leb}
use Rattle.rules.specs.Bytes.{part, num}
use Rattle.rules.specs.Slots.{size_from, answer_bytes}
use Rattle.rules.specs.Step.{unless}
use Rattle.rules.proofs.BytesLaws.{num_4}
use Rattle.run_actions.proofs.ActionLaws.{fetch-unset, fetch-none, fetch-taken}
use Rattle.run_fetch.proofs.fetch.Goals as goal

pub returns-then-uri-eq0 : goal.returns-then-uri-eq0
returns-then-uri-eq0 c =
    rw c.effect_of.ensures
    (refl, λ s env i st a x u. rw (fetch-unset s _ env i st _ _ a _ _ x u c.if-uri-eq0.true))

pub returns-then-answers-used : goal.returns-then-answers-used
returns-then-answers-used c =
    let l : length c.args.answers.now ≤ answer_bytes * c.args.used = omega arith in
    rw c.effect_of-then-answers-used.ensures
    (refl, λ s env i st a x u. rw (fetch-none s _ env i st _ _ a _ _ x u c.if-uri-eq0.false l))

pub returns-then-answers-at-ne0 : goal.returns-then-answers-at-ne0
unfolding unless
returns-then-answers-at-ne0 c =
    let l : answer_bytes * c.args.used + answer_bytes ≤ length c.args.answers.now = omega arith in
    rw c.effect_of-then-answers-at-ne0.ensures
    (refl, λ s env i st a x u. rw (fetch-taken s _ env i st _ _ a _ _ x u c.if-uri-eq0.false l, ne_eqb _ _ c.if-answers-at-ne0.true))

pub returns-then-capacity-four : goal.returns-then-capacity-four
unfolding unless
returns-then-capacity-four c =
    let at = answer_bytes * c.args.used in
    let l : at + answer_bytes ≤ length c.args.answers.now = omega arith in
    let n : c.four.result ≡ num (part c.args.answers.now (at + size_from) 4) =
    rw (num_4 c.args.answers.now (at + size_from) (omega arith)) c.four.ensures.0 in rw c.effect_of-then-capacity-four.ensures (
      refl,
      λ s env i st a x u.
          rw (
            fetch-taken s _ env i st _ _ a _ _ x u c.if-uri-eq0.false l,
            eq-eqb _ _ c.if-answers-at-ne0.false,
            ← n,
            ← c.capacity.ensures,
            lt-leb _ _ c.if-capacity-four.true,
          ),
    )

pub returns : goal.returns
unfolding unless
returns c =
    let at = answer_bytes * c.args.used in
    let l : at + answer_bytes ≤ length c.args.answers.now = omega (arith, c.if-answers-used.false, c.requires.1) in
    let n : c.four.result ≡ num (part c.args.answers.now (at + size_from) 4) =
    rw (num_4 c.args.answers.now (at + size_from) (omega arith)) c.four.ensures.0 in rw c.effect_of-2.ensures (
      refl,
      λ s env i st a x u.
          rw (
            fetch-taken s _ env i st _ _ a _ _ x u c.if-uri-eq0.false l,
            eq-eqb _ _ c.if-answers-at-ne0.false,
            ← n,
            ← c.capacity.ensures,
            le-leb _ _ c.if-capacity-four.false,
            c.put_image.ensures,
            c.take-answer.ensures,
          ),
    )
