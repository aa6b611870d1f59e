use Prim.Native.Nat.{◌+◌, ◌*◌, ◌<◌}
use mathlib.Core.Path.{◌≡◌, sym, ◌∙◌}
use native.Mathlib.Omega.{arith}
use borrow.Author.Tests.{eqb-true, eqb-false, ne_eqb}
use lib.ListN.{length, get_or}
use Rattle.device_text.specs.Words as Words
use Rattle.device_text.proofs.WordLaws.{decimal-empty, decimal-stuck, decimal-all, number-next, more-other, more-large, more_fits}
use Rattle.device_text.proofs.read.decimal.Goals as goal

pub returns-then-is_empty : goal.returns-then-is_empty
returns-then-is_empty c = decimal-empty c.args.w.now (eqb-true _ _ (sym c.is_empty.ensures ∙ c.if-is_empty.true))

pub loop-b-init : goal.loop-b-init
unfolding Words.number
loop-b-init c =
    let some : length c.args.w.now ≡ 0 → ⊥ = eqb-false _ _ (sym c.is_empty.ensures ∙ c.if-is_empty.false) in
    (omega arith, rw (ne_eqb (length c.args.w.now) 0 some))

pub returns-then-not-is_ascii_digit : goal.returns-then-not-is_ascii_digit
returns-then-not-is_ascii_digit c =
    decimal-stuck c.args.w.now c.loop-b.b-index c.loop-b.n (omega arith) c.loop-b.invariant.1 (more-other c.loop-b.n (get_or c.args.w.now c.loop-b.b-index 0) (λ l u. grind (arith, c.if-not-is_ascii_digit.ensures.cases)))

pub returns-then-n-gt-LARGEST_NUMBER : goal.returns-then-n-gt-LARGEST_NUMBER
returns-then-n-gt-LARGEST_NUMBER c =
    decimal-stuck c.args.w.now c.loop-b.b-index c.loop-b.n (omega arith) c.loop-b.invariant.1 (more-large c.loop-b.n (get_or c.args.w.now c.loop-b.b-index 0) c.if-not-is_ascii_digit.ensures.cases.0 c.if-not-is_ascii_digit.ensures.cases.1 c.loop-b.invariant.0 (omega arith))

pub loop-b-preserved : goal.loop-b-preserved
loop-b-preserved c =
    let fits : c.loop-b.n * 10 + c.from.result < Words.no_number = omega arith in
    let more = more_fits c.loop-b.n (get_or c.args.w.now c.loop-b.b-index 0) c.if-not-is_ascii_digit.ensures.cases.0 c.if-not-is_ascii_digit.ensures.cases.1 c.loop-b.invariant.0 (omega arith) in
    (fits, c.loop-b.invariant.1 ∙ number-next c.args.w.now c.loop-b.b-index c.loop-b.n (omega arith) ∙ rw (more, c.from.ensures))

pub returns : goal.returns
returns c = decimal-all c.args.w.now c.loop-b.b-index c.loop-b.n (omega arith) c.loop-b.invariant.0 c.loop-b.invariant.1
