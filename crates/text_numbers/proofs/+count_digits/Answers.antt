use Prim.Native.Nat.{◌-◌, ◌/◌, ◌%◌}
use mathlib.Core.List.{[], ◌∷◌}
use native.Mathlib.Omega.{arith}
use lib.ListN.{length-append}
use Rattle.text.specs.Text.{digit, digits}
use Rattle.text_numbers.proofs.NumberLaws.{digits-none, digits-one, digits_more, few-digits}
use Rattle.text_numbers.proofs.+count_digits.Goals as goal

pub returns-then-k-eq0 : goal.returns-then-k-eq0
returns-then-k-eq0 t c = rw (digits-none c.args.k c.args.n c.if-k-eq0.true)

pub returns-then-n-lt10 : goal.returns-then-n-lt10
returns-then-n-lt10 t c = rw (digits-one c.args.k c.args.n c.if-k-eq0.false c.if-n-lt10.true)

pub overflow_add-result : goal.overflow_add-result
overflow_add-result t c = omega (arith, c.count_digits.ensures, few-digits (c.args.k - 1) (c.args.n / 10))

pub returns : goal.returns
returns t c =
    rw (digits_more c.args.k c.args.n c.if-k-eq0.false c.if-n-lt10.false, length-append (digits (c.args.k - 1) (c.args.n / 10)) (digit (c.args.n % 10) ∷ []), ← c.count_digits.ensures)
