use Prim.Native.Nat.{◌-◌}
use mathlib.Core.Path.{◌≡◌}
use native.Mathlib.Omega.{arith}
use lib.ListN.{length}
use Rattle.text.specs.Text.{decimal}
use Rattle.text.proofs.TextLaws.{wrote_then}
use Rattle.text_numbers.proofs.put_padded.Goals as goal

pub returns-then-width-count : goal.returns-then-width-count
returns-then-width-count c =
    let none : c.args.width - length (decimal c.args.n) ≡ 0 = omega (arith, c.count_digits-count.ensures) in
    rw none c.put_decimal.ensures

pub returns : goal.returns
returns c =
    rw (← c.count_digits-count.ensures) (wrote_then c.put_spaces-to.ensures c.put_decimal-2.ensures)
