use Prim.Native.Nat.{◌-◌}
use mathlib.Core.Path.{◌≡◌}
use mathlib.Core.List.{append-nil}
use native.Mathlib.Omega.{arith}
use lib.ListN.{length}
use Rattle.text.proofs.TextLaws.{wrote_then}
use Rattle.text_rows.specs.Rows.{wide}
use Rattle.text_rows.proofs.put_wide.Goals as goal

pub returns-then-width-count : goal.returns-then-width-count
unfolding wide
returns-then-width-count c =
    let none : c.args.width - length c.args.word.now ≡ 0 = omega arith in
    rw (none, append-nil c.args.word.now) c.put-to.ensures

pub returns : goal.returns
unfolding wide
returns c =
    wrote_then c.put-to.ensures c.put_spaces.ensures
