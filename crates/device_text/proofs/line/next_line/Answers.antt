use Prim.Native.Nat.{◌-◌}
use mathlib.Core.Path.{◌≡◌}
use native.Mathlib.Omega.{arith}
use lib.ListN.{length}
use Rattle.device_text.proofs.WordLaws.{behind-length, next_more, next-none}
use Rattle.device_text.proofs.line.next_line.Goals as goal

pub overflow_add-result : goal.overflow_add-result
overflow_add-result c =
    omega (arith, behind-length c.args.text.now c.behind-t.result.now c.args.at c.position-n.result c.behind-t.ensures c.position-n.ensures.0)

pub overflow_add-result-then-n-t : goal.overflow_add-result-then-n-t
overflow_add-result-then-n-t c =
    omega (arith, behind-length c.args.text.now c.behind-t.result.now c.args.at c.position-n.result c.behind-t.ensures c.position-n.ensures.0)

pub returns-then-n-t : goal.returns-then-n-t
returns-then-n-t c =
    let l : length c.behind-t.result.now ≡ length c.args.text.now - c.args.at = behind-length c.args.text.now c.behind-t.result.now c.args.at c.position-n.result c.behind-t.ensures c.position-n.ensures.0 in
    (next_more c.args.text.now c.behind-t.result.now c.args.at c.position-n.result c.behind-t.ensures c.position-n.ensures.0, omega arith, λ h. omega arith)

pub returns : goal.returns
returns c =
    (next-none c.args.text.now c.behind-t.result.now c.args.at c.position-n.result c.behind-t.ensures c.position-n.ensures.0 (omega arith), omega arith, λ h. h)
