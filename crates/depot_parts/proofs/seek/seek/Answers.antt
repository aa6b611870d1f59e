use Prim.Native.Nat.{◌+◌, ◌-◌}
use mathlib.Core.Path.{◌≡◌, sym, ◌∙◌}
use native.Mathlib.Omega.{arith}
use Rattle.depot_parts.proofs.SeekLaws.{seek-none, seek-here, seek-on}
use Rattle.depot_parts.proofs.seek.seek.Goals as goal

pub returns-then-place-end : goal.returns-then-place-end
returns-then-place-end c =
    let e : c.loop-after.after - 1 + 1 ≡ c.loop-after.after = omega arith in
    rw e (seek-here _ _ _ _ _ _ _ c.loop-after-test.true c.entry_end-end.ensures c.if-place-end.true ∙ c.loop-after.invariant)

pub loop-after-preserved : goal.loop-after-preserved
loop-after-preserved c =
    sym (seek-on _ _ _ _ _ _ _ c.loop-after-test.true c.entry_end-end.ensures c.if-place-end.false) ∙ c.loop-after.invariant

pub returns : goal.returns
returns c =
    let e : c.loop-after.after ≡ 0 = omega arith in
    rw e at (seek-none _ _ _ _ _ _ c.loop-after-test.false ∙ c.loop-after.invariant)
