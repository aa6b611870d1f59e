use mathlib.Core.Path.{ap}
use native.Mathlib.Omega.{arith}
use lib.ListN.{length}
use Rattle.translate_start.proofs.NameLaws.{names-all, names-none, left-size}
use Rattle.translate_start.proofs.names.size_names.Goals as goal

pub loop-k-init : goal.loop-k-init
loop-k-init c = (omega arith, λ s i. omega (arith, ap length (names-all s c.args.ids.now c.args.n)))

pub overflow_add-sum-in-loop-k : goal.overflow_add-sum-in-loop-k
overflow_add-sum-in-loop-k c = omega (arith, c.requires.1 _ c.loop-k-test.true)

pub overflow_sub-sum : goal.overflow_sub-sum
overflow_sub-sum c = omega (arith, c.requires.1 _ c.loop-k-test.true)

pub overflow_add-sum-in-loop-k-2 : goal.overflow_add-sum-in-loop-k-2
overflow_add-sum-in-loop-k-2 c = omega (arith, c.requires.1 _ c.loop-k-test.true)

pub loop-k-preserved : goal.loop-k-preserved
loop-k-preserved c =
    let i = c.requires.1 c.loop-k.k c.loop-k-test.true in (
      omega (arith, i),
      λ s j. omega (arith, i, c.loop-k.invariant.1 s j, left-size s c.args.ids.now c.args.n c.loop-k.k c.loop-k-test.true j),
    )

pub returns : goal.returns
returns c s i = omega (arith, c.loop-k.invariant.1 s i, ap length (names-none s c.args.ids.now c.args.n _ c.loop-k-test.false))
