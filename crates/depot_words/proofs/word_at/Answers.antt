use Prim.Native.Nat.{suc, ◌+◌}
use mathlib.Core.Path.{◌≡◌, sym}
use native.Mathlib.Omega.{arith}
use Rattle.depot_words.specs.CommandLine.{word_at, later_words}
use Rattle.depot_words.proofs.word_at.Goals as goal

pub loop-preserved : goal.loop-preserved
unfolding word_at later_words
loop-preserved c = λ j.
    let e : j + (c.loop.counter + 1) ≡ suc j + c.loop.counter = omega arith in
    rw (e, c.later_words-rest.ensures) (c.loop.invariant (suc j))

pub returns : goal.returns
unfolding word_at
returns c =
    let e : c.args.k ≡ 0 + c.loop.counter = omega arith in
    rw (e, c.position-n.ensures.0) (sym (c.loop.invariant 0))
