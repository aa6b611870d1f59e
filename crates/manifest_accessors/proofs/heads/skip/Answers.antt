use Prim.Native.Nat.{◌+◌, ◌-◌, ◌<◌}
use mathlib.Core.Path.{◌≡◌}
use native.Mathlib.Omega.{arith}
use Rattle.manifest_accessors.proofs.HeadLaws.{strings-first, strings-more, strings-fit, strings-none}
use Rattle.manifest_accessors.proofs.heads.skip.Goals as goal

pub open-b-requires : goal.open-b-requires
open-b-requires c = strings-first _ _ _ _ _ c.requires.fits (omega arith) (c.loop.invariant c.requires)

pub overflow_add-p : goal.overflow_add-p
overflow_add-p c =
    let more : 0 < c.args.k - c.loop.counter = omega arith in
    let q = c.loop.invariant c.requires in
    let e = c.open-b.ensures (strings-first _ _ _ _ _ c.requires.fits more q) in
    omega (arith, strings-fit _ _ _ _ _ c.requires.fits more q, e)

pub loop-preserved : goal.loop-preserved
loop-preserved c = λ x.
    let more : 0 < c.args.k - c.loop.counter = omega arith in
    let left : c.args.k - (c.loop.counter + 1) ≡ c.args.k - c.loop.counter - 1 = omega arith in
    let q = c.loop.invariant x in
    let e = c.open-b.ensures (strings-first _ _ _ _ _ x.fits more q) in
    rw (left, e.0, e.1) (strings-more _ _ _ _ _ x.fits more q)

pub returns : goal.returns
returns c = λ x. strings-none _ _ _ _ _ (omega arith) (c.loop.invariant x)
