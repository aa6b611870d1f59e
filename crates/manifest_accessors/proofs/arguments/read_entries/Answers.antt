use Prim.Native.Nat.{◌+◌, ◌-◌, ◌<◌}
use mathlib.Core.Path.{◌≡◌}
use native.Mathlib.Nat.{sub-zero}
use native.Mathlib.Omega.{arith}
use Rattle.manifest_accessors.proofs.EntryLaws.{entries-step, entries_none, step-headed, step-entry, fit_bare, within_bare, given_bare}
use Rattle.manifest_accessors.proofs.arguments.read_entries.Goals as goal

pub loop-init : goal.loop-init
loop-init c = λ x. (0, rw (sub-zero, c.bare-a.ensures, given_bare _) x.reads, rw c.bare-a.ensures (fit_bare _ _), rw c.bare-a.ensures (within_bare _))

pub open-name-requires : goal.open-name-requires
open-name-requires c =
    let t = entries-step _ _ _ _ _ _ _ _ _ (omega arith) (c.loop.invariant c.requires).1 in
    step-headed _ _ _ _ _ _ _ _ c.requires.fits t

pub entry-a-requires : goal.entry-a-requires
entry-a-requires c =
    let more : 0 < c.args.k - c.loop.counter = omega arith in
    let t = entries-step _ _ _ _ _ _ _ _ _ more (c.loop.invariant c.requires).1 in
    let o = c.open-name.ensures (step-headed _ _ _ _ _ _ _ _ c.requires.fits t) in
    step-entry _ _ _ _ _ _ _ _ c.requires.fits t _ _ o.0 o.1

pub loop-preserved : goal.loop-preserved
loop-preserved c = λ x.
    let more : 0 < c.args.k - c.loop.counter = omega arith in
    let left : c.args.k - (c.loop.counter + 1) ≡ c.args.k - c.loop.counter - 1 = omega arith in
    let i = c.loop.invariant x in
    let t = entries-step _ _ _ _ _ _ _ _ _ more i.1 in
    let o = c.open-name.ensures (step-headed _ _ _ _ _ _ _ _ x.fits t) in
    let y = c.entry-a.ensures (step-entry _ _ _ _ _ _ _ _ x.fits t _ _ o.0 o.1) in
    (t.name + 1, rw (left, y.given, y.next) t.rest, y.fit i.2, y.within i.3)

pub returns : goal.returns
returns c = λ x.
    let i = c.loop.invariant x in
    let (g, n) = entries_none _ _ _ _ _ _ _ _ _ (omega arith) i.1 in
    (g, n, i.2, i.3)
