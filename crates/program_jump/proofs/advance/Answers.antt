use Prim.Native.Nat.{◌+◌}
use mathlib.Core.Path.{◌≡◌}
use native.Mathlib.Omega.{arith}
use Rattle.rules.specs.Bytes.{two_at}
use Rattle.rules.specs.ProgramFormat.{argument_from, record_size}
use Rattle.program_jump.proofs.JumpLaws.{advance_start, advance_room, advance_next, advance_done}
use Rattle.program_jump.proofs.advance.Goals as goal

pub loop-init : goal.loop-init
loop-init c = λ j. advance_start _ _ _ _ _ _ j.place

-- the record that is passed over lies in the bytes
pub overflow_add-next : goal.overflow_add-next
overflow_add-next c =
    omega (arith, advance_room _ _ _ _ _ _ _ _ _ (c.loop.invariant c.requires) (omega (arith, c.loop-test.true, c.requires.within)))

pub two-requires : goal.two-requires
two-requires c =
    omega (arith, advance_room _ _ _ _ _ _ _ _ _ (c.loop.invariant c.requires) (omega (arith, c.loop-test.true, c.requires.within)))

pub overflow_add-next-in-loop-2 : goal.overflow_add-next-in-loop-2
overflow_add-next-in-loop-2 c =
    omega
    (arith, c.two.ensures.0, advance_room _ _ _ _ _ _ _ _ _ (c.loop.invariant c.requires) (omega (arith, c.loop-test.true, c.requires.within)))

pub loop-preserved : goal.loop-preserved
loop-preserved c = λ j.
    let p = c.args.p.now in
    let e : c.loop.next + (record_size + c.two.result) ≡ c.loop.next + record_size + two_at p (c.loop.next + argument_from) = omega (arith, c.two.ensures.0) in
    rw e (advance_next _ _ _ _ _ _ _ _ _ (c.loop.invariant j) (omega (arith, c.loop-test.true, j.within)) c.loop.auto.counter)

pub returns : goal.returns
returns c = λ j.
    advance_done _ _ _ _ _ _ _ _ _ (c.loop.invariant j) _ (omega (arith, c.loop.auto.counter-end, j.forward, c.loop-test.false))
