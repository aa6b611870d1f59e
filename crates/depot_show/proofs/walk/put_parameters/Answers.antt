use mathlib.Core.Logic.{inl, inr}
use Prim.Native.Nat.{◌+◌, ◌-◌}
use native.Mathlib.Omega.{arith}
use Rattle.depot_show.proofs.ShownLaws.{rest-length, rest-text, rest-done}
use Rattle.depot_show.proofs.WalkLaws.{no_parameters, more-parameters}
use Rattle.depot_show.proofs.walk.put_parameters.Goals as goal

pub shape_of-room-then-e-next : goal.shape_of-room-then-e-next
shape_of-room-then-e-next c =
    rest-length c.loop.invariant

pub returns-then-e-next : goal.returns-then-e-next
returns-then-e-next c =
    rest-done _ c.loop.invariant (no_parameters _ _ _ _ _ (inl c.if-e-next.true))

pub loop-preserved : goal.loop-preserved
loop-preserved c =
    rw (c.look-v.ensures, c.want-key.ensures) (rest-text (rw (more-parameters _ _ (c.args.count - c.loop.counter) (c.args.count - (c.loop.counter + 1)) _ _ (omega arith) c.if-e-next.false) at c.loop.invariant)
    (rw (c.look-v.ensures, c.want-key.ensures) at c.put_parameter-end.ensures))

pub shape_of-room : goal.shape_of-room
shape_of-room c =
    rest-length c.loop.invariant

pub returns : goal.returns
returns c =
    rest-done _ c.loop.invariant (no_parameters _ _ _ _ _ (inr (omega arith)))
