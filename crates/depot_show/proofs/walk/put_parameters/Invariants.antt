use Prim.Native.Nat.{◌-◌}
use Rattle.depot_show.specs.Shown.{parameters_shown}
use Rattle.depot_show.proofs.ShownLaws.{Rest}
use Rattle.depot_show.proofs.walk.put_parameters.Given as goal

-- The invariant: what is written, and the parameters that are left, make the whole.
abbrev pub invariant-loop : goal.invariant-loop
invariant-loop l =
    Rest (parameters_shown l.s l.depth l.count l.e l.at) l.to l.initial.room (parameters_shown l.s l.depth (l.count - l.counter) l.e l.next) l.end l.room
