use lib.ListN.{length}
use Rattle.text_pieces.proofs.PieceLaws.{between-least}
use Rattle.depot_around.specs.Around.{shown}
use native.Mathlib.Omega.{arith}
use Prim.Native.Nat.{◌+◌}
use Rattle.depot_around.proofs.put_after.Goals as goal
use Rattle.depot_around.proofs.put_after.Goals.{then-end-p-lt-END, else-end-p-lt-END}

pub returns : goal.returns
returns c =
    elim c.if-end-p-lt-END.branch [
      | then-end-p-lt-END w ↦
          rw (← between-least c.args.s.now (c.args.p + 1) (c.args.p + (1 + shown)) (length c.args.s.now) (omega arith), ← w.to-is) c.put_spaced.ensures
      | else-end-p-lt-END w ↦ rw (← w.to-is) c.put_spaced.ensures
    ]
