use mathlib.Core.List.{[], ◌∷◌}
use native.Mathlib.Omega.{arith}
use lib.ListN.{length-set}
use Rattle.byte_buffer.proofs.PutLaws.{in_a_row}
use Rattle.run_slots.specs.Params.{params_from, stored}
use Rattle.run_slots.proofs.params.store.Goals as goal

pub bounds-memory-at-2 : goal.bounds-memory-at-2
bounds-memory-at-2 c = simp length-set (omega arith)

pub bounds-memory-at-3 : goal.bounds-memory-at-3
bounds-memory-at-3 c = simp length-set (omega arith)

pub bounds-memory-at-4 : goal.bounds-memory-at-4
bounds-memory-at-4 c = simp length-set (omega arith)

pub bounds-memory-at-5 : goal.bounds-memory-at-5
bounds-memory-at-5 c = simp length-set (omega arith)

pub returns : goal.returns
unfolding stored
returns c =
    in_a_row c.args.memory.now (params_from c.args.i) (c.args.p.uri ∷ [])
    ((c.args.p.length ∷ []) ∷ (c.args.p.source ∷ []) ∷ (c.args.p.digest ∷ []) ∷ (c.args.p.size ∷ []) ∷ [])
