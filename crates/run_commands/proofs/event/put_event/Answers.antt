use Prim.Native.Nat.{ℕ, ◌*◌}
use mathlib.Core.Path.{◌≡◌}
use mathlib.Core.List.{[], ◌∷◌}
use native.Mathlib.Omega.{arith}
use lib.ListN.{length, length-set}
use Rattle.rules.specs.Answers.{end_of, result_number}
use Rattle.rules.specs.Bytes.{Bytes, be2, put}
use Rattle.rules.specs.Step.{event_bytes}
use Rattle.byte_buffer.proofs.PutLaws.{pieces, in_a_row, row-length}
use Rattle.run_commands.proofs.event.put_event.Goals as goal

-- the trace after the place, as long as before
kept : (t t' : Bytes) (at code component place : ℕ) →
    t' ≡ pieces (put t at (0x53 ∷ [])) at 1 ((0x54 ∷ []) ∷ (code ∷ []) ∷ (component ∷ []) ∷ be2 place ∷ []) → length t' ≡ length t
kept t t' at code component place e = rw e (row-length t at (0x53 ∷ []) ((0x54 ∷ []) ∷ (code ∷ []) ∷ (component ∷ []) ∷ be2 place ∷ []))

pub bounds-trace-at-2 : goal.bounds-trace-at-2
bounds-trace-at-2 c = simp length-set (omega arith)

pub bounds-trace-at-3 : goal.bounds-trace-at-3
bounds-trace-at-3 c = simp length-set (omega arith)

pub bounds-trace-at-4 : goal.bounds-trace-at-4
bounds-trace-at-4 c = simp length-set (omega arith)

pub put_u16-requires : goal.put_u16-requires
put_u16-requires c = simp length-set (omega arith)

pub bounds-trace-at-5 : goal.bounds-trace-at-5
bounds-trace-at-5 c =
    omega (arith, kept c.args.trace.now _ (event_bytes * c.args.events) c.args.code c.args.component c.args.place c.put_u16.ensures)

pub bounds-trace-at-6 : goal.bounds-trace-at-6
bounds-trace-at-6 c =
    simp length-set (omega (arith, kept c.args.trace.now _ (event_bytes * c.args.events) c.args.code c.args.component c.args.place c.put_u16.ensures))

pub shape_of-trace : goal.shape_of-trace
shape_of-trace c =
    simp length-set (omega (arith, kept c.args.trace.now _ (event_bytes * c.args.events) c.args.code c.args.component c.args.place c.put_u16.ensures))

-- the steps are written out: `rw` with a fact refuses a way point that passes it
pub returns : goal.returns
returns c =
    rw (c.result.ensures, c.put_u16.ensures)
    (in_a_row c.args.trace.now (event_bytes * c.args.events) (0x53 ∷ [])
    ((0x54 ∷ []) ∷ (c.args.code ∷ []) ∷ (c.args.component ∷ []) ∷ be2 c.args.place ∷ (result_number (end_of c.args.end) ∷ []) ∷ (0 ∷ []) ∷ []))
