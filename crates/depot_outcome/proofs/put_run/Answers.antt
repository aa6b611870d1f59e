use native.Mathlib.Omega.{arith}
use borrow.Author.Tests.{eq-eqb, ne_eqb}
use Rattle.text.proofs.TextLaws.{wrote_then}
use Rattle.depot_outcome.specs.Outcome.{run_text}
use Rattle.depot_outcome.proofs.put_run.Goals as goal

pub put_slots-requires : goal.put_slots-requires
put_slots-requires c = omega (arith, c.least-n.ensures)

pub returns-then-answer-ne0 : goal.returns-then-answer-ne0
unfolding run_text
returns-then-answer-ne0 c =
    rw (ne_eqb _ 0 c.if-answer-ne0.true) c.put_stopped.ensures

pub returns : goal.returns
unfolding run_text
returns c =
    rw (eq-eqb _ 0 c.if-answer-ne0.false, ← c.least-n.ensures) (wrote_then (wrote_then c.put_events-a.ensures c.put_ran-b.ensures) c.put_slots.ensures)
