use native.Mathlib.Omega.{arith}
use borrow.Author.Tests.{eq-eqb, ne_eqb}
use Rattle.run_commands.proofs.EndLaws.{ends-small, ends_result}
use Rattle.run_commands.proofs.event.result.Goals as goal

pub returns-then-end-eq-STARTED : goal.returns-then-end-eq-STARTED
returns-then-end-eq-STARTED c = rw (ends_result _ c.requires, eq-eqb _ _ c.if-end-eq-STARTED.true)

pub overflow_cast-result : goal.overflow_cast-result
overflow_cast-result c = omega (arith, ends-small _ c.requires)

pub returns : goal.returns
returns c = rw (ends_result _ c.requires, ne_eqb _ _ c.if-end-eq-STARTED.false)
