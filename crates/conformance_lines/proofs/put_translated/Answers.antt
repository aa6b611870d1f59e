use mathlib.Core.Path.{sym}
use native.Mathlib.Omega.{arith}
use lib.Seq.{length-take-le}
use borrow.Author.Tests.{eq-eqb, ne_eqb}
use Rattle.conformance_lines.specs.Lines.{translated_text}
use Rattle.conformance_lines.proofs.put_translated.Goals as goal

pub least-n-requires : goal.least-n-requires
least-n-requires c = tt

pub slice_bounds-put_program-end : goal.slice_bounds-put_program-end
slice_bounds-put_program-end c =
    sym (length-take-le c.least-n.result c.args.lent.now (omega arith))

pub put_program-requires : goal.put_program-requires
put_program-requires c = tt

pub returns-then-answer-eq0 : goal.returns-then-answer-eq0
unfolding translated_text
returns-then-answer-eq0 c =
    rw (eq-eqb _ _ c.if-answer-eq0.true, ← c.least-n.ensures) c.put_program.ensures

pub put_refused-requires : goal.put_refused-requires
put_refused-requires c = tt

pub returns : goal.returns
unfolding translated_text
returns c =
    rw (ne_eqb _ _ c.if-answer-eq0.false) c.put_refused.ensures
