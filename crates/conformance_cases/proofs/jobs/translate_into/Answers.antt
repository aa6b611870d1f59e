use Prim.Native.Nat.{ℕ}
use lib.ListN.{length, length-replicate}
use Rattle.conformance_cases.specs.Cases.{translate_line}
use Rattle.conformance_cases.proofs.jobs.translate_into.Goals as goal

pub returns : goal.returns
unfolding translate_line
returns c =
    let n = length c.args.lent.now in
    let t = rw (c.fill.ensures, length-replicate {A = ℕ} n 160) at c.pitvorgas_translate-answer.ensures in
    rw (t.0, t.1) at c.put_translation.ensures
