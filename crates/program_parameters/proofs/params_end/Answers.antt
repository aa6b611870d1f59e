use mathlib.Core.Path.{ap, ◌∙◌}
use native.Mathlib.Omega.{arith}
use Rattle.program_parameters.specs.Entries.{ends_at}
use Rattle.program_parameters.proofs.EntryLaws.{step_in}
use Rattle.program_parameters.proofs.ParamLaws.{refuses, no_uri, no_source, source-step, no_digest, far_source, ended}
use Rattle.program_parameters.proofs.params_end.Goals as goal

pub returns-in_err-a : goal.returns-in_err-a
returns-in_err-a c = ap (ends_at c.args.to) c.from_residual.ensures ∙ refuses (no_uri _ _ _ _ c.requires c.in_err-a.ensures)

pub returns-in_err-b : goal.returns-in_err-b
returns-in_err-b c =
    ap (ends_at c.args.to) c.from_residual-in_err-b.ensures ∙ refuses (no_source _ _ _ _ c.requires _ c.in_ok-a.ensures c.in_err-b.ensures)

pub source_of-requires : goal.source_of-requires
source_of-requires c =
    step_in _ _ _ _ _ _ _ (source-step _ 0 _ _ c.requires _ c.in_ok-a.ensures _ c.in_ok-b.ensures) c.requires.1

pub returns-then-n-source_of : goal.returns-then-n-source_of
returns-then-n-source_of c =
    refuses
    (far_source _ _ _ _ c.requires _ c.in_ok-a.ensures
    _ c.in_ok-b.ensures (rw (← c.source_of.ensures) c.if-n-source_of.true))

pub returns-in_err-c : goal.returns-in_err-c
returns-in_err-c c =
    ap (ends_at c.args.to) c.from_residual-in_err-c.ensures
    ∙ refuses (no_digest _ _ _ _ c.requires _ c.in_ok-a.ensures _ c.in_ok-b.ensures c.in_err-c.ensures)

pub returns : goal.returns
returns c =
    ended _ _ _ _ c.requires _ c.in_ok-a.ensures _ c.in_ok-b.ensures _ c.in_ok-c.ensures
    (omega (arith, c.source_of.ensures, c.if-n-source_of.false)) _ c.optional-4.ensures
