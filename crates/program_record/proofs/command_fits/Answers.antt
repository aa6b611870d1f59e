use mathlib.Core.Path.{sym, ◌∙◌}
use native.Mathlib.Omega.{arith}
use borrow.Author.Tests.{ltb-true, ltb-false}
use Rattle.rules.specs.ProgramFormat.{target_from}
use Rattle.program_heads.proofs.HeadLaws.{two_is}
use Rattle.program_record.proofs.RecordLaws.{not-allowed, no_component, not_fitting, decided}
use Rattle.program_record.proofs.command_fits.Goals as goal
use Rattle.program_record.proofs.command_fits.Goals.{then-allows, else-allows, then-wide-components, else-wide-components}

pub returns-then-argument_fits : goal.returns-then-argument_fits
returns-then-argument_fits c =
    elim c.if-wide-components.branch [
      | else-wide-components w ↦ cc
      | then-wide-components w ↦
          elim c.if-allows.branch [
            | else-allows v ↦ cc
            | then-allows v ↦
                let below = ltb-true _ _ (sym v.value-is ∙ w.if-wide-components.true) in
                decided c.args.group c.args.components c.args.total c.args.n c.args.p.now c.args.at c.args.next _ c.wide.ensures.0
                _ c.entry_at-entry.ensures _ c.allows.ensures v.if-allows.true (omega (arith, below, v.wide-then-allows.ensures.0))
                _ w.argument_fits.ensures (sym w.value-is ∙ c.if-argument_fits.true)
                _ (two_is c.args.p.now c.args.at target_from _ (omega arith) c.two.ensures.0) _ c.target_fits.ensures
          ]
    ]

pub returns-else-argument_fits : goal.returns-else-argument_fits
returns-else-argument_fits c =
    elim c.if-allows.branch [
      | else-allows v ↦
          c.if-argument_fits.false
          ∙ not-allowed c.args.group c.args.components c.args.total c.args.n c.args.p.now c.args.at c.args.next _ c.wide.ensures.0
          _ c.entry_at-entry.ensures _ c.allows.ensures v.if-allows.false
      | then-allows v ↦
          elim c.if-wide-components.branch [
            | else-wide-components w ↦
                let above = ltb-false _ _ (sym v.value-is ∙ w.if-wide-components.false) in
                c.if-argument_fits.false
                ∙ no_component c.args.group c.args.components c.args.total c.args.n c.args.p.now c.args.at c.args.next _ c.wide.ensures.0
                _ c.entry_at-entry.ensures _ c.allows.ensures v.if-allows.true (omega (arith, above, v.wide-then-allows.ensures.0))
            | then-wide-components w ↦
                let below = ltb-true _ _ (sym v.value-is ∙ w.if-wide-components.true) in
                c.if-argument_fits.false
                ∙ not_fitting c.args.group c.args.components c.args.total c.args.n c.args.p.now c.args.at c.args.next _ c.wide.ensures.0
                _ c.entry_at-entry.ensures _ c.allows.ensures v.if-allows.true (omega (arith, below, v.wide-then-allows.ensures.0))
                _ w.argument_fits.ensures (sym w.value-is ∙ c.if-argument_fits.false)
          ]
    ]
