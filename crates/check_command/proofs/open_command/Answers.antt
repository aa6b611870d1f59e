use mathlib.Core.Path.{sym, ◌∙◌}
use native.Mathlib.Omega.{arith}
use Rattle.cbor_reading.proofs.ReadingLaws.{handed, number-stopped, number_went}
use Rattle.check_command.proofs.CommandLaws.{start_stop, start_unknown, start_not_allowed, start_many, start-argument}
use Rattle.check_command.proofs.open_command.Goals as goal

pub returns-in_err-c : goal.returns-in_err-c
returns-in_err-c c = handed _ _ c.from_residual.ensures.1 ∙ start_stop _ _ _ _ _ _ _ _ (number-stopped _ _ _ _ c.in_err-c.ensures)

pub returns-in_default : goal.returns-in_default
returns-in_default c =
    c.refuse.ensures
    ∙ start_unknown _ _ _ _ _ _ _ _ _ (number_went _ _ _ _ c.in_ok-c.ensures)
    (sym c.look_up.ensures ∙ c.in_default.is)

pub returns-then-not-has_section : goal.returns-then-not-has_section
returns-then-not-has_section c =
    c.refuse-then-not-has_section.ensures
    ∙ start_not_allowed _ _ _ _ _ _ _ _ _
    (number_went _ _ _ _ c.in_ok-c.ensures)
    _ (sym c.look_up.ensures ∙ c.in-Some.is)
    c.requires.2
    (sym c.has_section.ensures ∙ c.if-not-has_section.true)

pub returns-then-most-commands : goal.returns-then-most-commands
returns-then-most-commands c =
    c.refuse-then-most-commands.ensures
    ∙ start_many _ _ _ _ _ _ _ _ _
    (number_went _ _ _ _ c.in_ok-c.ensures)
    _ (sym c.look_up.ensures ∙ c.in-Some.is)
    c.requires.2
    (sym c.has_section.ensures ∙ c.if-not-has_section.false) (omega (arith, c.if-most-commands.true))

pub returns : goal.returns
returns c =
    start-argument _ _ _ _ _ _ _ _ _
    (number_went _ _ _ _ c.in_ok-c.ensures)
    _ (sym c.look_up.ensures ∙ c.in-Some.is)
    c.requires.2
    (sym c.has_section.ensures ∙ c.if-not-has_section.false) (omega (arith, c.if-most-commands.false)) _ c.read_argument.ensures
