use native.Mathlib.Omega.{arith}
use Rattle.program_arguments.proofs.ArgumentLaws.{sixteen_right, none_right, parameters_right, other_right}
use Rattle.program_arguments.proofs.argument_fits.Goals as goal

pub returns-in-0 : goal.returns-in-0
returns-in-0 c = sixteen_right _ _ _ _ c.requires _ c.in-0.is

pub returns-in-4 : goal.returns-in-4
returns-in-4 c = parameters_right _ _ _ _ c.requires _ c.in-4.is _ c.params_fit.ensures

pub returns-in-1 : goal.returns-in-1
returns-in-1 c = none_right _ _ _ _ c.requires _ (omega arith) (omega arith)

pub returns-in_default : goal.returns-in_default
returns-in_default c = other_right _ _ _ _ c.requires _ (omega arith) (λ e. omega arith)
