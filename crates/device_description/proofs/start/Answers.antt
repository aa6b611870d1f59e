use mathlib.Core.Path.{refl}
use Rattle.device_description.specs.Scenario as Rule
use Rattle.device_description.proofs.start.Goals as goal

pub returns : goal.returns
unfolding Rule.start
returns c = refl
