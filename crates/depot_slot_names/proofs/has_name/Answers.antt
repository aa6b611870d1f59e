use mathlib.Core.Path.{◌∙◌, ap}
use Rattle.rules.specs.Bytes.{same}
use Rattle.depot_slot_names.proofs.has_name.Goals as goal

pub returns : goal.returns
returns c = c.is.ensures ∙ ap (same c.args.id.now) c.slot_name.ensures
