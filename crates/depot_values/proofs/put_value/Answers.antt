use mathlib.Core.Path.{sym, ◌∙◌}
use Rattle.depot_values.specs.Values.{value_text}
use Rattle.depot_values.proofs.put_value.Goals as goal

pub returns-in-Some : goal.returns-in-Some
unfolding value_text
returns-in-Some c =
    rw (sym c.look_up_parameter-row.ensures ∙ c.in-Some.is) c.put_known.ensures

pub returns-in-None : goal.returns-in-None
unfolding value_text
returns-in-None c =
    rw (sym c.look_up_parameter-row.ensures ∙ c.in-None.is) c.put_number.ensures
