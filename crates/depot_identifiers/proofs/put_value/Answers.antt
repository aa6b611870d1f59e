use mathlib.Core.Path.{sym, ◌∙◌}
use Rattle.depot_identifiers.specs.Identifier.{value_text}
use Rattle.depot_identifiers.proofs.put_value.Goals as goal

pub returns-then-prints_whole : goal.returns-then-prints_whole
unfolding value_text
returns-then-prints_whole c =
    rw (sym c.prints_whole.ensures ∙ c.if-prints_whole.true) c.put_quoted.ensures

pub returns : goal.returns
unfolding value_text
returns c =
    rw (sym c.prints_whole.ensures ∙ c.if-prints_whole.false) c.put_hex.ensures
