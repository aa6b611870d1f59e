use mathlib.Core.Path.{refl, sym, ap}
use borrow.Author.Rules.{rules}
use borrow.Author.Tests.{eq-eqb, ne_eqb}
use Rattle.rules.specs.Commands.{commands}
use Rattle.rules.specs.Tables.{codes, listed}
use Rattle.rules_lookup.proofs.LookUpLaws.{no_row, listed_at}
use Rattle.rules_lookup.proofs.look_up.Goals as goal

pub returns-then-code-ge-CODES : goal.returns-then-code-ge-CODES
returns-then-code-ge-CODES c = sym (ap listed (no_row codes commands c.args.code refl c.if-code-ge-CODES.true))

pub returns-then-entry-eq0 : goal.returns-then-entry-eq0
returns-then-entry-eq0 c =
    rw (eq-eqb _ _ c.if-entry-eq0.true) at (listed_at c.args.table.now c.args.code c.requires (search rules))

pub returns : goal.returns
returns c =
    rw (c.sections_in.ensures, c.argument_at.ensures, c.kind_in.ensures, c.condition_in.ensures)
    (rw (ne_eqb _ _ c.if-entry-eq0.false) at (listed_at c.args.table.now c.args.code c.requires (search rules)))
