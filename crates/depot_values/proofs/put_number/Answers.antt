use borrow.Author.Rules.{rules}
use borrow.Author.Tests.{ne_eqb}
use lib.ListN.{length}
use Rattle.rules.specs.ProgramFormat.{size_bytes, source_bytes}
use Rattle.depot_values.specs.Values.{number_text}
use Rattle.depot_values.proofs.put_number.Goals as goal

pub returns-in-4 : goal.returns-in-4
unfolding number_text
returns-in-4 c = rw (c.in-4.is, ← c.four.ensures.0) c.put_decimal.ensures

pub returns-in-1 : goal.returns-in-1
unfolding number_text
returns-in-1 c = rw (c.in-1.is, ← c.wide.ensures.0) c.put_decimal-in-1.ensures

pub returns-in_default : goal.returns-in_default
unfolding number_text
returns-in_default c =
    rw (ne_eqb (length c.args.s.now) size_bytes (search rules), ne_eqb (length c.args.s.now) source_bytes (search rules)) c.put_hex.ensures
