use lib.ListN.{length}
use borrow.Author.Tests.{lt-ltb, le-ltb}
use Rattle.rules.specs.ProgramFormat.{start_size}
use Rattle.rules.proofs.BytesLaws.{part-rest}
use Rattle.depot_matches.specs.Values.{argument_of}
use Rattle.depot_matches.proofs.values.argument_of.Goals as goal

pub returns-then-p-lt-START_BYTES : goal.returns-then-p-lt-START_BYTES
unfolding argument_of
returns-then-p-lt-START_BYTES c =
    rw (lt-ltb (length c.args.p.now) start_size c.if-p-lt-START_BYTES.true)

pub returns : goal.returns
unfolding argument_of
returns c =
    rw (
      le-ltb (length c.args.p.now) start_size c.if-p-lt-START_BYTES.false,
      ← part-rest c.args.p.now start_size,
      ← c.wide.ensures.0,
      ← c.two.ensures.0,
      ← c.after_components-records.ensures,
    )
    c.argument_among.ensures
