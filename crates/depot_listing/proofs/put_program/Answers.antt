use lib.ListN.{length}
use borrow.Author.Tests.{lt-ltb, le-ltb}
use Rattle.rules.specs.ProgramFormat.{start_size}
use Rattle.depot_listing.specs.Listing.{program_text}
use Rattle.text.proofs.TextLaws.{wrote_then}
use Rattle.rules.proofs.BytesLaws.{part-rest}
use Rattle.depot_listing.proofs.put_program.Goals as goal

pub returns-then-p-lt-START_BYTES : goal.returns-then-p-lt-START_BYTES
unfolding program_text
returns-then-p-lt-START_BYTES c =
    rw (lt-ltb (length c.args.p.now) start_size c.if-p-lt-START_BYTES.true) c.put.ensures

pub returns : goal.returns
unfolding program_text
returns c =
    rw (
      le-ltb (length c.args.p.now) start_size c.if-p-lt-START_BYTES.false,
      ← part-rest c.args.p.now start_size,
      ← c.wide-count.ensures.0,
      ← c.two.ensures.0,
      ← c.after_components-records.ensures,
    )
    (wrote_then (wrote_then c.put_start-a.ensures c.put_components-b.ensures) c.put_records.ensures)
