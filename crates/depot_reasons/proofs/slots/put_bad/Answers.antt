use borrow.Author.Tests.{lt-ltb, le-ltb}
use Rattle.text.proofs.TextLaws.{wrote_then}
use Rattle.depot_reasons.specs.BadSlots.{bad_text}
use Rattle.depot_reasons.proofs.slots.put_bad.Goals as goal
use Rattle.depot_reasons.proofs.slots.put_bad.Goals.{then-length-lt1-via-then-length-lt1, then-length-lt1-via-else-length-lt1+then-length-gt-IDENTIFIER_BYTES}

pub returns-then-length-lt1 : goal.returns-then-length-lt1
unfolding bad_text
returns-then-length-lt1 c =
    elim c.then-length-lt1.branch [
      | then-length-lt1-via-then-length-lt1 w ↦
          rw (← c.wide-length.ensures.0, lt-ltb _ _ w.if-length-lt1.true) (wrote_then c.put_labelled-a.ensures c.put_length.ensures)
      | then-length-lt1-via-else-length-lt1+then-length-gt-IDENTIFIER_BYTES w ↦
          rw (← c.wide-length.ensures.0, le-ltb _ _ w.if-length-lt1.false, lt-ltb _ _ w.if-length-gt-IDENTIFIER_BYTES.true) (wrote_then c.put_labelled-a.ensures c.put_length.ensures)
    ]

pub returns : goal.returns
unfolding bad_text
returns c =
    rw (← c.wide-length.ensures.0, le-ltb _ _ c.if-length-lt1.false, le-ltb _ _ c.if-length-gt-IDENTIFIER_BYTES.false) (wrote_then c.put_labelled-a.ensures c.put_sizes.ensures)
