use Rattle.text.proofs.TextLaws.{wrote_then}
use Rattle.depot_around.specs.Around.{around_text}
use borrow.Author.Tests.{lt-ltb, le-ltb}
use Rattle.depot_around.proofs.put_around.Goals as goal

pub returns-then-end-p : goal.returns-then-end-p
unfolding around_text
returns-then-end-p c =
    rw (le-ltb _ _ c.if-end-p.true) (wrote_then c.put_before-a.ensures c.put.ensures)

pub returns : goal.returns
unfolding around_text
returns c =
    rw (lt-ltb _ _ c.if-end-p.false) (wrote_then (wrote_then
    (wrote_then (wrote_then (wrote_then c.put_before-b.ensures c.put-c.ensures) c.put_part-d.ensures) c.put_byte-e.ensures) c.put_after-f.ensures) c.put_byte.ensures)
