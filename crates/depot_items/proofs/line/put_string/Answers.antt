use borrow.Author.Tests.{lt-ltb, le-ltb, eq-eqb, ne_eqb}
use Rattle.depot_items.specs.Line.{string_text}
use Rattle.depot_items.proofs.line.put_string.Goals as goal
use Rattle.depot_items.proofs.line.put_string.Goals.{then-s-end-via-then-s-end, then-s-end-via-else-s-end+then-end-from}

pub returns-then-s-end : goal.returns-then-s-end
unfolding string_text
returns-then-s-end c =
    elim c.then-s-end.branch [
      | then-s-end-via-then-s-end w ↦ rw (lt-ltb _ _ w.if-s-end.true) c.put.ensures
      | then-s-end-via-else-s-end+then-end-from w ↦ rw (le-ltb _ _ w.if-s-end.false, lt-ltb _ _ w.if-end-from.true) c.put.ensures
    ]

pub returns-then-kind-eq-TEXT : goal.returns-then-kind-eq-TEXT
unfolding string_text
returns-then-kind-eq-TEXT c =
    rw (le-ltb _ _ c.if-s-end.false, le-ltb _ _ c.if-end-from.false, eq-eqb _ _ c.if-kind-eq-TEXT.true) c.put_quoted.ensures

pub returns : goal.returns
unfolding string_text
returns c =
    rw (le-ltb _ _ c.if-s-end.false, le-ltb _ _ c.if-end-from.false, ne_eqb _ _ c.if-kind-eq-TEXT.false) c.put_hex.ensures
