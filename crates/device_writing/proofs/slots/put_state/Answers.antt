use borrow.Author.Tests.{eq-eqb, ne_eqb}
use Rattle.device_writing.proofs.slots.put_state.Goals as goal

pub returns-then-present-eq0 : goal.returns-then-present-eq0
returns-then-present-eq0 c =
    rw (eq-eqb c.args.present 0 c.if-present-eq0.true) c.put.ensures

pub returns : goal.returns
returns c =
    rw (ne_eqb c.args.present 0 c.if-present-eq0.false) c.put-2.ensures
