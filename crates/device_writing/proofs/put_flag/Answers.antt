use Rattle.device_writing.proofs.put_flag.Goals as goal

pub returns-then-on : goal.returns-then-on
returns-then-on c =
    rw c.if-on.true c.put.ensures

pub returns : goal.returns
returns c =
    rw c.if-on.false c.put-2.ensures
