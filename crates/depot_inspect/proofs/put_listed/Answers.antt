use Rattle.text.proofs.TextLaws.{wrote_then}
use Rattle.depot_inspect.proofs.PrintedLaws.{printed, listed-program, listed-refused}
use Rattle.depot_inspect.proofs.put_listed.Goals as goal

pub returns-then-pitvorgas_test_program : goal.returns-then-pitvorgas_test_program
returns-then-pitvorgas_test_program c =
    printed (listed-program c.args.program.now _ c.pitvorgas_test_program.ensures c.if-pitvorgas_test_program.true) c.put_program.ensures

pub returns : goal.returns
returns c =
    let w = rw c.number.ensures at c.put_refused-to.ensures in
    printed (listed-refused c.args.program.now _ c.pitvorgas_test_program.ensures c.if-pitvorgas_test_program.false) (wrote_then w c.put_program-2.ensures)
