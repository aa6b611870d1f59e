use Rattle.text_rows.proofs.RowLaws.{word-part}
use Rattle.text_rows.proofs.put_word.Goals as goal

pub returns : goal.returns
returns c =
    let bar = rw c.from.ensures at c.position-to.ensures.0 in
    rw (← c.position.ensures.0, ← word-part c.args.words.now c.position.result c.skip-from.result c.skip-from.ensures.1, ← bar) c.put_wide.ensures
