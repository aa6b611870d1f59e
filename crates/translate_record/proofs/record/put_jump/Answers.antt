use Rattle.translate_record.proofs.RecordLaws.{jump-wrote}
use Rattle.translate_record.proofs.record.put_jump.Goals as goal

pub returns : goal.returns
returns c =
    jump-wrote _ c.args.state _ _ c.put_head.ensures
