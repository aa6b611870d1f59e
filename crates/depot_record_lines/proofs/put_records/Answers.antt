use mathlib.Core.Path.{refl, sym}
use Rattle.rules.specs.ProgramFormat.{argument_from}
use Rattle.rules.specs.ProgramFormat.{record_size as ProgramFormat·recordSize}
use Rattle.depot_record_lines.specs.Lines.{record_size, records_text}
use Rattle.rules.specs.Bytes.{two_at}
use Rattle.depot_argument_lines.proofs.ItemLaws.{size_lies, sized_none, sized-some, sized_positive, going_start, going-length, going_more, going_missing, going_end}
use Rattle.depot_record_lines.proofs.put_records.Goals as goal

pub loop-n-init : goal.loop-n-init
loop-n-init c = going_start _ _ _ _ _ _ _

pub returns-in_default : goal.returns-in_default
unfolding records_text
returns-in_default c =
    going_missing c.loop-n.invariant c.loop-n-test.true (sym (sized_none _ c.in_default.ensures.size)) refl c.put.ensures

pub put_record-to-requires : goal.put_record-to-requires
unfolding record_size
put_record-to-requires c =
    size_lies c.loop-n.rest.now ProgramFormat·recordSize (two_at c.loop-n.rest.now argument_from) (sized-some _ _ c.in-Some.ensures.size) (sized_positive _ _ c.in-Some.ensures.size)

pub loop-n-preserved : goal.loop-n-preserved
loop-n-preserved c =
    going_more c.loop-n.invariant c.loop-n-test.true (sized-some _ _ c.in-Some.ensures.size) (sized_positive _ _ c.in-Some.ensures.size) c.put_record-to.ensures

pub shape_of-room : goal.shape_of-room
shape_of-room c =
    going-length c.loop-n.invariant

pub returns : goal.returns
unfolding records_text
returns c =
    going_end c.loop-n.invariant c.loop-n-test.false
