use mathlib.Core.Path.{refl, sym}
use lib.ListN.{get_or}
use Rattle.rules.specs.ProgramFormat.{entry_length_from, entry_size}
use Rattle.depot_argument_lines.specs.Arguments.{parameter_size, parameters_text}
use Rattle.depot_argument_lines.proofs.ItemLaws.{size_lies, sized_none, sized-some, sized_positive, going_start, going-length, going_more, going_missing, going_end}
use Rattle.depot_argument_lines.proofs.put_parameters.Goals as goal

pub loop-init : goal.loop-init
loop-init c = going_start _ _ _ _ _ _ _

pub returns-in_default : goal.returns-in_default
unfolding parameters_text
returns-in_default c =
    going_missing c.loop.invariant c.loop-test.true (sym (sized_none _ c.in_default.ensures.size)) refl c.put_stray.ensures

pub put_parameter-to-requires : goal.put_parameter-to-requires
unfolding parameter_size
put_parameter-to-requires c =
    size_lies c.loop.rest.now entry_size (get_or c.loop.rest.now entry_length_from 0) (sized-some _ _ c.in-Some.ensures.size) (sized_positive _ _ c.in-Some.ensures.size)

pub loop-preserved : goal.loop-preserved
loop-preserved c =
    going_more c.loop.invariant c.loop-test.true (sized-some _ _ c.in-Some.ensures.size) (sized_positive _ _ c.in-Some.ensures.size) c.put_parameter-to.ensures

pub shape_of-room : goal.shape_of-room
shape_of-room c = going-length c.loop.invariant

pub returns : goal.returns
unfolding parameters_text
returns c = going_end c.loop.invariant c.loop-test.false
