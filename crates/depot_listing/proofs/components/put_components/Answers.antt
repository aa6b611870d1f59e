use mathlib.Core.Path.{refl, sym}
use lib.ListN.{get_or}
use Rattle.rules.specs.ProgramFormat.{length_from, name_size}
use Rattle.depot_listing.specs.Listing.{component_size, components_text}
use Rattle.depot_argument_lines.proofs.ItemLaws.{size_lies, sized_none, sized-some, sized_positive, going_start, going-length, going_more, going_missing, going_end}
use Rattle.depot_listing.proofs.components.put_components.Goals as goal

pub loop-n-init : goal.loop-n-init
loop-n-init c = going_start _ _ _ _ _ _ _

pub returns-in_default : goal.returns-in_default
unfolding components_text
returns-in_default c =
    going_missing c.loop-n.invariant c.loop-n-test.true (sym (sized_none _ c.in_default.ensures.size)) refl c.put.ensures

pub put_component-to-requires : goal.put_component-to-requires
unfolding component_size
put_component-to-requires c =
    size_lies c.loop-n.rest.now name_size (get_or c.loop-n.rest.now length_from 0) (sized-some _ _ c.in-Some.ensures.size) (sized_positive _ _ c.in-Some.ensures.size)

pub loop-n-preserved : goal.loop-n-preserved
loop-n-preserved c =
    going_more c.loop-n.invariant c.loop-n-test.true (sized-some _ _ c.in-Some.ensures.size) (sized_positive _ _ c.in-Some.ensures.size) c.put_component-to.ensures

pub shape_of-room : goal.shape_of-room
shape_of-room c =
    going-length c.loop-n.invariant

pub returns : goal.returns
unfolding components_text
returns c =
    going_end c.loop-n.invariant c.loop-n-test.false
