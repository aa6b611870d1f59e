use mathlib.Core.Path.{refl, sym}
use Rattle.depot_argument_lines.proofs.ItemLaws.{sized_none, sized-some, sized_positive}
use Rattle.depot_listing.specs.Listing.{after_components}
use Rattle.depot_listing.proofs.ListingLaws.{following_start, following_more, following_missing, following_end}
use Rattle.depot_listing.proofs.components.after_components.Goals as goal

pub loop-init : goal.loop-init
loop-init c = following_start _ _ _

pub returns-in_default : goal.returns-in_default
unfolding after_components
returns-in_default c =
    following_missing c.loop.invariant c.loop-test.true (sym (sized_none _ c.in_default.ensures.size)) refl

pub loop-preserved : goal.loop-preserved
loop-preserved c =
    following_more c.loop.invariant c.loop-test.true (sized-some _ _ c.in-Some.ensures.size) (sized_positive _ _ c.in-Some.ensures.size)

pub returns : goal.returns
unfolding after_components
returns c =
    following_end c.loop.invariant c.loop-test.false
