use native.Mathlib.Omega.{arith}
use borrow.Author.Rules.{rules}
use lib.Seq.{lt-length-set}
use Rattle.component_ids.proofs.IdentifierLaws.{listing_start, listing_stop, listing-next, listing-end}
use Rattle.component_ids.proofs.identifiers.Goals as goal

pub loop-k-init : goal.loop-k-init
loop-k-init c = (search rules, search rules, listing_start _ _ _ _ _)

pub returns-in-Err : goal.returns-in-Err
returns-in-Err c = listing_stop _ _ _ _ _ _ _ _ c.loop-k.invariant.2 (omega arith) c.in-Err.ensures

pub bounds-places-k-in-loop-k : goal.bounds-places-k-in-loop-k
bounds-places-k-in-loop-k c = lt-length-set c.loop-k.places _ _ (omega arith)

pub loop-k-preserved : goal.loop-k-preserved
loop-k-preserved c = (
  search rules,
  search rules,
  listing-next _ _ _ _ _ _ _ _ c.loop-k.invariant.2 (omega arith) c.in-Ok.ensures c.loop-k.invariant.0 (omega arith),
)

pub returns : goal.returns
returns c = listing-end _ _ _ _ _ _ _ _ c.loop-k.invariant.2 (omega arith)
