use mathlib.Core.Path.{refl, sym, ◌∙◌}
use lib.ListN.{get_or}
use native.Mathlib.Omega.{arith}
use borrow.Author.Tests.{eq-eqb, ne_eqb}
use Rattle.rules.specs.ProgramFormat.{entry_length_from, entry_size}
use Rattle.depot_argument_lines.specs.Arguments.{parameter_size}
use Rattle.depot_argument_lines.proofs.ItemLaws.{size_lies, sized_none, sized-some, sized_positive}
use Rattle.depot_matches.specs.Values.{value_in}
use Rattle.depot_matches.proofs.FindLaws.{seeking_start, seeking_missing, seeking_found, seeking_more, seeking_end}
use Rattle.depot_matches.proofs.values.value_in.Goals as goal

pub loop-init : goal.loop-init
loop-init c = seeking_start _ _ _ _ _

pub returns-in_default : goal.returns-in_default
unfolding value_in
returns-in_default c =
    seeking_missing c.loop.invariant c.loop-test.true (sym (sized_none _ c.in_default.ensures.size)) refl

pub bounds-rest-0 : goal.bounds-rest-0
unfolding parameter_size
bounds-rest-0 c =
    omega (arith, size_lies c.loop.rest.now entry_size (get_or c.loop.rest.now entry_length_from 0) (sized-some _ _ c.in-Some.ensures.size) (sized_positive _ _ c.in-Some.ensures.size))

pub entry_in-requires : goal.entry_in-requires
unfolding parameter_size
entry_in-requires c =
    size_lies c.loop.rest.now entry_size (get_or c.loop.rest.now entry_length_from 0) (sized-some _ _ c.in-Some.ensures.size) (sized_positive _ _ c.in-Some.ensures.size)

pub returns-then-wide-key : goal.returns-then-wide-key
unfolding value_in
returns-then-wide-key c =
    let test = eq-eqb _ _ (sym c.wide.ensures.0 ∙ c.if-wide-key.true) in
    c.entry_in.ensures ∙ seeking_found c.loop.invariant c.loop-test.true (sized-some _ _ c.in-Some.ensures.size) (sized_positive _ _ c.in-Some.ensures.size) test

pub loop-preserved : goal.loop-preserved
loop-preserved c =
    let test = ne_eqb _ _ (λ y. c.if-wide-key.false (c.wide.ensures.0 ∙ y)) in
    seeking_more c.loop.invariant c.loop-test.true (sized-some _ _ c.in-Some.ensures.size) (sized_positive _ _ c.in-Some.ensures.size) test

pub returns : goal.returns
unfolding value_in
returns c = seeking_end c.loop.invariant c.loop-test.false
