use mathlib.Core.Path.{refl, sym, ◌∙◌}
use native.Mathlib.Omega.{arith}
use Rattle.rules.specs.Bytes.{two_at}
use Rattle.rules.specs.ProgramFormat.{argument_from}
use Rattle.rules.specs.ProgramFormat.{record_size as ProgramFormat·recordSize}
use Rattle.depot_record_lines.specs.Lines.{record_size}
use Rattle.depot_argument_lines.proofs.ItemLaws.{size_lies, sized_none, sized-some, sized_positive}
use Rattle.depot_matches.proofs.FindLaws.{seeking_start, seeking_missing, seeking_found, seeking_more, seeking_end}
use Rattle.depot_matches.proofs.values.argument_among.Goals as goal

pub loop-init : goal.loop-init
loop-init c = seeking_start _ _ _ _ _

pub returns-in_default : goal.returns-in_default
returns-in_default c =
    seeking_missing c.loop.invariant c.loop-test.true (sym (sized_none _ c.in_default.ensures.size)) refl

pub record_is-requires : goal.record_is-requires
unfolding record_size
record_is-requires c =
    omega (arith, size_lies c.loop.rest.now ProgramFormat·recordSize (two_at c.loop.rest.now argument_from) (sized-some _ _ c.in-Some.ensures.size) (sized_positive _ _ c.in-Some.ensures.size))

pub argument_in-requires : goal.argument_in-requires
unfolding record_size
argument_in-requires c =
    size_lies c.loop.rest.now ProgramFormat·recordSize (two_at c.loop.rest.now argument_from) (sized-some _ _ c.in-Some.ensures.size) (sized_positive _ _ c.in-Some.ensures.size)

pub returns-then-record_is : goal.returns-then-record_is
returns-then-record_is c =
    let test = sym c.record_is.ensures ∙ c.if-record_is.true in
    c.argument_in.ensures ∙ seeking_found c.loop.invariant c.loop-test.true (sized-some _ _ c.in-Some.ensures.size) (sized_positive _ _ c.in-Some.ensures.size) test

pub loop-preserved : goal.loop-preserved
loop-preserved c =
    let test = sym c.record_is.ensures ∙ c.if-record_is.false in
    seeking_more c.loop.invariant c.loop-test.true (sized-some _ _ c.in-Some.ensures.size) (sized_positive _ _ c.in-Some.ensures.size) test

pub returns : goal.returns
returns c = seeking_end c.loop.invariant c.loop-test.false
