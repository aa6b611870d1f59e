use mathlib.Core.Path.{refl, sym, ap, ◌∙◌}
use native.Mathlib.Omega.{arith}
use lib.ListN.{length}
use borrow.Author.Rules.{rules}
use Rattle.rules.specs.Bytes.{put}
use Rattle.translate_start.proofs.NameLaws.{names-all, names-none, left-size, left-put, left-next}
use Rattle.translate_start.proofs.names.write_names.Goals as goal

pub loop-k-init : goal.loop-k-init
loop-k-init c =
    let e = names-all c.args.s.now c.args.ids.now c.args.n in
    (refl, ap (put c.args.room.now c.args.at) e, omega (arith, ap length e))

pub overflow_sub-ids : goal.overflow_sub-ids
overflow_sub-ids c = omega (arith, c.requires.1 _ c.loop-k-test.true)

pub put_name-to-requires : goal.put_name-to-requires
put_name-to-requires c =
    (omega (arith, c.requires.1 c.loop-k.k c.loop-k-test.true), c.requires.2 c.loop-k.k c.loop-k-test.true, omega (arith, c.requires.1 c.loop-k.k c.loop-k-test.true, c.requires.3, left-size c.args.s.now c.args.ids.now c.args.n c.loop-k.k c.loop-k-test.true c.requires.1, c.loop-k.invariant.0, c.loop-k.invariant.2))

pub loop-k-preserved : goal.loop-k-preserved
loop-k-preserved c = (
  search rules,
  c.loop-k.invariant.1 ∙ left-put _ _ _ _ c.loop-k-test.true c.requires.1 _ _ _ _ c.put_name-to.ensures,
  left-next _ _ _ _ c.loop-k-test.true c.requires.1 _ _ _ _ c.put_name-to.ensures ∙ c.loop-k.invariant.2,
)

pub returns : goal.returns
returns c =
    let e = names-none c.args.s.now c.args.ids.now c.args.n _ c.loop-k-test.false in
    record { filled = sym (c.loop-k.invariant.1 ∙ ap (put _ _) e); next = omega (arith, c.loop-k.invariant.2, ap length e) }
