use native.Mathlib.Omega.{arith}
use Rattle.run_leaf.proofs.LeafLaws.{leaf-inside, leaf-fit, leaf-code, leaf_room, leaf-ran}
use Rattle.run_leaf.proofs.leaf.Goals as goal

pub read_one-a-requires : goal.read_one-a-requires
read_one-a-requires c = c.requires.argument

pub perform-d-requires : goal.perform-d-requires
perform-d-requires c =
    let r = c.read_one-a.ensures c.requires.argument in
    let i = leaf-inside _ _ _ _ _ _ _ _ _ c.requires _ r _ c.component-index.ensures in (
      record {
        inside = omega (arith, i, c.requires.ready.lent.host.few);
        sixteen = r.sixteen;
        coded = leaf-code _ _ _ _ _ _ _ _ _ c.requires _ r _ c.component-index.ensures;
        hold = c.requires.ready.lent.hold;
        fit = leaf-fit _ _ _ _ _ _ _ _ _ c.requires _ r _ c.component-index.ensures;
        answered = c.requires.ready.lent.answered;
      },
      leaf_room _ _ _ _ _ _ _ _ _ c.requires _ r _ c.component-index.ensures,
    )

pub returns : goal.returns
returns c = λ j.
    let r = c.read_one-a.ensures j.argument in
    let n = j.count in
    leaf-ran _ _ _ _ _ _ _ _ _ j _ r _ c.component-index.ensures c.perform-d.result _ _ _ c.perform-d.ensures.events c.perform-d.ensures.ends
    (c.perform-d.ensures.does j.ready.env j.ready.lent.host (leaf-inside _ _ _ _ _ _ _ _ _ j _ r _ c.component-index.ensures) j.ready.lent.fit)
    (c.perform-d.ensures.fit _ j.ready.lent.fit (rw n at r.fit)) c.perform-d.ensures.kept _ c.either.ensures
