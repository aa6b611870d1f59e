use mathlib.Core.Path.{◌≡◌, refl}
use native.Mathlib.Omega.{arith}
use lib.ListN.{length}
use Rattle.rules.specs.Limits.{memory_numbers}
use Rattle.rules.specs.Step.{acts}
use Rattle.rules.specs.Commands as Rules
use Rattle.run_commands.specs.Op.{op_of}
use Rattle.run_commands.specs.Performed.{command_of}
use Rattle.run_slots.proofs.ParamsLaws.{fit-over, fit-stored, stored-kept}
use Rattle.run_commands.proofs.PerformLaws.{is_at, source-at, set-params, override_params_lem, swap-left}
use Rattle.run_commands.proofs.act.act.Goals as goal

pub bounds-memory-i : goal.bounds-memory-i
bounds-memory-i c = omega (arith, c.requires.inside)

pub equal_sixteen-requires : goal.equal_sixteen-requires
equal_sixteen-requires c = c.requires.sixteen (omega (arith, c.in-1.is))

pub equal_sixteen-requires-in-2 : goal.equal_sixteen-requires-in-2
equal_sixteen-requires-in-2 c = c.requires.sixteen (omega (arith, c.in-2.is))

pub load-requires : goal.load-requires
load-requires c = c.requires.inside

pub matches-requires : goal.matches-requires
matches-requires c =
    (c.requires.hold _ c.requires.inside, rw c.load.ensures (c.requires.fit _ c.requires.inside).digest)

pub load-p-requires : goal.load-p-requires
load-p-requires c = c.requires.inside

pub load-p-requires-in-20 : goal.load-p-requires-in-20
load-p-requires-in-20 c = c.requires.inside

pub load-requires-in-21 : goal.load-requires-in-21
load-requires-in-21 c = c.requires.inside

pub fetch-requires : goal.fetch-requires
fetch-requires c = (c.requires.hold _ c.requires.inside, c.requires.answered)

pub load-requires-in-22 : goal.load-requires-in-22
load-requires-in-22 c = c.requires.inside

pub copy-requires : goal.copy-requires
copy-requires c =
    (c.requires.hold _ c.requires.inside, c.requires.hold, rw c.load-in-22.ensures (c.requires.fit _ c.requires.inside).source)

pub runs-requires : goal.runs-requires
runs-requires c = c.requires.hold _ c.requires.inside

pub load-requires-in_default : goal.load-requires-in_default
load-requires-in_default c = c.requires.inside

pub swap-requires : goal.swap-requires
swap-requires c =
    (c.requires.hold _ c.requires.inside, c.requires.hold, rw c.load-in_default.ensures (c.requires.fit _ c.requires.inside).source)

pub returns-in-1 : goal.returns-in-1
unfolding op_of acts
returns-in-1 c =
    rw c.effect_of.ensures
    (record {
      ends = c.equal_sixteen.ensures.0;
      does = λ env trace events h l f. rw (c.in-1.is, h.vendors) (c.equal_sixteen.ensures.1 _);
      fit = λ n f g. f;
      kept = λ i h. refl;
    })

pub returns-in-2 : goal.returns-in-2
unfolding op_of acts
returns-in-2 c =
    rw c.effect_of-in-2.ensures
    (record {
      ends = c.equal_sixteen-in-2.ensures.0;
      does = λ env trace events h l f. rw (c.in-2.is, h.classes) (c.equal_sixteen-in-2.ensures.1 _);
      fit = λ n f g. f;
      kept = λ i h. refl;
    })

pub returns-in-3 : goal.returns-in-3
unfolding op_of acts
returns-in-3 c =
    rw c.effect_of-in-3.ensures
    (record {
      ends = c.matches.ensures.0;
      does = λ env trace events h z f. rw c.in-3.is (c.matches.ensures.1 env _ _ (is_at _ env _ _ _ _ _ trace _ _ _ h z _ c.load.ensures _ refl));
      fit = λ n f g. f;
      kept = λ i h. refl;
    })

pub returns-in-12 : goal.returns-in-12
unfolding op_of acts
returns-in-12 c =
    rw c.effect_of-in-12.ensures
    (record { ends = refl; does = λ env trace events h l f. rw c.in-12.is; fit = λ n f g. f; kept = λ i h. refl })

pub returns-in-14 : goal.returns-in-14
unfolding op_of acts
returns-in-14 c =
    rw c.effect_of-in-14.ensures
    (record { ends = refl; does = λ env trace events h l f. rw c.in-14.is; fit = λ n f g. f; kept = λ i h. refl })

pub returns-in-19 : goal.returns-in-19
unfolding op_of acts
returns-in-19 c =
    let w : length c.args.memory.now ≡ memory_numbers = c.store-arg-1.given.0.1 in
    rw (c.effect_of-in-19.ensures, c.store.ensures)
    (record {
      ends = refl;
      does =
          λ env trace events h l f.
          rw (
            c.in-19.is,
            set-params _ env _ _ _ _ _ trace _ events c.args.command.used h l c.load-p.result c.load-p.ensures w c.args.given _ c.over.ensures,
          );
      fit =
          λ n f g.
          fit-stored _ n _ _ _ w c.requires.inside f
          (rw c.over.ensures (fit-over _ n c.load-p.result _ (rw c.load-p.ensures (f _ c.requires.inside)) g));
      kept = stored-kept _ _ _;
    })

pub returns-in-20 : goal.returns-in-20
unfolding op_of acts
returns-in-20 c =
    let w : length c.args.memory.now ≡ memory_numbers = c.store-arg-in-20-1.given.0.1 in
    rw (c.effect_of-in-20.ensures, c.store-in-20.ensures)
    (record {
      ends = refl;
      does =
          λ env trace events h l f.
          rw (
            c.in-20.is,
            override_params_lem _ env _ _ _ _ _ trace _ events c.args.command.used h l c.load-p-in-20.result c.load-p-in-20.ensures w c.args.given _ c.over-in-20.ensures,
          );
      fit =
          λ n f g.
          fit-stored _ n _ _ _ w c.requires.inside f
          (rw c.over-in-20.ensures (fit-over _ n _ c.load-p-in-20.result g (rw c.load-p-in-20.ensures (f _ c.requires.inside))));
      kept = stored-kept _ _ _;
    })

pub returns-in-21 : goal.returns-in-21
unfolding op_of acts
returns-in-21 c =
    record {
      ends = c.fetch.ensures.0;
      does =
          λ env trace events h z f.
          rw c.in-21.is
          (c.fetch.ensures.1 _ env _ _ (is_at _ env _ _ _ _ _ trace _ _ _ h z _ c.load-in-21.ensures _ refl) h.replies refl);
      fit = λ n f g. f;
      kept = λ i h. refl;
    }

pub returns-in-22 : goal.returns-in-22
unfolding op_of acts
returns-in-22 c =
    rw c.effect_of-in-22.ensures
    (record {
      ends = c.copy.ensures.0;
      does =
          λ env trace events h z f.
          rw c.in-22.is
          (c.copy.ensures.1 _ env _ _ (is_at _ env _ _ _ _ _ trace _ _ _ h z _ c.load-in-22.ensures _ refl) (source-at _ env _ _ _ _ _ trace _ _ _ h z _ c.load-in-22.ensures f));
      fit = λ n f g. f;
      kept = λ i h. refl;
    })

pub returns-in-23 : goal.returns-in-23
unfolding op_of acts
returns-in-23 c =
    rw c.effect_of-in-23.ensures
    (record {
      ends = c.runs.ensures.0;
      does =
          λ env trace events h l f.
          let a = is_at _ env _ _ _ _ _ trace _ _ _ h l _ refl _ refl in
          rw c.in-23.is (c.runs.ensures.1 env _ _ a.lent a.number);
      fit = λ n f g. f;
      kept = λ i h. refl;
    })

pub returns-in_default : goal.returns-in_default
unfolding acts
returns-in_default c =
    let ((((((((((_, n₁), n₂), n₃), n₁₂), n₁₄), n₁₉), n₂₀), n₂₁), n₂₂), n₂₃) = c.in_default.in_default-own.rest in
    let is-swap : command_of c.args.s.now c.args.command c.args.given ≡ Rules.swap = swap-left _ _ _ _ n₁ n₂ n₃ n₁₂ n₁₄ n₁₉ n₂₀ n₂₁ n₂₂ n₂₃ in
    rw c.effect_of-in_default.ensures
    (record {
      ends = c.swap.ensures.0;
      does =
          λ env trace events h z f.
          rw is-swap
          (c.swap.ensures.1 _ env _ _ (is_at _ env _ _ _ _ _ trace _ _ _ h z _ c.load-in_default.ensures _ refl) (source-at _ env _ _ _ _ _ trace _ _ _ h z _ c.load-in_default.ensures f));
      fit = λ n f g. f;
      kept = λ i h. refl;
    })
