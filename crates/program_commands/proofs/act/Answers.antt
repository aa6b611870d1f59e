use Prim.Native.Nat.{◌+◌}
use mathlib.Core.Path.{◌≡◌, refl, sym, ap, ◌∙◌}
use native.Mathlib.Omega.{arith}
use lib.ListN.{length}
use borrow.Author.Rules.{rules}
use Rattle.rules.specs.Commands as Rules
use Rattle.rules.specs.Limits.{memory_numbers}
use Rattle.rules.specs.ProgramFormat.{record_size}
use Rattle.rules.specs.Step.{acts}
use Rattle.run_slots.specs.Params.{meaning}
use Rattle.run_slots.proofs.ParamsLaws.{fit-over, fit-stored, stored-kept}
use Rattle.run_commands.proofs.PerformLaws.{is_at, source-at, set-params, override_params_lem}
use Rattle.program_commands.specs.Act.{next_record}
use Rattle.program_commands.proofs.ToldLaws.{vendor-told, class-told, match_told, index-told, abort-told, fetch-told, copy_told, run-told, swap-told}
use Rattle.program_commands.proofs.ToldLaws.{set_told, override_told, params-here, params-told}
use Rattle.program_commands.proofs.act.Goals as goal

pub bounds-memory-i : goal.bounds-memory-i
bounds-memory-i c = omega (arith, c.requires.inside)

pub overflow_add-from : goal.overflow_add-from
overflow_add-from c = omega (arith, c.requires.room)

pub overflow_add-from-in-1 : goal.overflow_add-from-in-1
overflow_add-from-in-1 c = omega (arith, (vendor-told _ _ _ _ _ c.requires c.in-1.is).0, c.requires.room)

pub equal_sixteen-requires : goal.equal_sixteen-requires
equal_sixteen-requires c = omega (arith, (vendor-told _ _ _ _ _ c.requires c.in-1.is).0, c.requires.room)

pub overflow_add-from-in-2 : goal.overflow_add-from-in-2
overflow_add-from-in-2 c = omega (arith, (class-told _ _ _ _ _ c.requires c.in-2.is).0, c.requires.room)

pub equal_sixteen-requires-in-2 : goal.equal_sixteen-requires-in-2
equal_sixteen-requires-in-2 c = omega (arith, (class-told _ _ _ _ _ c.requires c.in-2.is).0, c.requires.room)

pub load-requires : goal.load-requires
load-requires c = c.requires.inside

pub matches-requires : goal.matches-requires
matches-requires c =
    (c.requires.hold _ c.requires.inside, rw c.load.ensures (c.requires.fit _ c.requires.inside).digest)

-- parameters: the argument is taken, and goes over what is set or under it
pub take_params-requires : goal.take_params-requires
take_params-requires c =
    params-here _ _ _ _ _ c.requires Rules.set_params (set_told _ _ _ _ _ c.requires c.in-19.is) _ (omega (arith, c.two.ensures.0))

pub take_params-requires-in-20 : goal.take_params-requires-in-20
take_params-requires-in-20 c =
    params-here _ _ _ _ _ c.requires Rules.override_params (override_told _ _ _ _ _ c.requires c.in-20.is) _ (omega (arith, c.two-in-20.ensures.0))

pub load-requires-in-21 : goal.load-requires-in-21
load-requires-in-21 c = c.requires.inside

pub fetch-e-requires : goal.fetch-e-requires
fetch-e-requires c = (c.requires.hold _ c.requires.inside, c.requires.answered)

pub load-requires-in-22 : goal.load-requires-in-22
load-requires-in-22 c = c.requires.inside

pub copy-requires : goal.copy-requires
copy-requires c =
    (c.requires.hold _ c.requires.inside, c.requires.hold, rw c.load-in-22.ensures (c.requires.fit _ c.requires.inside).source)

pub runs-requires : goal.runs-requires
runs-requires c = c.requires.hold _ c.requires.inside

pub load-requires-in_default : goal.load-requires-in_default
load-requires-in_default c = c.requires.inside

pub swap-requires : goal.swap-requires
swap-requires c =
    (c.requires.hold _ c.requires.inside, c.requires.hold, rw c.load-in_default.ensures (c.requires.fit _ c.requires.inside).source)

pub returns-in-1 : goal.returns-in-1
unfolding acts
returns-in-1 c = λ j.
    let t = vendor-told _ _ _ _ _ j c.in-1.is in
    rw c.effect_at.ensures
    (t.0, record { ends = c.equal_sixteen.ensures.0; does = λ env trace events h l f. rw (t.1, h.vendors) (c.equal_sixteen.ensures.1 _); fit = λ n f g. f; kept = λ i h. refl })

pub returns-in-2 : goal.returns-in-2
unfolding acts
returns-in-2 c = λ j.
    let t = class-told _ _ _ _ _ j c.in-2.is in
    rw c.effect_at-in-2.ensures
    (t.0, record { ends = c.equal_sixteen-in-2.ensures.0; does = λ env trace events h l f. rw (t.1, h.classes) (c.equal_sixteen-in-2.ensures.1 _); fit = λ n f g. f; kept = λ i h. refl })

pub returns-in-3 : goal.returns-in-3
unfolding acts
returns-in-3 c = λ j.
    let t = match_told _ _ _ _ _ j c.in-3.is in
    rw c.effect_at-in-3.ensures (
      t.0,
      record {
        ends = c.matches.ensures.0;
        does = λ env trace events h z f. rw t.1 (c.matches.ensures.1 env _ _ (is_at _ env _ _ _ _ _ trace _ events _ h z _ c.load.ensures _ refl));
        fit = λ n f g. f;
        kept = λ i h. refl;
      },
    )

pub returns-in-12 : goal.returns-in-12
unfolding acts
returns-in-12 c = λ j.
    let t = index-told _ _ _ _ _ j c.in-12.is in
    rw c.effect_at-in-12.ensures
    (t.0, record { ends = refl; does = λ env trace events h l f. rw t.1; fit = λ n f g. f; kept = λ i h. refl })

pub returns-in-14 : goal.returns-in-14
unfolding acts
returns-in-14 c = λ j.
    let t = abort-told _ _ _ _ _ j c.in-14.is in
    rw c.effect_at-in-14.ensures
    (t.0, record { ends = refl; does = λ env trace events h l f. rw t.1; fit = λ n f g. f; kept = λ i h. refl })

pub returns-in-19 : goal.returns-in-19
unfolding acts
returns-in-19 c = λ j.
    let is = set_told _ _ _ _ _ j c.in-19.is in
    let et : c.args.x.at + record_size + c.two.result ≡ next_record c.args.p.now c.args.x.at = omega (arith, c.two.ensures.0) in
    let taken = c.take_params.ensures (params-here _ _ _ _ _ j Rules.set_params is _ et) in
    let eo : j.op ≡ Rules.set_params (meaning c.args.p.now c.take_params.result) = params-told _ _ _ _ _ j Rules.set_params is _ et ∙ ap Rules.set_params (sym taken.means) in
    let w : length c.args.memory.now ≡ memory_numbers = search rules in
    rw (c.effect_at-in-19.ensures, c.store.ensures) (
      et,
      record {
        ends = refl;
        does = λ env trace events h l f.
            rw (eo, set-params _ env _ _ _ _ _ trace _ events c.args.x.used h l c.load-old.result c.load-old.ensures w c.take_params.result _ c.over.ensures);
        fit = λ n f g.
            fit-stored _ n _ _ _ w c.requires.inside f
            (rw c.over.ensures (fit-over _ n c.load-old.result c.take_params.result (rw c.load-old.ensures (f _ c.requires.inside)) (rw g taken.fit)));
        kept = stored-kept _ _ _;
      },
    )

pub returns-in-20 : goal.returns-in-20
unfolding acts
returns-in-20 c = λ j.
    let is = override_told _ _ _ _ _ j c.in-20.is in
    let et : c.args.x.at + record_size + c.two-in-20.result ≡ next_record c.args.p.now c.args.x.at = omega (arith, c.two-in-20.ensures.0) in
    let taken = c.take_params-in-20.ensures (params-here _ _ _ _ _ j Rules.override_params is _ et) in
    let eo : j.op ≡ Rules.override_params (meaning c.args.p.now c.take_params-in-20.result) = params-told _ _ _ _ _ j Rules.override_params is _ et ∙ ap Rules.override_params (sym taken.means) in
    let w : length c.args.memory.now ≡ memory_numbers = search rules in
    rw (c.effect_at-in-20.ensures, c.store-in-20.ensures) (
      et,
      record {
        ends = refl;
        does = λ env trace events h l f.
            rw (eo, override_params_lem _ env _ _ _ _ _ trace _ events c.args.x.used h l c.load-old-in-20.result c.load-old-in-20.ensures w c.take_params-in-20.result _ c.over-in-20.ensures);
        fit = λ n f g.
            fit-stored _ n _ _ _ w c.requires.inside f
            (rw c.over-in-20.ensures (fit-over _ n c.take_params-in-20.result c.load-old-in-20.result (rw g taken.fit) (rw c.load-old-in-20.ensures (f _ c.requires.inside))));
        kept = stored-kept _ _ _;
      },
    )

pub returns-in-21 : goal.returns-in-21
unfolding acts
returns-in-21 c = λ j.
    let t = fetch-told _ _ _ _ _ j c.in-21.is in
    rw c.effect_at-in-21.ensures (
      t.0,
      record {
        ends = c.fetch-e.ensures.0;
        does = λ env trace events h z f.
            rw t.1 (c.fetch-e.ensures.1 _ env _ _ (is_at _ env _ _ _ _ _ trace _ events _ h z _ c.load-in-21.ensures _ refl) h.replies refl);
        fit = λ n f g. f;
        kept = λ i h. refl;
      },
    )

pub returns-in-22 : goal.returns-in-22
unfolding acts
returns-in-22 c = λ j.
    let t = copy_told _ _ _ _ _ j c.in-22.is in
    rw c.effect_at-in-22.ensures (
      t.0,
      record {
        ends = c.copy.ensures.0;
        does = λ env trace events h z f.
            rw t.1
            (c.copy.ensures.1 _ env _ _ (is_at _ env _ _ _ _ _ trace _ events _ h z _ c.load-in-22.ensures _ refl) (source-at _ env _ _ _ _ _ trace _ events _ h z _ c.load-in-22.ensures f));
        fit = λ n f g. f;
        kept = λ i h. refl;
      },
    )

pub returns-in-23 : goal.returns-in-23
unfolding acts
returns-in-23 c = λ j.
    let t = run-told _ _ _ _ _ j c.in-23.is in
    rw c.effect_at-in-23.ensures (
      t.0,
      record {
        ends = c.runs.ensures.0;
        does = λ env trace events h l f.
            let a = is_at _ env _ _ _ _ _ trace _ events _ h l _ refl _ refl in
            rw t.1 (c.runs.ensures.1 env _ _ a.lent a.number);
        fit = λ n f g. f;
        kept = λ i h. refl;
      },
    )

pub returns-in_default : goal.returns-in_default
unfolding acts
returns-in_default c = λ j.
    let t = swap-told _ _ _ _ _ j (λ e. omega arith, λ e. omega arith, λ e. omega arith, λ e. omega arith, λ e. omega arith, λ e. omega arith, λ e. omega arith, λ e. omega arith, λ e. omega arith, λ e. omega arith) in
    rw c.effect_at-in_default.ensures (
      t.0,
      record {
        ends = c.swap.ensures.0;
        does = λ env trace events h z f.
            rw t.1
            (c.swap.ensures.1 _ env _ _ (is_at _ env _ _ _ _ _ trace _ events _ h z _ c.load-in_default.ensures _ refl) (source-at _ env _ _ _ _ _ trace _ events _ h z _ c.load-in_default.ensures f));
        fit = λ n f g. f;
        kept = λ i h. refl;
      },
    )
