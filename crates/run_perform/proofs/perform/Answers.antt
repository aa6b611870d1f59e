use mathlib.Core.Path.{refl}
use native.Mathlib.Omega.{arith}
use Rattle.rules_theorems.proofs.OpLaws.{code-small}
use Rattle.run_commands.specs.Performed.{command_of}
use Rattle.run_commands.proofs.PerformLaws.{with_event_lem}
use Rattle.run_perform.proofs.perform.Goals as goal

pub act-d-requires : goal.act-d-requires
act-d-requires c = c.requires.0

pub put_event-requires : goal.put_event-requires
put_event-requires c =
    (c.requires.1, omega (arith, c.requires.0.coded, code-small (command_of c.args.s.now c.args.command c.args.given)), omega (arith, c.requires.0.inside), c.act-d.ensures.ends)

pub returns : goal.returns
returns c =
    record {
      events = refl;
      ends = c.act-d.ensures.ends;
      does =
          λ env h l f.
          with_event_lem c.args.s.now env _ _ _ _ _ (command_of c.args.s.now c.args.command c.args.given) _ _ c.args.command.place c.args.command.events _
          c.act-d.result (c.act-d.ensures.does env c.args.trace.now c.args.command.events h l f) c.requires.0.coded c.put_event.ensures;
      fit = c.act-d.ensures.fit;
      kept = c.act-d.ensures.kept;
    }
