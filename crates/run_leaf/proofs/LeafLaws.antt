-- What a command that writes an event leaves is what the rule gives.
use Prim.Native.Nat.{ℕ, ◌+◌, ◌*◌, ◌≤◌, ◌<◌}
use mathlib.Core.Path.{◌≡◌, refl, sym, ◌∙◌}
use mathlib.Core.List.{List}
use mathlib.Core.Bool.{Bool, cond}
use mathlib.Core.Option.{Option}
use native.Mathlib.Omega.{arith}
use lib.Dec.{eqb}
use lib.ListN.{length}
use Rattle.rules.specs.Bytes.{Bytes}
use Rattle.rules.specs.Commands as Rules
use Rattle.rules.specs.Limits.{limits}
use Rattle.rules.specs.Manifest.{one}
use Rattle.rules.specs.Step.{Env, State, event_bytes, step}
use Rattle.rules.specs.Run.{run_seq, run_cmd}
use Rattle.manifest_accessors.specs.declared.arguments.Args.{Args}
use Rattle.manifest_accessors.specs.declared.heads.Opened.{Opened}
use Rattle.run_leaf.specs.declared.Run.{Run}
use Rattle.run_actions.specs.declared.Progress.{Progress}
use Rattle.run_actions.specs.Action.{Ends}
use Rattle.run_slots.specs.Params.{FitAll, SlotsKept}
use Rattle.run_commands.specs.Op.{op_of, IsCode}
use Rattle.run_commands.specs.Machine.{state_at, out_at}
use Rattle.manifest_accessors.specs.Arguments.{component_of, ArgumentRead}
use Rattle.run_leaf.specs.Leaf.{LeafJob, CommandRan}
use Rattle.manifest_accessors.proofs.OneLaws.{one_plain, coerce-after}

run-one : (env : Env) (p : ℕ) (op : Rules.Op) (b : Option Bool) (i : ℕ) (st : State) → run_cmd env (one p op b) i st ≡ step env op (Rules.component op i) p st
unfolding run_seq
run-one env p op b i st = refl

module _ (s : Bytes) (head : Opened) (run : Run) (vendor class answers slots : Bytes) (memory : List ℕ) (trace : Bytes)
    (j : LeafJob s head run vendor class answers slots memory trace) (a : Args) (r : ArgumentRead s head.value head.next j.argument a)
    (i : ℕ) (e : i ≡ component_of head.value a.value run.index) where
  pub leaf-component : i ≡ Rules.component j.argument.op run.index
  leaf-component = e ∙ sym (r.component run.index)

  pub leaf-inside : i < length j.ready.env.ids
  leaf-inside = omega (arith, leaf-component, r.inside run.index (omega (arith, j.count, j.ready.inside)), j.count)

  pub leaf-fit : FitAll s limits.components memory
  leaf-fit k h = record { source = omega (arith, (j.ready.lent.fit k h).source, j.ready.lent.host.few); digest = (j.ready.lent.fit k h).digest }

  pub leaf-code : IsCode s head.value a.value a.params
  leaf-code = rw r.op (one_plain s head.value head.next j.argument).0

  pub leaf_room : event_bytes * run.events + event_bytes ≤ length trace
  leaf_room = omega (arith, j.few, j.ready.lent.room)

  pub leaf-ran : (d : Progress) (slots' : Bytes) (memory' : List ℕ) (trace' : Bytes) → d.events ≡ run.events + 1 → Ends d.end →
      out_at s (length j.ready.env.ids) memory' slots' trace' d
      ≡ step j.ready.env (op_of s head.value a.value a.params) i run.next (state_at s (length j.ready.env.ids) memory slots trace run.events run.used) →
      FitAll s (length j.ready.env.ids) memory' → SlotsKept memory memory' → (c : ℕ) → c ≡ cond (eqb a.coerce 0) run.coerce a.coerce →
      CommandRan s j.ready.env (one run.next j.argument.op j.argument.coerce) j.argument.to run slots memory trace
      (record { next = a.next; index = i; coerce = c; events = d.events; used = d.used; end = d.end }) slots' memory' trace'
  leaf-ran d slots' memory' trace' ev ends goes fit same c ec =
      record {
        goes = goes ∙ (rw (r.op, leaf-component) (sym (run-one _ _ _ _ _ _)));
        fit = fit;
        same = same;
        ends = ends;
        late = λ l. omega arith;
        next = λ l. r.next;
        index = λ l. leaf-component;
        inside = λ l. leaf-inside;
        coerce = rw (ec, ← r.coerce) (coerce-after a.coerce run.coerce);
      }
