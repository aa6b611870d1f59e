-- What every run keeps: the lengths, the identifiers of slots, and that there are no more events than commands.
use Prim.Native.Nat.{ℕ, ◌+◌, ◌≤◌}
use mathlib.Core.Path.{◌≡◌, sym, ap, ◌∙◌}
use mathlib.Core.Bool.{Bool}
use mathlib.Core.List.{List}
use native.Mathlib.Omega.{arith}
use lib.ListN.{length}
use Rattle.rules.specs.Bytes.{Bytes}
use Rattle.rules.specs.Commands.{Op}
use Rattle.rules.specs.Manifest.{Seq, Cmd, count, count_cmd}
use Rattle.rules.specs.Slots.{slot_names, slot_of}
use Rattle.rules.specs.Step.{Env, State, Out, step}
use Rattle.rules.specs.Run.{run_seq, run_cmd}
use Rattle.rules_theorems.proofs.Effects.{named_by, Changes, Reaches, follow_law, seq_reaches, cmd_reaches, step_reaches}
use Rattle.rules_theorems.proofs.SlotLaws.{names_same}
use Rattle.run_slots.specs.Params.{FitAll, SlotsKept}
use Rattle.run_commands.specs.Machine.{Lends}

-- from st to st' with at most n events
pub record Moves (st st' : State) (n : ℕ) : Type 0 where
  pub events : st'.events ≤ st.events + n
  pub trace : length st'.trace ≡ length st.trace
  pub slots : length st'.slots ≡ length st.slots
  pub names : slot_names st'.slots ≡ slot_names st.slots

moves : (env : Env) (n : ℕ) (st : State) (o : Out) → Reaches env n st o → Moves st o.state n
moves env n st o h =
    let c : Changes st o.state (named_by env h.did st) (length h.did) = rw h.goes at (follow_law env h.did st) in
    record {
      events = omega (arith, c.events, h.few);
      trace = c.trace-length;
      slots = c.slots_length;
      names = names_same o.state.slots st.slots c.slots_length c.fixed;
    }

pub moves-seq : (env : Env) (a : Seq) (own : Bool) (i : ℕ) (c : Bool) (st : State) → Moves st (run_seq env a own i c st).state (count a)
moves-seq env a own i c st = moves env (count a) st _ (seq_reaches env a own i c st)

pub moves-cmd : (env : Env) (x : Cmd) (i : ℕ) (st : State) → Moves st (run_cmd env x i st).state (count_cmd x)
moves-cmd env x i st = moves env (count_cmd x) st _ (cmd_reaches env x i st)

pub moves-step : (env : Env) (op : Op) (i place : ℕ) (st : State) → Moves st (step env op i place st).state 1
moves-step env op i place st = moves env 1 st _ (step_reaches env op i place st)

module _ (env : Env) (s vendor class answers slots : Bytes) (memory : List ℕ) (trace : Bytes) (k : Lends env s vendor class answers slots memory trace) where
  -- what was lent, after something that the rule gives from it
  pub lent-after : (st st' : State) (n : ℕ) → st.slots ≡ slots → st.trace ≡ trace → Moves st st' n →
      (slots' : Bytes) (memory' : List ℕ) (trace' : Bytes) → slots' ≡ st'.slots → trace' ≡ st'.trace → FitAll s (length env.ids) memory' → SlotsKept memory memory' →
      Lends env s vendor class answers slots' memory' trace'
  unfolding slot_of
  lent-after st st' n qs qt m slots' memory' trace' es et fit kept =
      let ls : length slots' ≡ length slots = ap length es ∙ m.slots ∙ ap length qs in
      let lt : length trace' ≡ length trace = ap length et ∙ m.trace ∙ ap length qt in
      let ns : slot_names slots' ≡ slot_names slots = ap slot_names es ∙ m.names ∙ ap slot_names qs in
      record {
        host =
            record {
              vendors = k.host.vendors;
              classes = k.host.classes;
              replies = k.host.replies;
              few = k.host.few;
              numbers = λ i h. rw ns (k.host.numbers i h) ∙ sym (kept i (omega (arith, k.host.few)));
            };
        hold = λ i h. omega (arith, k.hold i h, kept i h, ls);
        fit = fit;
        answered = k.answered;
        room = omega (arith, k.room, lt);
      }
