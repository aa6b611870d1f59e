-- The environment and the state of a run, as what is lent to a command.
use Prim.Native.Nat.{ℕ, ◌+◌, ◌-◌, ◌*◌, ◌≤◌, ◌<◌}
use mathlib.Core.Path.{◌≡◌, refl, sym, ◌∙◌}
use mathlib.Core.List.{List}
use native.Mathlib.Omega.{arith}
use lib.ListN.{length, get_or, set}
use borrow.Author.Tests.{ne_eqb}
use Rattle.rules.specs.Answers.{end_of, result_number}
use Rattle.rules.specs.Bytes.{Bytes, put}
use Rattle.rules.specs.Limits.{memory_numbers}
use Rattle.rules.specs.Commands as Rules
use Rattle.rules.specs.Commands.{Op, swap, code, vendor_code, class_code, image_match_code, set_index_code, abort_code, set_parameters_code, override_code, fetch_code, copy_code, run_code}
use Rattle.rules.specs.Step.{Env, State, Out, out, event_bytes, event, with_event, slot_no, params_of, acts, step}
use Rattle.run_slots.specs.declared.params.Params.{Params}
use Rattle.run_slots.specs.Params.{params_at, stored, meaning, over_params, params_in, FitAll}
use Rattle.run_actions.specs.Action.{At, SourceAt}
use Rattle.run_actions.specs.declared.Effect.{Effect}
use Rattle.run_commands.specs.Op.{op_of}
use Rattle.run_commands.specs.Machine.{Host, state_at, out_at}
use Rattle.run_slots.proofs.ParamsLaws.{meaning-over, params-at, params-stored}

module _ (s : Bytes) (env : Env) (vendor class answers : Bytes) (memory : List ℕ) (slots trace : Bytes) (i events used : ℕ)
    (h : Host env vendor class answers memory slots) (l : i < length env.ids) where
  abbrev n : ℕ
  n = length env.ids

  abbrev st : State
  st = state_at s n memory slots trace events used

  number : (j : ℕ) → j < n → slot_no env j st ≡ get_or memory j 0
  unfolding slot_no
  number j m = h.numbers j m

  module _ (p : Params) (e : p ≡ params_at memory i) where
    pub is_at : (k : ℕ) → k ≡ get_or memory i 0 → At env i st slots k (meaning s p)
    is_at k q = record { lent = refl; number = number i l ∙ sym q; params = rw e (params-at s memory n i l) }

    pub source-at : FitAll s n memory → SourceAt env st p.source memory
    source-at f z =
        let m : p.source ≤ n = rw e (f i (omega (arith, h.few))).source in
        number (p.source - 1) (omega arith)

    module _ (w : length memory ≡ memory_numbers) (given q : Params) where
      pub set-params : q ≡ over_params p given →
          params_in s (stored memory i q) n ≡ set (params_in s memory n) i (Rules.over (params_of env i st) (meaning s given))
      set-params x =
          params-stored s memory n i q w h.few l ∙ rw (x, meaning-over s p given, e, params-at s memory n i l)

      pub override_params_lem : q ≡ over_params given p →
          params_in s (stored memory i q) n ≡ set (params_in s memory n) i (Rules.over (meaning s given) (params_of env i st))
      override_params_lem x =
          params-stored s memory n i q w h.few l ∙ rw (x, meaning-over s given p, e, params-at s memory n i l)

step_is : (env : Env) (op : Op) (i place : ℕ) (st : State) (o : Out) → o ≡ acts env op i st →
    step env op i place st ≡ out o.end (with_event o.state (event (code op) i place (result_number o.end)))
unfolding step
step_is env op i place st o e = rw e

-- what a command did, with its event
pub with_event_lem : (s : Bytes) (env : Env) (n : ℕ) (memory : List ℕ) (slots trace trace' : Bytes) (op : Op) (c i place events : ℕ) (st : State) (d : Effect) →
    out (end_of d.end) (state_at s n memory slots trace events d.used) ≡ acts env op i st → code op ≡ c →
    trace' ≡ put trace (event_bytes * events) (event c i place (result_number (end_of d.end))) →
    out_at s n memory slots trace' (record { events = events + 1; used = d.used; end = d.end }) ≡ step env op i place st
with_event_lem s env n memory slots trace trace' op c i place events st d e q t = rw (step_is env op i place st _ e, t, q)

-- a code that is none of the others is that of a swap
pub swap-left : (s : Bytes) (c v : ℕ) (p : Params) → (c ≡ vendor_code → ⊥) → (c ≡ class_code → ⊥) → (c ≡ image_match_code → ⊥) → (c ≡ set_index_code → ⊥) → (c ≡ abort_code → ⊥) →
    (c ≡ set_parameters_code → ⊥) → (c ≡ override_code → ⊥) → (c ≡ fetch_code → ⊥) → (c ≡ copy_code → ⊥) → (c ≡ run_code → ⊥) → op_of s c v p ≡ swap
unfolding op_of
swap-left s c v p n₁ n₂ n₃ n₁₂ n₁₄ n₁₉ n₂₀ n₂₁ n₂₂ n₂₃ =
    rw (
      ne_eqb c vendor_code n₁,
      ne_eqb c class_code n₂,
      ne_eqb c image_match_code n₃,
      ne_eqb c set_index_code n₁₂,
      ne_eqb c abort_code n₁₄,
      ne_eqb c set_parameters_code n₁₉,
      ne_eqb c override_code n₂₀,
      ne_eqb c fetch_code n₂₁,
      ne_eqb c copy_code n₂₂,
      ne_eqb c run_code n₂₃,
    )
