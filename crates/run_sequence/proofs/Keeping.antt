-- What a run keeps, as the cycle carries it.
use Prim.Native.Nat.{ℕ, ◌+◌, ◌≤◌, ◌<◌}
use mathlib.Core.Path.{◌≡◌, refl, ap}
use mathlib.Core.List.{List}
use native.Mathlib.Omega.{arith}
use lib.ListN.{length}
use Rattle.rules.specs.Bytes.{Bytes}
use Rattle.rules.specs.Step.{Env, Out}
use Rattle.run_slots.specs.Params.{FitAll, SlotsKept}
use Rattle.run_actions.specs.declared.Progress.{Progress}
use Rattle.run_commands.specs.Machine.{state_at, out_at, Lends}
use Rattle.run_commands.proofs.LentLaws.{Moves, lent-after}
use Rattle.run_leaf.specs.Leaf.{Ready}

-- Ready at a given environment
pub record Kept (env : Env) (s vendor class answers slots : Bytes) (memory : List ℕ) (trace : Bytes) (index : ℕ) : Type 0 where
  pub lent : Lends env s vendor class answers slots memory trace
  pub inside : index < length env.ids

module _ (s vendor class answers : Bytes) where
  abbrev pub ready_of : (env : Env) (slots : Bytes) (memory : List ℕ) (trace : Bytes) (index : ℕ) → Kept env s vendor class answers slots memory trace index →
      Ready s vendor class answers slots memory trace index
  ready_of env slots memory trace index k = record { env = env; lent = k.lent; inside = k.inside }

  abbrev pub kept_of : (slots : Bytes) (memory : List ℕ) (trace : Bytes) (index : ℕ) (r : Ready s vendor class answers slots memory trace index) →
      Kept r.env s vendor class answers slots memory trace index
  kept_of slots memory trace index r = record { lent = r.lent; inside = r.inside }

  -- after a run of something, at another index
  pub kept-after : (env : Env) (slots : Bytes) (memory : List ℕ) (trace : Bytes) (index : ℕ) → Kept env s vendor class answers slots memory trace index →
      (events used : ℕ) (o : Out) (n : ℕ) → Moves (state_at s (length env.ids) memory slots trace events used) o.state n →
      (r : Progress) (slots' : Bytes) (memory' : List ℕ) (trace' : Bytes) → out_at s (length env.ids) memory' slots' trace' r ≡ o → FitAll s (length env.ids) memory' → SlotsKept memory memory' →
      (index' : ℕ) → index' < length env.ids → Kept env s vendor class answers slots' memory' trace' index'
  kept-after env slots memory trace index k events used o n m r slots' memory' trace' e fit same index' inside =
      record {
        lent =
            lent-after env s vendor class answers slots memory trace k.lent (state_at s (length env.ids) memory slots trace events used) o.state n refl refl m slots' memory' trace'
            (ap (λ (x : Out). x.state.slots) e) (ap (λ (x : Out). x.state.trace) e) fit same;
        inside = inside;
      }

  pub events-after : (n : ℕ) (memory : List ℕ) (slots trace : Bytes) (events used : ℕ) (o : Out) (k m : ℕ) → Moves (state_at s n memory slots trace events used) o.state k → events ≤ m →
      (r : Progress) (slots' : Bytes) (memory' : List ℕ) (trace' : Bytes) → out_at s n memory' slots' trace' r ≡ o → r.events ≤ m + k
  events-after n memory slots trace events used o k m v few r slots' memory' trace' e =
      let es : r.events ≡ o.state.events = ap (λ (x : Out). x.state.events) e in
      omega (arith, v.events)
