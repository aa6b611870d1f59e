-- What an action ends with, and what it finds in lent memory.
use Rattle.std.specs.Prelude.{ℕ, ◌-◌, ◌<◌, ◌≡◌, List, get_or}
use Rattle.rules.specs.Answers.{end_of, end_number}
use Rattle.rules.specs.Bytes.{Bytes}
use Rattle.rules.specs.Commands as Rules
use Rattle.rules.specs.Limits.{limits}
use Rattle.rules.specs.Lent.{Lent, was, left}
use Rattle.rules.specs.Step.{Env, State, Out, out, with_slots, with_used, slot_no, params_of, matches, fetches, acts}
use Rattle.run_slots.specs.Slot.{Holds}
use Rattle.run_slots.specs.declared.params.Params.{Params}
use Rattle.run_slots.specs.Params.{meaning}
use Rattle.run_actions.specs.declared.Effect.{Effect}

-- n is the number of an end
abbrev pub Ends : ℕ → Type 0
Ends n = end_number (end_of n) ≡ n

-- a run's memory has the number of a slot for each component
abbrev pub AllHold : List ℕ → Bytes → Type 0
AllHold memory slots = (i : ℕ) → i < limits.components → Holds slots (get_or memory i 0)

-- in st, component i has the slot of number k of `slots`, and the parameters p
pub record At (env : Env) (i : ℕ) (st : State) (slots : Bytes) (k : ℕ) (p : Rules.Params) : Type 0 where
  pub lent : st.slots ≡ slots
  pub number : slot_no env i st ≡ k
  pub params : params_of env i st ≡ p

-- where a source is set, the memory has the number of its slot
abbrev pub SourceAt : Env → State → ℕ → List ℕ → Type 0
SourceAt env st source memory = 0 < source → slot_no env (source - 1) st ≡ get_or memory (source - 1) 0

-- the end of number r is the rule's for an image match, with the parameters p over the bytes s, at the slot of number k
abbrev pub Matches : Bytes → Params → Bytes → ℕ → ℕ → Type 0
Matches s p slots k r = (env : Env) (i : ℕ) (st : State) → At env i st slots k (meaning s p) → out (end_of r) st ≡ matches env i st

-- for a run of the image in that slot
abbrev pub Runs : Bytes → ℕ → ℕ → Type 0
Runs slots k r = (env : Env) (i : ℕ) (st : State) → st.slots ≡ slots → slot_no env i st ≡ k → out (end_of r) st ≡ acts env Rules.run i st

-- the end and the slots that are left are the rule's, for a copy or a swap from the source's slot
abbrev pub Fills : (Env → ℕ → State → Out) → Params → Bytes → Lent → ℕ → ℕ → Type 0
Fills does p memory slots k r =
    (s : Bytes) (env : Env) (i : ℕ) (st : State) → At env i st (was slots) k (meaning s p) → SourceAt env st p.source memory →
    out (end_of r) (with_slots st (left slots)) ≡ does env i st

-- and, with the answers used, for a fetch
abbrev pub Fetches : Params → Bytes → ℕ → Lent → ℕ → Effect → Type 0
Fetches p answers used slots k r =
    (s : Bytes) (env : Env) (i : ℕ) (st : State) → At env i st (was slots) k (meaning s p) → env.answers ≡ answers → st.used ≡ used →
    out (end_of r.end) (with_used (with_slots st (left slots)) r.used) ≡ fetches env i st
