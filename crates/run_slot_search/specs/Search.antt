-- The slots of components, and all slots of a run.
use Rattle.std.specs.Prelude.{ℕ, ◌-◌, ◌≤◌, ◌<◌, ◌≡◌, List, [], ◌∷◌, map, Bool, true, cond, Option, Some, None, length, get_or}
use Rattle.std.proofs.lemmas.List.Edits.{sets}
use Rattle.rules.specs.Lent.{Lent, was, left}
use Rattle.rules.specs.Bytes.{Bytes, bytes_at, span_at, member, all_in}
use Rattle.rules.specs.Slots.{Slot, slot_at, numbers, slot_names, slot_of}
use Rattle.run_slots.specs.Slot.{Holds}

-- the slots from number k on, before number n, and their identifiers
unfoldable pub slots_from : Bytes → ℕ → ℕ → List Slot
slots_from b k n = map (slot_at b) (numbers (n - k) k)

unfoldable pub names_from : Bytes → ℕ → ℕ → List Bytes
names_from b k n = map (λ x. x.id) (slots_from b k n)

-- the n identifiers at places of s
abbrev pub names_at : Bytes → List ℕ → ℕ → List Bytes
names_at s ids n = map (λ k. bytes_at s (span_at ids k)) (numbers n 0)

-- the number of the slot with that identifier, if there is one
abbrev pub slot_found : Bytes → Bytes → Option ℕ
slot_found x slots = cond (member x (slot_names slots)) (Some (slot_of x slots)) None

-- the numbers of the identifiers' slots, up to the first identifier that has none
abbrev pub slot_numbers : List Bytes → Bytes → List ℕ
slot_numbers [] slots = []
slot_numbers (x ∷ xs) slots = cond (member x (slot_names slots)) (slot_of x slots ∷ slot_numbers xs slots) []

-- `after` has the number of each identifier's slot, which is there; beyond them it has what `before` has
pub record Found (ids : List Bytes) (slots : Bytes) (before after : List ℕ) : Type 0 where
  pub number : (i : ℕ) → i < length ids → get_or after i 0 ≡ slot_of (get_or ids i []) slots
  pub there : (i : ℕ) → i < length ids → Holds slots (get_or after i 0)
  pub beyond : (i : ℕ) → length ids ≤ i → get_or after i 0 ≡ get_or before i 0

-- r says whether each identifier has a slot; if so the lent memory has the slots' numbers, and else those up to the first that has none
abbrev pub SlotsFound : List Bytes → Bytes → Lent → Bool → Type 0
SlotsFound ids slots memory r =
    (r ≡ all_in ids (slot_names slots))
    × (r ≡ true → Found ids slots (was memory) (left memory))
    × (left memory ≡ sets (was memory) 0 (slot_numbers ids slots))
