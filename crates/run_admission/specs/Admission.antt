-- The tests of a run: what they ask for, and what they leave.
use Rattle.std.specs.Prelude.{ℕ, ◌≤◌, List, ◌≡◌, ◌&&◌, cond, length, Result, Ok, Err}
use Rattle.std.proofs.lemmas.List.Edits.{sets}
use Rattle.rules.specs.declared.answers.Group.{Group}
use Rattle.rules.specs.declared.answers.Refusal.{Refusal}
use Rattle.rules.specs.declared.controller.Controller.{Controller}
use Rattle.rules.specs.Bytes.{Bytes, InBytes}
use Rattle.rules.specs.Got.{Got, refused, got}
use Rattle.rules.specs.Lent.{Lent, was, left}
use Rattle.rules.specs.Limits.{limits}
use Rattle.rules.specs.Slots.{good_slots}
use Rattle.rules.specs.Run.{Input, may_start, number_fits, admit}
use Rattle.run_slot_search.specs.Search.{names_at, slot_numbers, Found}
use Rattle.run_admission.specs.declared.Request.{Request}
use Rattle.run_ending.specs.Answer.{given}

-- the identifiers of the components lie in s
abbrev pub Requested : Bytes → Request → List ℕ → Type 0
Requested s request ids = (request.components ≤ limits.components) × InBytes ids request.components (length s)

-- what the tests leave in the memory: where those before 83 hold, the slots are looked for
abbrev pub assigned_after : Group → ℕ → List Bytes → Input → List ℕ → List ℕ
assigned_after group number ids x before =
    cond (x.verdict && may_start group x.device && number_fits group number x.device && good_slots x.slots)
    (sets before 0 (slot_numbers ids x.slots)) before

-- the rule's answer of the tests; the place of their refusal is 0
abbrev pub tests_of : Got (Unit {0}) → Result (Unit {0}) Refusal
tests_of (refused r p) = Err r
tests_of (got u) = Ok tt

-- r is the rule's refusal, or none; then the memory has the number of each component's slot
abbrev pub Tested : Request → List Bytes → Input → Lent → Result (Unit {0}) Refusal → Type 0
Tested request ids x memory r =
    (r ≡ tests_of (admit request.group request.number ids x)) × (r ≡ Ok tt → Found ids x.slots (was memory) (left memory))
    × (left memory ≡ assigned_after request.group request.number ids x (was memory))

abbrev pub Admits : Bytes → Request → Bytes → Controller → Bytes → Bytes → Bytes → Lent → Result (Unit {0}) Refusal → Type 0
Admits s request ids device slots answers trace memory r =
    Tested request (names_at s ids request.components) (given request.verdict device slots answers trace) memory r
