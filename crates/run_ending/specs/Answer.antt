-- What a run hands back, and what it leaves in lent memory.
use Rattle.std.specs.Prelude.{ℕ, ◌*◌, ◌≤◌, ◌<◌, List, [], ◌∷◌, ◌≡◌, Bool, cond, eqb, length, Result, Ok, Err}
use Rattle.rules.specs.declared.answers.Fault.{Fault}
use Rattle.rules.specs.declared.controller.Controller.{Controller}
use Rattle.rules.specs.Answers.{refusal_number, end_number, end_of}
use Rattle.rules.specs.Bytes.{Bytes}
use Rattle.rules.specs.Lent.{Lent, was, left}
use Rattle.rules.specs.Got.{Got, refused, got}
use Rattle.rules.specs.Step.{event_bytes}
use Rattle.rules.specs.Run.{Input, Ran, last_place}
use Rattle.run_ending.specs.declared.Ending.{Ending}
use Rattle.run_ending.specs.declared.Outcome.{Outcome}

-- what a run is given
abbrev pub input_of : Bool → Controller → Bytes → Bytes → Bytes → Input
input_of verdict device slots answers trace =
    record { verdict = verdict; device = device; slots = slots; answers = answers; trace = trace }

-- the same of lent memory
abbrev pub given : Bool → Controller → Bytes → Bytes → Bytes → Input
given verdict device slots answers trace = input_of verdict device slots answers trace

-- 'A refusal returns its number and place, and nothing lent is altered'
abbrev pub outcome_of : Controller → Got Ran → Outcome
outcome_of device (refused r p) = record { answer = Err (record { refusal = r; at = p }); number = device.number }
outcome_of device (got r) =
    record { answer = Ok (record { end = r.end; place = r.place; events = r.events; used = r.used }); number = r.number }

abbrev pub slots_after : Bytes → Got Ran → Bytes
slots_after slots (refused r p) = slots
slots_after slots (got r) = r.slots

abbrev pub trace_after : Bytes → Got Ran → Bytes
trace_after trace (refused r p) = trace
trace_after trace (got r) = r.trace

-- the numbers that document 01 gives an answer: of a refusal its number and place; of a run that was not refused those of its end, the
-- place, the events, and the answers used
abbrev pub answer_numbers : Result Ending Fault → List ℕ
answer_numbers (Err f) = refusal_number f.refusal ∷ f.at ∷ []
answer_numbers (Ok e) = end_number e.end ∷ e.place ∷ e.events ∷ e.used ∷ []

-- and before them the device's number
abbrev pub outcome_numbers : Outcome → List ℕ
outcome_numbers o = o.number ∷ answer_numbers o.answer

-- the same of the rule's answer
abbrev pub ran_numbers : Controller → Got Ran → List ℕ
ran_numbers device (refused r p) = device.number ∷ refusal_number r ∷ p ∷ []
ran_numbers device (got r) = r.number ∷ end_number r.end ∷ r.place ∷ r.events ∷ r.used ∷ []

-- r, and what is in the lent slots and trace after the run, are what the rule's answer g says; so are the numbers of r
abbrev pub Settles : Controller → Got Ran → Outcome → Bytes → Bytes → Bytes → Bytes → Type 0
Settles device g r slots slots' trace trace' = (r ≡ outcome_of device g) × (slots' ≡ slots_after slots g) × (trace' ≡ trace_after trace g) × (outcome_numbers r ≡ ran_numbers device g)

-- the same of lent slots and a lent trace
abbrev pub Settled : Controller → Got Ran → Lent → Lent → Outcome → Type 0
Settled device g slots trace r = Settles device g r (was slots) (left slots) (was trace) (left trace)

-- the trace holds that many events, and one at least unless the run finished
abbrev pub LastEvent : ℕ → ℕ → Bytes → Type 0
LastEvent end events trace = (0 < end → 0 < events) × (event_bytes * events ≤ length trace)

-- how a run ended, by the number of its end and its trace
abbrev pub ending_of : ℕ → ℕ → ℕ → Bytes → Ending
ending_of end events used trace =
    record {
      end = end_of end;
      place = cond (eqb end 0) 0 (last_place events trace);
      events = events;
      used = used;
    }
