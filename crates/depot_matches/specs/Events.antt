-- The events of a trace, read again.
use Rattle.std.specs.Prelude.{ℕ, zero, suc, ◌+◌, ◌*◌, Bool, false, cond, eqb, get_or}
use Rattle.rules.specs.declared.answers.End.TheVariants.{Finished}
use Rattle.rules.specs.Answers.{result_number}
use Rattle.rules.specs.Bytes.{Bytes, two_at}
use Rattle.rules.specs.Commands.{fetch_code}
use Rattle.rules.specs.Step.{event_bytes, event_code, event_component, event_place, event_result}
use Rattle.depot_matches.specs.declared.events.Event.{Event}

-- the event of number i
unfoldable pub event_at : Bytes → ℕ → Event
event_at t i =
    record {
      code = get_or t (event_bytes * i + event_code) 0;
      component = get_or t (event_bytes * i + event_component) 0;
      place = two_at t (event_bytes * i + event_place);
      result = get_or t (event_bytes * i + event_result) 0;
    }

-- a command of that code, with that result
abbrev pub is_of : ℕ → ℕ → Event → Bool
is_of code result e = cond (eqb e.code code) (eqb e.result result) false

-- a fetch that was done
abbrev pub is_fetch : Event → Bool
is_fetch e = is_of fetch_code (result_number Finished) e

-- how many answers of the host went into a slot
abbrev pub fetches_in : Event → ℕ
fetches_in e = cond (is_fetch e) 1 0

-- the same before event i: a fetch takes the next answer, and one that fails ends the run
unfoldable pub fetches_before : Bytes → ℕ → ℕ
fetches_before t zero = 0
fetches_before t (suc i) = fetches_before t i + fetches_in (event_at t i)
