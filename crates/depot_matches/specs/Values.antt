-- The parameters that components have before an event, from the records of the program.
use Rattle.std.specs.Prelude.{ℕ, zero, suc, ◌-◌, Bool, false, cond, [], eqb, ltb, length, get_or, drop}
use Rattle.rules.specs.Bytes.{Bytes, part, two_at}
use Rattle.rules.specs.Commands.{set_parameters_code, override_code}
use Rattle.rules.specs.Limits.{limits}
use Rattle.rules.specs.ProgramFormat.{code_from, component_from, place_from, argument_from, entry_length_from, entry_size, start_size, components_from, records_from}
use Rattle.rules.specs.ProgramFormat.{record_size as ProgramFormat·recordSize}
use Rattle.depot_argument_lines.specs.Arguments.{parameter_size}
use Rattle.depot_record_lines.specs.Lines.{record_size}
use Rattle.depot_listing.specs.Listing.{after_components}
use Rattle.depot_matches.specs.declared.events.Event.{Event}
use Rattle.depot_matches.specs.Events.{event_at}

-- of k items one after the other, what the first has that passes the test; nothing if none does
unfoldable pub first_in : (Bytes → ℕ) → (Bytes → Bool) → (Bytes → Bytes) → ℕ → Bytes → Bytes
first_in size test has zero s = []
first_in size test has (suc k) s = cond (eqb (size s) 0) [] (cond (test s) (has s) (first_in size test has k (drop (size s) s)))

-- the record at the start of s is that of the event, by code, component and place
unfoldable pub record_is : Event → Bytes → Bool
record_is e s =
    cond (eqb (get_or s code_from 0) e.code) (cond (eqb (get_or s component_from 0) e.component) (eqb (two_at s place_from) e.place) false) false

unfoldable pub argument_in : Bytes → Bytes
argument_in s = part s ProgramFormat·recordSize (two_at s argument_from)

-- the argument of the event's record; where common stands again, its records have the same arguments again
unfoldable pub argument_of : Bytes → Event → Bytes
argument_of p e =
    cond (ltb (length p) start_size) []
    (first_in record_size (record_is e) argument_in (two_at p records_from) (after_components (get_or p components_from 0) (drop start_size p)))

-- 'key 1, length 1, value'
abbrev pub key_is : ℕ → Bytes → Bool
key_is key s = eqb (get_or s 0 0) key

unfoldable pub entry_in : Bytes → Bytes
entry_in s = part s entry_size (get_or s entry_length_from 0)

-- the value of a key in an argument; there is a key for each parameter but coerce
unfoldable pub value_in : ℕ → Bytes → Bytes
value_in key s = first_in parameter_size (key_is key) entry_in (limits.parameters - 1) s

-- the first where it is set, else the second
abbrev pub first_set : Bytes → Bytes → Bytes
first_set a b = cond (eqb (length a) 0) b a

-- component c's value of a key after an event, before which it was v: 19 sets what is unset, 20 replaces
unfoldable pub value_after : Bytes → Event → ℕ → ℕ → Bytes → Bytes
value_after p e key c v =
    cond (eqb e.component c)
    (cond (eqb e.code set_parameters_code) (first_set v (value_in key (argument_of p e)))
    (cond (eqb e.code override_code) (first_set (value_in key (argument_of p e)) v) v)) v

-- and before event i of the trace t, nothing where it is unset
unfoldable pub value_before : Bytes → Bytes → ℕ → ℕ → ℕ → Bytes
value_before p t key c zero = []
value_before p t key c (suc i) = value_after p (event_at t i) key c (value_before p t key c i)
