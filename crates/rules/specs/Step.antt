-- What one command does: its result, the slots and parameters that it changes, and its event (01, How a run goes).
use Rattle.std.specs.Prelude.{◌+◌, ◌-◌, ◌*◌, ◌∷◌, ◌++◌, ◌&&◌}
use Rattle.rules.specs.Base.{ℕ, List, [], Bool, true, false, Option, some, none, ltb, leb, eqb, length, get_or, set, Controller, Failure}
use Rattle.rules.specs.Base.{ParameterUnset, Aborted, NoAnswer, BadStatus, TooLarge, NothingToCopy, NothingToRun, End, Finished, ConditionFailed, Started, Failed}
use Rattle.rules.specs.Answers.{result_number}
use Rattle.rules.specs.Bytes.{Bytes, part, num, be2, same, put}
use Rattle.rules.specs.Commands.{Op, vendor, class, image_match, set_index, abort, set_params, override_params, fetch, copy, run, swap, Params, unset, over, code}
use Rattle.rules.specs.Slots.{Slot, size_from, answer_bytes, slot_at, image_at, put_image, slot_of}

-- what does not change in a run: the 'device (vendor, class, sequence number, event-open flag)', the components' identifiers, the answers
pub record Env : Type 0 where
  pub device : Controller
  pub ids : List Bytes
  pub answers : Bytes

-- what does: each component's parameters, the slots, the trace buffer, the events written to it, the answers used
pub record State : Type 0 where
  pub params : List Params
  pub slots : Bytes
  pub trace : Bytes
  pub events : ℕ
  pub used : ℕ

abbrev pub state : List Params → Bytes → Bytes → ℕ → ℕ → State
state ps slots trace events used = record { params = ps; slots = slots; trace = trace; events = events; used = used }

abbrev pub with_params : State → List Params → State
with_params st ps = state ps st.slots st.trace st.events st.used

abbrev pub with_slots : State → Bytes → State
with_slots st b = state st.params b st.trace st.events st.used

abbrev pub with_used : State → ℕ → State
with_used st n = state st.params st.slots st.trace st.events n

-- an event: '`53 54`, code, component (for 12 the new one), place of the code in 2 bytes, result (0, 1 condition failed, or failure
-- number), 0'
abbrev pub event_bytes : ℕ
event_bytes = 8

-- where in it its parts are
abbrev pub event_code : ℕ
event_code = 2

abbrev pub event_component : ℕ
event_component = 3

abbrev pub event_place : ℕ
event_place = 4

abbrev pub event_result : ℕ
event_result = 6

abbrev pub event : ℕ → ℕ → ℕ → ℕ → Bytes
event code i place result = 0x53 ∷ 0x54 ∷ code ∷ i ∷ be2 place ++ (result ∷ 0 ∷ [])

-- the event b after those that are there
abbrev pub with_event : State → Bytes → State
with_event st b = state st.params st.slots (put st.trace (event_bytes * st.events) b) (st.events + 1) st.used

-- how something ended, and the state that it left
pub record Out : Type 0 where
  pub end : End
  pub state : State

abbrev pub out : End → State → Out
out e st = record { end = e; state = st }

-- that failure unless the test holds
unfoldable pub unless : Bool → Failure → State → Out → Out
unless true f st o = o
unless false f st o = out (Failed f) st

-- 'unset, 32'
unfoldable pub given : {A : Type 0} → Option A → State → (A → Out) → Out
given none st k = out (Failed ParameterUnset) st
given (some a) st k = k a

-- the result of a condition
unfoldable pub passes : Bool → State → Out
passes true st = out Finished st
passes false st = out ConditionFailed st

-- 'its size too where size is set'
abbrev pub size_is : Option ℕ → ℕ → Bool
size_is none n = true
size_is (some m) n = eqb m n

module _ (env : Env) where
  -- the number of component i's slot, the slot, its image, and the image x in it
  unfoldable pub slot_no : ℕ → State → ℕ
  slot_no i st = slot_of (get_or env.ids i []) st.slots

  unfoldable pub slot : ℕ → State → Slot
  slot i st = slot_at st.slots (slot_no i st)

  unfoldable pub image : ℕ → State → Bytes
  image i st = image_at st.slots (slot_no i st)

  unfoldable pub filled : ℕ → Bytes → State → State
  filled i x st = with_slots st (put_image st.slots (slot_no i st) x)

  abbrev pub params_of : ℕ → State → Params
  params_of i st = get_or st.params i unset

  -- 3: 'digest parameter unset, failure 32; else it passes if the slot is present and its digest equals the parameter, and its size too
  -- where size is set'
  unfoldable pub matches : ℕ → State → Out
  matches i st =
      given (params_of i st).digest st λ d.
      passes ((slot i st).present && same (slot i st).digest d && size_is (params_of i st).size (slot i st).size) st

  -- 21: 'URI unset, 32; no answer left, 34; else it takes the next answer: bad status, 35; size above capacity, 36; else the slot is
  -- present with the answer's size and digest'
  unfoldable pub fetches : ℕ → State → Out
  fetches i st =
      let a = part env.answers (answer_bytes * st.used) answer_bytes in
      let taken = with_used st (st.used + 1) in
      given (params_of i st).uri st λ u.
      unless (ltb (answer_bytes * st.used) (length env.answers)) NoAnswer st
      (unless (eqb (get_or a 0 0) 0) BadStatus taken
      (unless (leb (num (part a size_from 4)) (slot i st).capacity) TooLarge taken
      (out Finished (filled i (1 ∷ part a size_from (answer_bytes - size_from)) taken))))

  -- 22: 'source unset, 32; source slot absent, 37; larger than capacity, 36; else size and digest are copied and the slot is present'
  unfoldable pub copies : ℕ → State → Out
  copies i st =
      given (params_of i st).source st λ j.
      unless (slot j st).present NothingToCopy st
      (unless (leb (slot j st).size (slot i st).capacity) TooLarge st
      (out Finished (filled i (image j st) st)))

  -- 32: 'likewise, but both must be present (37) and each must fit the other (36). Self copy or swap of a present slot changes nothing'
  unfoldable pub swaps : ℕ → State → Out
  swaps i st =
      given (params_of i st).source st λ j.
      unless ((slot i st).present && (slot j st).present) NothingToCopy st
      (unless (leb (slot j st).size (slot i st).capacity && leb (slot i st).size (slot j st).capacity) TooLarge st
      (out Finished (filled j (image i st) (filled i (image j st) st))))

  -- what a command does at component i, its event aside: '1 and 2 pass on equal bytes', '14: failure 33', '19 skips a parameter already
  -- set; 20 replaces it', '23: slot absent, 38; else the whole run ends, started'
  unfoldable pub acts : Op → ℕ → State → Out
  acts (vendor b) i st = passes (same b env.device.vendor) st
  acts (class b) i st = passes (same b env.device.class) st
  acts image_match i st = matches i st
  acts (set_index k) i st = out Finished st
  acts abort i st = out (Failed Aborted) st
  acts (set_params p) i st = out Finished (with_params st (set st.params i (over (params_of i st) p)))
  acts (override_params p) i st = out Finished (with_params st (set st.params i (over p (params_of i st))))
  acts fetch i st = fetches i st
  acts copy i st = copies i st
  acts run i st = unless (slot i st).present NothingToRun st (out Started st)
  acts swap i st = swaps i st

  -- the command with its code at `place`, and its event: 'Each command but 15 and 30 writes one event'
  unfoldable pub step : Op → ℕ → ℕ → State → Out
  step op i place st =
      let o = acts op i st in
      out o.end (with_event o.state (event (code op) i place (result_number o.end)))
