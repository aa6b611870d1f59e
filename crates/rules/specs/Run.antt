-- The run of a checked manifest, what every run tests first, and what it gives back (01, How a run goes; Refusal numbers).
use Rattle.std.specs.Prelude.{◌-◌, ◌*◌, ◌%◌, ◌∷◌, ◌++◌, ◌&&◌}
use Rattle.rules.specs.Base.{ℕ, List, [], Bool, true, false, cond, not, option_get_or, ltb, leb, eqb, length, replicate, Controller, Group, Install, Boot}
use Rattle.rules.specs.Base.{NotVerified, EventOpen, BadSlots, NoSlot, BadAnswers, ShortTrace, End, Finished, ConditionFailed, Started, Failed, WrongNumber}
use Rattle.rules.specs.Answers.{end_number}
use Rattle.rules.specs.Limits.{limits}
use Rattle.rules.specs.Bytes.{Bytes, num, part, all_in}
use Rattle.rules.specs.Got.{Got, got, need, ◌>>=◌}
use Rattle.rules.specs.Commands.{COMMON, PAYLOAD_FETCH, INSTALL, VALIDATE, LOAD, RUN, unset, component, among}
use Rattle.rules.specs.Manifest.{Seq, end, then, Cmd, one, sub, try, Alts, last, or, Section, Manifest, names}
use Rattle.rules.specs.Check.{check}
use Rattle.rules.specs.Slots.{answer_bytes, good_slots, slot_names}
use Rattle.rules.specs.Step.{Env, State, state, Out, out, step, event_bytes, event_place}

-- the index and coerce after a command of the same sequence: 'the caller's index comes back afterwards'; 'Coerce belongs to the sequence it
-- is written in, starts false, and both write it' (19 and 20)
abbrev pub index_after : Cmd → ℕ → ℕ
index_after (one p op b) i = component op i
index_after (sub s) i = i
index_after (try a) i = i

abbrev pub coerce_after : Cmd → Bool → Bool
coerce_after (one p op b) c = option_get_or b c
coerce_after (sub s) c = c
coerce_after (try a) c = c

-- go on with f where it went well, and with g where a condition failed; anything else ends the run. Both go on from the state that was
-- left: 'Parameters, slots and events from a failed sequence stay'
unfoldable pub on : End → State → (State → Out) → (State → Out) → Out
on Finished st f g = f st
on ConditionFailed st f g = g st
on Started st f g = out Started st
on (Failed n) st f g = out (Failed n) st

abbrev pub next : Out → (State → Out) → (State → Out) → Out
next o f g = on o.end o.state f g

module _ (env : Env) where
  -- a sequence from index i, with its coerce c. `coercible`: code 30 runs it, so that 'a condition failure inside, while that sequence's
  -- coerce is true, is a success; otherwise the result is the inner one'
  unfoldable mutual
    pub run_seq : Seq → Bool → ℕ → Bool → State → Out
    run_seq end coercible i c st = out Finished st
    run_seq (then x xs) coercible i c st =
        next (run_cmd x i st) (λ st'. run_seq xs coercible (index_after x i) (coerce_after x c) st')
        (λ st'. out (cond (coercible && c) Finished ConditionFailed) st')

    -- 'A nested sequence starts with its caller's index', and coerce starts false
    pub run_cmd : Cmd → ℕ → State → Out
    run_cmd (one p op b) i st = step env op (component op i) p st
    run_cmd (sub s) i st = run_seq s true i false st
    run_cmd (try a) i st = run_alts a i st

    -- 15: 'alternatives in turn until one succeeds. Only condition failures are caught. All failing is a condition failure.'
    pub run_alts : Alts → ℕ → State → Out
    run_alts (last s) i st = run_seq s false i false st
    run_alts (or s a) i st = next (run_seq s false i false st) (λ st'. out Finished st') (λ st'. run_alts a i st')

  -- sequences one after the other. 'Index is 0 at the start of common and of each section'
  unfoldable pub run_all : List Seq → State → Out
  run_all [] st = out Finished st
  run_all (s ∷ ss) st = next (run_seq s false 0 false st) (λ st'. run_all ss st') (λ st'. out ConditionFailed st')

-- 'Install does common, 8, 9; boot does common, 10, 11, 12; .. absent ones skipped': the sections of a group, beside common
abbrev pub sections_of : Group → List ℕ
sections_of Install = PAYLOAD_FETCH ∷ INSTALL ∷ []
sections_of Boot = VALIDATE ∷ LOAD ∷ RUN ∷ []

abbrev pub chosen : List ℕ → List Section → List Seq
chosen ks [] = []
chosen ks (x ∷ xs) = cond (among x.key ks) (x.seq ∷ chosen ks xs) (chosen ks xs)

-- each section, with common before it
abbrev pub each : {A : Type 0} → List A → List A → List A
each common [] = []
each common (s ∷ ss) = common ++ (s ∷ each common ss)

-- 02, T-01: 'common runs before each section present in the group, or once where the group has none'
abbrev pub with_common : {A : Type 0} → List A → List A → List A
with_common common [] = common
with_common common (s ∷ ss) = each common (s ∷ ss)

-- the sequences that a group does
abbrev pub plan_of : Group → Manifest → List Seq
plan_of g m = with_common (chosen (COMMON ∷ []) m.sections) (chosen (sections_of g) m.sections)

-- 'Input: signature verdict; device .. 1 to 8 slots .. host answers of 37 bytes .. trace buffer'
pub record Input : Type 0 where
  pub verdict : Bool
  pub device : Controller
  pub slots : Bytes
  pub answers : Bytes
  pub trace : Bytes

-- what it gives back: the end, 'with the last event's place (0 if finished), events and answers used'; slots, device's number, trace buffer
pub record Ran : Type 0 where
  pub end : End
  pub place : ℕ
  pub events : ℕ
  pub used : ℕ
  pub slots : Bytes
  pub number : ℕ
  pub trace : Bytes

-- 81: 'install while an event is open'. 82: 'install: number not above the device's; boot: not equal'
abbrev pub may_start : Group → Controller → Bool
may_start Install d = not d.event
may_start Boot d = true

abbrev pub number_fits : Group → ℕ → Controller → Bool
number_fits Install n d = ltb d.number n
number_fits Boot n d = eqb n d.number

-- the tests of a run: '80 to 97 have place 0 and are tested in table order after check (or after 97)', that is 80, 81, 82, 85, 83, 86, 84
unfoldable pub admit : Group → ℕ → List Bytes → Input → Got (Unit {0})
admit group number ids x = do
  _ ← need x.verdict NotVerified 0
  _ ← need (may_start group x.device) EventOpen 0
  _ ← need (number_fits group number x.device) WrongNumber 0
  _ ← need (good_slots x.slots) BadSlots 0
  _ ← need (all_in ids (slot_names x.slots)) NoSlot 0
  _ ← need (eqb (length x.answers % answer_bytes) 0) BadAnswers 0
  need (leb limits.trace (length x.trace)) ShortTrace 0

abbrev pub is_finished : End → Bool
is_finished e = eqb (end_number e) 0

-- the place in the last of that many events of a trace
abbrev pub last_place : ℕ → Bytes → ℕ
last_place events trace = num (part trace (event_bytes * events - (event_bytes - event_place)) 2)

-- 'with the last event's place (0 if finished)'
abbrev pub end_place : End → State → ℕ
end_place e st = cond (is_finished e) 0 (last_place st.events st.trace)

-- 'The device takes the manifest's sequence number exactly when install finishes'
abbrev pub number_after : Group → End → ℕ → ℕ → ℕ
number_after Install e new old = cond (is_finished e) new old
number_after Boot e new old = old

-- what a run that is over gives back
unfoldable pub report : Group → ℕ → Input → Out → Ran
report group number x o =
    record {
      end = o.end;
      place = end_place o.end o.state;
      events = o.state.events;
      used = o.state.used;
      slots = o.state.slots;
      number = number_after group o.end number x.device.number;
      trace = o.state.trace;
    }

-- 'Parameters start unset per component'
abbrev pub start_state : List Bytes → Input → State
start_state ids x = state (replicate (length ids) unset) x.slots x.trace 0 0

abbrev pub env_of : List Bytes → Input → Env
env_of ids x = record { device = x.device; ids = ids; answers = x.answers }

-- a run of `body`, for a manifest's or a program's group, number and components
unfoldable pub run_of : Group → ℕ → List Bytes → (Env → State → Out) → Input → Got Ran
run_of group number ids body x = do
  _ ← admit group number ids x
  got (report group number x (body (env_of ids x) (start_state ids x)))

-- 'Run an envelope for a group: install or boot'
unfoldable pub run_envelope : Bytes → Group → Input → Got Ran
run_envelope s group x = do
  m ← check s
  run_of group m.number (names s m) (λ env st. run_all env (plan_of group m) st) x
