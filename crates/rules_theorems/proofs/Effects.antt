-- What a run changes: at most 256 events, which fit the trace buffer; no slot but those that a fetch, copy or swap names; of no slot the
-- identifier or the capacity.
use Prim.Native.Nat.{ℕ, zero, suc, ◌+◌, ◌-◌, ◌*◌, ◌≤◌}
use mathlib.Core.Path.{◌≡◌, refl, sym, ap, ◌∙◌, subst}
use mathlib.Core.List.{List, [], ◌∷◌, ◌++◌}
use mathlib.Core.Bool.{Bool, true, false, ◌&&◌, ◌||◌, not}
use mathlib.Core.Option.{Option, some, none}
use native.Mathlib.Omega.{arith}
use lib.Dec.{leb, eqb}
use lib.ListN.{length, get_or, drop, length-append, length-take}
use lib.Seq.{drop-drop, length-sets}
use borrow.Author.Tests.{eq-eqb, leb-true}
use Rattle.rules.specs.declared.answers.End.{End}
use Rattle.rules.specs.declared.answers.End.TheVariants.{Finished, ConditionFailed, Started, Failed}
use Rattle.rules.specs.declared.answers.Failure.{Failure}
use Rattle.rules.specs.declared.answers.Group.{Group}
use Rattle.rules.specs.declared.answers.Refusal.TheVariants.{BadProgram}
use Rattle.rules.specs.Answers.{result_number}
use Rattle.rules.specs.Limits.{limits}
use Rattle.rules.specs.Bytes.{Bytes, part, num, same, repeats}
use Rattle.rules.specs.Got.{got, found}
use Rattle.rules.specs.Commands.{Op, vendor, class, image_match, set_index, abort, set_params, override_params, fetch, copy, run, swap, among, component, code}
use Rattle.rules.specs.Manifest.{counts, Seq, end, then, Cmd, one, sub, try, Alts, last, or, count, count_cmd, count_alts, Manifest, names}
use Rattle.rules.specs.Check.{check}
use Rattle.rules.specs.Slots.{slot_bytes, image_from, answer_bytes, image_at, slot_of}
use Rattle.rules.specs.Step.{Env, State, Out, out, with_used, event_bytes, unless, given, passes, slot_no, image, filled, params_of, matches, fetches, copies, swaps, acts, step, event}
use Rattle.rules.specs.Run.{on, next, index_after, coerce_after, run_seq, run_cmd, run_alts, run_all, plan_of, Input, Ran, admit, report, start_state, env_of, run_of, run_envelope}
use Rattle.rules.specs.Program.{Rec, does, jump, Program}
use Rattle.rules.specs.ProgramFormat.{NONE, START, group_from, components_from, records_from, start_size}
use Rattle.rules.specs.ProgramTest.{marked, group_in, ids_in, records_in, non_jumps, program_in}
use Rattle.rules.specs.ProgramRun.{exec, run_program}
use Rattle.rules.proofs.GotLaws.{passed, split, split₂, or-false}
use Rattle.rules_theorems.proofs.ManifestLaws.{sound}
use Rattle.rules_theorems.proofs.FlatLaws.{plan_law}
use Rattle.rules_theorems.proofs.SlotLaws.{drop_put_past, other-kept, fixed_kept, length-kept, number-kept}

-- a command that a run does: at which component, and the place of its code
pub record Did : Type 0 where
  pub op : Op
  pub at : ℕ
  pub place : ℕ

module _ (env : Env) where
  abbrev sources : Option ℕ → State → List ℕ
  sources none st = []
  sources (some j) st = slot_no env j st ∷ []

  -- the slots that a command names: a fetch or copy its component's, a swap its component's and its source's
  abbrev pub named : Op → ℕ → State → List ℕ
  named (vendor b) i st = []
  named (class b) i st = []
  named image_match i st = []
  named (set_index k) i st = []
  named abort i st = []
  named (set_params p) i st = []
  named (override_params p) i st = []
  named fetch i st = slot_no env i st ∷ []
  named copy i st = slot_no env i st ∷ []
  named run i st = []
  named swap i st = slot_no env i st ∷ sources (params_of env i st).source st

  -- the state after commands one after the other, and the slots that they name
  abbrev pub follow : List Did → State → State
  follow [] st = st
  follow (d ∷ ds) st = follow ds (step env d.op d.at d.place st).state

  abbrev pub named_by : List Did → State → List ℕ
  named_by [] st = []
  named_by (d ∷ ds) st = named d.op d.at st ++ named_by ds (step env d.op d.at d.place st).state

-- n events more, and of the slots only those of the list changed, and only in their images
pub record Changes (st st' : State) (slots : List ℕ) (n : ℕ) : Type 0 where
  pub events : st'.events ≡ st.events + n
  pub beyond : drop (event_bytes * st'.events) st'.trace ≡ drop (event_bytes * st'.events) st.trace
  pub trace-length : length st'.trace ≡ length st.trace
  pub slots_length : length st'.slots ≡ length st.slots
  pub fixed : (c : ℕ) → part st'.slots (slot_bytes * c) image_from ≡ part st.slots (slot_bytes * c) image_from
  pub others : (c : ℕ) → among c slots ≡ false → part st'.slots (slot_bytes * c) slot_bytes ≡ part st.slots (slot_bytes * c) slot_bytes

among-append : (c : ℕ) (xs ys : List ℕ) → among c (xs ++ ys) ≡ false → (among c xs ≡ false) × (among c ys ≡ false)
among-append c [] ys h = (refl, h)
among-append c (x ∷ xs) ys h =
    let (a, b) = or-false (eqb c x) (among c (xs ++ ys)) h in
    let (d, e) = among-append c xs ys b in
    (rw (a, d), e)

nothing : (st : State) → Changes st st [] 0
nothing st = record { events = omega arith; beyond = refl; trace-length = refl; slots_length = refl; fixed = λ c. refl; others = λ c h. refl }

drop_more : (t t' : Bytes) (a b : ℕ) → a ≤ b → drop a t' ≡ drop a t → drop b t' ≡ drop b t
drop_more t t' a b h e =
    let s : b ≡ a + (b - a) = omega arith in
    rw (s, ← drop-drop (b - a) a t', ← drop-drop (b - a) a t, e)

and_then : (st st' st'' : State) (xs ys : List ℕ) (n m : ℕ) → Changes st st' xs n → Changes st' st'' ys m → Changes st st'' (xs ++ ys) (n + m)
and_then st st' st'' xs ys n m a b =
    record {
      events = omega (arith, a.events, b.events);
      beyond = b.beyond ∙ drop_more st.trace st'.trace (event_bytes * st'.events) (event_bytes * st''.events) (omega (arith, b.events)) a.beyond;
      trace-length = b.trace-length ∙ a.trace-length;
      slots_length = b.slots_length ∙ a.slots_length;
      fixed = λ c. b.fixed c ∙ a.fixed c;
      others = λ c h. let (p, q) = among-append c xs ys h in b.others c q ∙ a.others c p;
    }

-- what a command does before its event: nothing to trace and events
pub record Acted (st st' : State) (slots : List ℕ) : Type 0 where
  pub events : st'.events ≡ st.events
  pub trace : st'.trace ≡ st.trace
  pub slots_length : length st'.slots ≡ length st.slots
  pub fixed : (c : ℕ) → part st'.slots (slot_bytes * c) image_from ≡ part st.slots (slot_bytes * c) image_from
  pub others : (c : ℕ) → among c slots ≡ false → part st'.slots (slot_bytes * c) slot_bytes ≡ part st.slots (slot_bytes * c) slot_bytes

passes_keeps : (P : State → Type 0) (b : Bool) (st : State) → P st → P (passes b st).state
unfolding passes
passes_keeps P true st h = h
passes_keeps P false st h = h

unless_keeps : (P : State → Type 0) (b : Bool) (f : Failure) (st : State) (o : Out) → P st → P o.state → P (unless b f st o).state
unfolding unless
unless_keeps P true f st o h g = g
unless_keeps P false f st o h g = h

given_keeps : {A : Type 0} (P : State → Type 0) (a : Option A) (st : State) (k : A → Out) → P st → ((x : A) → a ≡ some x → P (k x).state) → P (given a st k).state
unfolding given
given_keeps P none st k h g = h
given_keeps P (some x) st k h g = g x refl

module _ (env : Env) where
  same-slots : (st st' : State) (ns : List ℕ) → st'.events ≡ st.events → st'.trace ≡ st.trace → st'.slots ≡ st.slots → Acted st st' ns
  same-slots st st' ns e t s =
      record { events = e; trace = t; slots_length = rw s; fixed = λ c. rw s; others = λ c h. rw s }

  -- an image in a slot of the list
  fills : (st st' : State) (ns : List ℕ) (j : ℕ) (x : Bytes) → length x ≤ answer_bytes → among (slot_no env j st') ns ≡ true → Acted st st' ns →
      Acted st (filled env j x st') ns
  unfolding filled
  fills st st' ns j x short h a =
      record {
        events = a.events;
        trace = a.trace;
        slots_length = length-kept st'.slots (slot_no env j st') x short ∙ a.slots_length;
        fixed = λ c. fixed_kept st'.slots (slot_no env j st') x short c ∙ a.fixed c;
        others = λ c n. other-kept st'.slots (slot_no env j st') x short c (λ e. apart c e n) ∙ a.others c n;
      }
    where
      apart : (c : ℕ) → c ≡ slot_no env j st' → among c ns ≡ false → ⊥
      apart c e n = let z : ◌≡◌ {A = Bool} true false = sym h ∙ rw (← e) n in let y : ◌≡◌ {A = ℕ} 0 1 = cc in omega arith

  -- the number of a component's slot stays
  pub same_number : (j i : ℕ) (x : Bytes) (st : State) → length x ≤ answer_bytes → slot_no env j (filled env i x st) ≡ slot_no env j st
  unfolding slot_no filled
  same_number j i x st short = number-kept st.slots (slot_of _ st.slots) x short _

  pub image-length : (j : ℕ) (st : State) → length (image env j st) ≤ answer_bytes
  unfolding image image_at
  image-length j st = omega (arith, length-take answer_bytes (drop (slot_bytes * slot_no env j st + image_from) st.slots))

  first : (a : ℕ) (ns : List ℕ) → among a (a ∷ ns) ≡ true
  first a ns = rw (eq-eqb a a refl)

  second : (a b : ℕ) → among b (a ∷ b ∷ []) ≡ true
  second a b = rw (eq-eqb b b refl) (go (eqb b a))
    where
      go : (t : Bool) → (t || true) ≡ true
      go true = refl
      go false = refl

  number-taken : (i : ℕ) (st : State) → among (slot_no env i (with_used st (st.used + 1))) (slot_no env i st ∷ []) ≡ true
  unfolding slot_no
  number-taken i st = first (slot_no env i st) []

  answer-length : (i : ℕ) (st : State) → length (1 ∷ part (part env.answers (answer_bytes * st.used) answer_bytes) 1 36) ≤ answer_bytes
  answer-length i st = omega (arith, length-take 36 (drop 1 (part env.answers (answer_bytes * st.used) answer_bytes)))

  swapped : (i j : ℕ) (st : State) → (params_of env i st).source ≡ some j → among (slot_no env j (filled env i (image env j st) st)) (named env swap i st) ≡ true
  swapped i j st e = rw (e, same_number j i (image env j st) st (image-length j st)) (second (slot_no env i st) (slot_no env j st))

  acts_law : (op : Op) (i : ℕ) (st : State) → Acted st (acts env op i st).state (named env op i st)
  unfolding acts matches fetches copies swaps
  acts_law (vendor b) i st = passes_keeps (λ x. Acted st x []) _ st (same-slots st st [] refl refl refl)
  acts_law (class b) i st = passes_keeps (λ x. Acted st x []) _ st (same-slots st st [] refl refl refl)
  acts_law image_match i st =
      given_keeps (λ x. Acted st x []) _ st _ (same-slots st st [] refl refl refl) λ d e. passes_keeps (λ x. Acted st x []) _ st (same-slots st st [] refl refl refl)
  acts_law (set_index k) i st = same-slots st st [] refl refl refl
  acts_law abort i st = same-slots st st [] refl refl refl
  acts_law (set_params p) i st = same-slots st _ [] refl refl refl
  acts_law (override_params p) i st = same-slots st _ [] refl refl refl
  acts_law fetch i st =
      let P : State → Type 0 = λ x. Acted st x (slot_no env i st ∷ []) in
      let taken : State = with_used st (st.used + 1) in
      let same : P st = same-slots st st _ refl refl refl in
      let used : P taken = same-slots st taken _ refl refl refl in
      given_keeps P _ st _ same λ u e.
      unless_keeps P _ _ st _ same
      (unless_keeps P _ _ taken _ used
      (unless_keeps P _ _ taken _ used
      (fills st taken _ i _ (answer-length i st) (number-taken i st) used)))
  acts_law copy i st =
      let P : State → Type 0 = λ x. Acted st x (slot_no env i st ∷ []) in
      let same : P st = same-slots st st _ refl refl refl in
      given_keeps P _ st _ same λ j e.
      unless_keeps P _ _ st _ same
      (unless_keeps P _ _ st _ same
      (fills st st _ i _ (image-length j st) (first (slot_no env i st) []) same))
  acts_law run i st = unless_keeps (λ x. Acted st x []) _ _ st _ (same-slots st st [] refl refl refl) (same-slots st st [] refl refl refl)
  acts_law swap i st =
      let P : State → Type 0 = λ x. Acted st x (named env swap i st) in
      let same : P st = same-slots st st _ refl refl refl in
      given_keeps P _ st _ same λ j e.
      unless_keeps P _ _ st _ same
      (unless_keeps P _ _ st _ same
      (fills st (filled env i (image env j st) st) _ j _ (image-length i st) (swapped i j st e)
      (fills st st _ i _ (image-length j st) (first (slot_no env i st) (sources env (params_of env i st).source st)) same)))

  step_law : (op : Op) (i place : ℕ) (st : State) → Changes st (step env op i place st).state (named env op i st) 1
  unfolding step
  step_law op i place st =
      let a : Acted st (acts env op i st).state (named env op i st) = acts_law op i st in
      let e : Bytes = event (code op) i place (result_number (acts env op i st).end) in
      let st' : State = (acts env op i st).state in
      record {
        events = omega (arith, a.events);
        beyond = drop_put_past (event_bytes * (st'.events + 1)) st'.trace (event_bytes * st'.events) e (omega arith) ∙ ap (drop (event_bytes * (st'.events + 1))) a.trace;
        trace-length = length-sets st'.trace (event_bytes * st'.events) e ∙ ap length a.trace;
        slots_length = a.slots_length;
        fixed = a.fixed;
        others = a.others;
      }

  -- the commands done one after the other
  pub follow_law : (ds : List Did) (st : State) → Changes st (follow env ds st) (named_by env ds st) (length ds)
  follow_law [] st = nothing st
  follow_law (d ∷ ds) st =
      let st' : State = (step env d.op d.at d.place st).state in
      let n : 1 + length ds ≡ suc (length ds) = omega arith in
      subst (λ (k : ℕ). Changes st (follow env ds st') (named env d.op d.at st ++ named_by env ds st') k) n
      (and_then st st' (follow env ds st') (named env d.op d.at st) (named_by env ds st') 1 (length ds) (step_law d.op d.at d.place st) (follow_law ds st'))

  -- at most n commands lead from st to where o ended
  pub record Reaches (n : ℕ) (st : State) (o : Out) : Type 0 where
    pub did : List Did
    pub goes : follow env did st ≡ o.state
    pub few : length did ≤ n

  stays : (n : ℕ) (st : State) (e : End) → Reaches n st (out e st)
  stays n st e = record { did = []; goes = refl; few = omega arith }

  follow-append : (ds ds' : List Did) (st : State) → follow env (ds ++ ds') st ≡ follow env ds' (follow env ds st)
  follow-append [] ds' st = refl
  follow-append (d ∷ ds) ds' st = follow-append ds ds' (step env d.op d.at d.place st).state

  onward : (n m : ℕ) (st : State) (e : End) (st' : State) (o : Out) → Reaches n st (out e st') → Reaches m st' o → Reaches (n + m) st o
  onward n m st e st' o a b =
      record {
        did = a.did ++ b.did;
        goes = follow-append a.did b.did st ∙ ap (follow env b.did) a.goes ∙ b.goes;
        few = omega (arith, length-append a.did b.did, a.few, b.few);
      }

  next_law : (n m : ℕ) (st : State) (o : Out) (f g : State → Out) → Reaches n st o → ((x : State) → Reaches m x (f x)) → ((x : State) → Reaches m x (g x)) →
      Reaches (n + m) st (next o f g)
  unfolding on
  next_law n m st o f g a hf hg = go o.end a
    where
      go : (e : End) → Reaches n st (out e o.state) → Reaches (n + m) st (on e o.state f g)
      go Finished a = onward n m st Finished o.state _ a (hf o.state)
      go ConditionFailed a = onward n m st ConditionFailed o.state _ a (hg o.state)
      go Started a = onward n m st Started o.state _ a (stays m o.state Started)
      go (Failed k) a = onward n m st (Failed k) o.state _ a (stays m o.state (Failed k))

  pub step_reaches : (op : Op) (i place : ℕ) (st : State) → Reaches 1 st (step env op i place st)
  step_reaches op i place st = record { did = record { op = op; at = i; place = place } ∷ []; goes = refl; few = omega arith }

  mutual
    unfolding run_seq count

    pub seq_reaches : (s : Seq) (coercible : Bool) (i : ℕ) (c : Bool) (st : State) → Reaches (count s) st (run_seq env s coercible i c st)
    seq_reaches end coercible i c st = stays 0 st Finished
    seq_reaches (then x xs) coercible i c st =
        next_law (count_cmd x) (count xs) st (run_cmd env x i st) _ _ (cmd_reaches x i st)
        (λ st'. seq_reaches xs coercible (index_after x i) (coerce_after x c) st') (λ st'. stays (count xs) st' _)

    pub cmd_reaches : (x : Cmd) (i : ℕ) (st : State) → Reaches (count_cmd x) st (run_cmd env x i st)
    cmd_reaches (one p op b) i st = step_reaches op (component op i) p st
    cmd_reaches (sub s) i st = let r = seq_reaches s true i false st in record { did = r.did; goes = r.goes; few = omega (arith, r.few) }
    cmd_reaches (try a) i st = let r = alts_reaches a i st in record { did = r.did; goes = r.goes; few = omega (arith, r.few) }

    pub alts_reaches : (a : Alts) (i : ℕ) (st : State) → Reaches (count_alts a) st (run_alts env a i st)
    alts_reaches (last s) i st = seq_reaches s false i false st
    alts_reaches (or s a) i st =
        next_law (count s) (count_alts a) st (run_seq env s false i false st) _ _ (seq_reaches s false i false st)
        (λ st'. stays (count_alts a) st' Finished) (λ st'. alts_reaches a i st')

  all_reaches : (ss : List Seq) (st : State) → Reaches (counts ss) st (run_all env ss st)
  unfolding run_all
  all_reaches [] st = stays 0 st Finished
  all_reaches (s ∷ ss) st =
      next_law (count s) (counts ss) st (run_seq env s false 0 false st) _ _ (seq_reaches s false 0 false st)
      (λ st'. all_reaches ss st') (λ st'. stays (counts ss) st' ConditionFailed)

  more : (n m : ℕ) (st : State) (o : Out) → n ≤ m → Reaches n st o → Reaches m st o
  more n m st o h r = record { did = r.did; goes = r.goes; few = omega (arith, r.few) }

  exec_reaches : (rs : List Rec) (n k : ℕ) (st : State) → Reaches (non_jumps rs) st (exec env rs n k st)
  unfolding exec
  exec_reaches [] n k st = stays 0 st Finished
  exec_reaches (does op i p t ∷ rs) n (suc k) st = more _ _ st _ (omega arith) (exec_reaches rs (suc n) k st)
  exec_reaches (jump t ∷ rs) n (suc k) st = exec_reaches rs (suc n) k st
  exec_reaches (jump t ∷ rs) n zero st = exec_reaches rs (suc n) (t - suc n) st
  exec_reaches (does op i p t ∷ rs) n zero st =
      more (1 + non_jumps rs) _ st _ (omega arith)
      (next_law 1 (non_jumps rs) st (step env op i p st) _ _
      (step_reaches op i p st)
      (λ st'. exec_reaches rs (suc n) 0 st') (λ st'. failed (eqb t NONE) st' (exec_reaches rs (suc n) (t - suc n) st')))
    where
      failed : (b : Bool) (st' : State) → Reaches (non_jumps rs) st' (exec env rs (suc n) (t - suc n) st') →
          Reaches (non_jumps rs) st' (elim b as (λ _. Out) [ true ↦ out ConditionFailed st' | false ↦ exec env rs (suc n) (t - suc n) st' ])
      failed true st' r = stays (non_jumps rs) st' ConditionFailed
      failed false st' r = r

-- what a run that is not refused changes
pub record Effects (ids : List Bytes) (x : Input) (r : Ran) : Type 0 where
  -- the commands that it did, each of which wrote one event
  pub did : List Did
  pub events : r.events ≡ length did
  pub few : r.events ≤ limits.commands
  pub fits : event_bytes * r.events ≤ limits.trace
  -- trace bytes beyond the events keep their values
  pub trace-length : length r.trace ≡ length x.trace
  pub beyond : drop (event_bytes * r.events) r.trace ≡ drop (event_bytes * r.events) x.trace
  -- identifiers and capacities never change, and a slot that none of those commands names keeps every byte
  pub slots_length : length r.slots ≡ length x.slots
  pub fixed : (c : ℕ) → part r.slots (slot_bytes * c) image_from ≡ part x.slots (slot_bytes * c) image_from
  pub others : (c : ℕ) → among c (named_by (env_of ids x) did (start_state ids x)) ≡ false →
      part r.slots (slot_bytes * c) slot_bytes ≡ part x.slots (slot_bytes * c) slot_bytes

run_of_effects : (g : Group) (number : ℕ) (ids : List Bytes) (body : Env → State → Out) (x : Input) (r : Ran) →
    Reaches (env_of ids x) limits.commands (start_state ids x) (body (env_of ids x) (start_state ids x)) → run_of g number ids body x ≡ got r → Effects ids x r
unfolding run_of report
run_of_effects g number ids body x r h q₀ =
    split _ (admit g number ids x) _ r q₀ λ u qa q₁.
    let o : Out = body (env_of ids x) (start_state ids x) in
    let e : report g number x o ≡ r = cc in
    let c : Changes (start_state ids x) o.state (named_by (env_of ids x) h.did (start_state ids x)) (length h.did) =
    rw h.goes at (follow_law (env_of ids x) h.did (start_state ids x)) in
    subst (λ (y : Ran). Effects ids x y) e
    (record {
      did = h.did;
      events = omega (arith, c.events);
      few = omega (arith, c.events, h.few);
      fits = omega (arith, c.events, h.few);
      trace-length = c.trace-length;
      beyond = c.beyond;
      slots_length = c.slots_length;
      fixed = c.fixed;
      others = c.others;
    })

pub envelope_effects : (s : Bytes) (g : Group) (m : Manifest) (x : Input) (r : Ran) → check s ≡ got m → run_envelope s g x ≡ got r → Effects (names s m) x r
unfolding run_envelope
envelope_effects s g m x r e q₀ =
    let p = plan_law s g m (sound s m e) in
    run_of_effects g m.number (names s m) (λ env st. run_all env (plan_of g m) st) x r
    (more (env_of (names s m) x) (counts (plan_of g m)) limits.commands _ _ p.few (all_reaches (env_of (names s m) x) (plan_of g m) (start_state (names s m) x)))
    (rw e at q₀)

few-commands : (b : Bytes) (p : Program) → program_in b ≡ got p → non_jumps p.records ≤ limits.commands
unfolding program_in
few-commands b p q₀ =
    let (_, q₁) = passed (leb (length b) limits.program && leb start_size (length b) && marked START b) BadProgram 0 _ p q₀ in
    split _ (found (group_in (get_or b group_from 0)) BadProgram 0) _ p q₁ λ g _ q₂.
    let (_, q₃) = passed (leb 1 (get_or b components_from 0) && leb (get_or b components_from 0) limits.components && leb (num (part b records_from 2)) limits.records) BadProgram 0 _ p q₂ in
    split₂ _ (ids_in (get_or b components_from 0) (drop start_size b)) _ p q₃ λ ids p₁ _ q₄.
    let (_, q₅) = passed (not (repeats ids)) BadProgram 0 _ p q₄ in
    split₂ _ (records_in g (get_or b components_from 0) (num (part b records_from 2)) (num (part b records_from 2)) 0 p₁) _ p q₅ λ rs p₂ _ q₆.
    let (few, q₇) = passed (leb (non_jumps rs) limits.commands) BadProgram 0 _ p q₆ in
    let (_, q₈) = passed (same p₂ []) BadProgram 0 _ p q₇ in
    let e : rs ≡ p.records = cc in
    let f : non_jumps rs ≤ limits.commands = leb-true _ _ few in
    rw e at f

pub program_effects : (b : Bytes) (p : Program) (x : Input) (r : Ran) → program_in b ≡ got p → run_program b x ≡ got r → Effects p.ids x r
unfolding run_program
program_effects b p x r e q₀ =
    run_of_effects p.group p.number p.ids (λ env st. exec env p.records 0 0 st) x r
    (more (env_of p.ids x) (non_jumps p.records) limits.commands _ _ (few-commands b p e) (exec_reaches (env_of p.ids x) p.records 0 0 (start_state p.ids x)))
    (rw e at q₀)
