-- The commands that hold sequences, as the code runs them.
use Prim.Native.Nat.{ℕ, ◌+◌, ◌-◌, ◌≤◌, ◌<◌}
use mathlib.Core.Path.{◌≡◌, refl, sym, ap, ◌∙◌}
use mathlib.Core.Bool.{Bool, true, false, cond}
use mathlib.Core.List.{List, [], ◌∷◌}
use native.Mathlib.Omega.{arith}
use lib.Dec.{eqb}
use lib.ListN.{length}
use borrow.Author.Tests.{ne_eqb}
use Rattle.rules.specs.declared.answers.End.{End}
use Rattle.rules.specs.declared.answers.End.TheVariants.{Finished, ConditionFailed, Started, Failed}
use Rattle.rules.specs.Answers.{end_number, end_of, failure_of}
use Rattle.rules.specs.Bytes.{Bytes}
use Rattle.rules.specs.Commands.{run_sequence_code, try_each_code}
use Rattle.rules.specs.Limits.{limits}
use Rattle.rules.specs.Manifest.{Seq, Cmd, one, try, Alts, last, or, count}
use Rattle.rules.specs.Step.{Env, State, Out, out}
use Rattle.rules.specs.Run.{on, next, run_seq, run_cmd, run_alts, index_after, coerce_after}
use Rattle.run_leaf.specs.declared.Run.{Run}
use Rattle.run_slots.specs.Params.{FitAll, SlotsKept}
use Rattle.run_actions.specs.declared.Progress.{Progress}
use Rattle.run_actions.specs.Action.{Ends}
use Rattle.run_commands.specs.Machine.{state_at, out_at}
use Rattle.manifest_accessors.specs.Heads.{HeadAt, Strings}
use Rattle.run_leaf.specs.Leaf.{state_of, done_by, LeafJob, CommandRan, run_at}
use Rattle.run_sequence.specs.Cycle.{CommandJob, SequenceJob, SequenceRan}
use Rattle.manifest_accessors.specs.Arguments.{ArgumentAt}
use Rattle.manifest_accessors.proofs.ArgumentLaws.{command-one}
use Rattle.manifest_accessors.proofs.HeadLaws.{number-headed}
use Rattle.run_commands.proofs.LentLaws.{Moves, moves-seq}
use Rattle.run_sequence.proofs.Keeping.{Kept, ready_of, kept_of, kept-after, events-after}
use Rattle.manifest_accessors.proofs.CommandPlaces.{Coded, coded, string-head, string-fits, string-sequence, Sub, its-sequence, Tries, its-alternatives, list_of}
use Rattle.manifest_accessors.proofs.TryPlaces.{AltsAt, try-head, try-places, Choice, choice, no_choice, strings-at}
use Rattle.manifest_accessors.proofs.PlaceLaws.{remaining, bytes_fall, head_later, command_starts}

-- the run where a sequence starts, and after a command that held sequences
abbrev pub entered : Run → ℕ → Progress → Run
entered run at now = run_at run at now (end_number Finished)

abbrev pub left : Run → ℕ → Progress → Run
left run at now = run_at run at now now.end

abbrev pub failed : Run → ℕ → Progress → Run
failed run at now = run_at run at now (end_number ConditionFailed)

-- 'alternatives in turn until one succeeds'
unfoldable pub try_all : Env → List Seq → ℕ → State → Out
try_all env [] i st = out ConditionFailed st
try_all env (a ∷ rest) i st = next (run_seq env a false i false st) (λ st'. out Finished st') (λ st'. try_all env rest i st')

on_same : (o : Out) → on o.end o.state (λ st'. out Finished st') (λ st'. out ConditionFailed st') ≡ o
unfolding on
on_same o = go o.end refl
  where
    go : (e : End) → o.end ≡ e → on e o.state (λ st'. out Finished st') (λ st'. out ConditionFailed st') ≡ out e o.state
    go Finished q = refl
    go ConditionFailed q = refl
    go Started q = refl
    go (Failed f) q = refl

pub try_law : (env : Env) (a : Alts) (i : ℕ) (st : State) → run_alts env a i st ≡ try_all env (list_of a) i st
unfolding run_seq try_all
try_law env (last a) i st = sym (on_same (run_seq env a false i false st))
try_law env (or a b) i st = ap (λ (g : State → Out). next (run_seq env a false i false st) (λ st'. out Finished st') g) (λ j st'. try_law env b i st' j)

-- alternatives go on after a failed condition, and end with anything else
try-on : (env : Env) (a : Seq) (rest : List Seq) (i : ℕ) (st st' : State) (n : ℕ) → n ≡ 1 → run_seq env a false i false st ≡ out (end_of n) st' →
    try_all env (a ∷ rest) i st ≡ try_all env rest i st'
unfolding try_all on
try-on env a rest i st st' n z e = rw (e, z)

try_off : (env : Env) (a : Seq) (rest : List Seq) (i : ℕ) (st st' : State) (n : ℕ) → (n ≡ 1 → ⊥) → run_seq env a false i false st ≡ out (end_of n) st' →
    try_all env (a ∷ rest) i st ≡ out (end_of n) st'
unfolding try_all on
try_off env a rest i st st' n z e = rw (e, ne_eqb n 1 z) (go (eqb n 0) (eqb n 2))
  where
    go : (b d : Bool) →
        on (cond b Finished (cond d Started (Failed (failure_of n)))) st' (λ st''. out Finished st'') (λ st''. try_all env rest i st'')
        ≡ out (cond b Finished (cond d Started (Failed (failure_of n)))) st'
    go true d = refl
    go false true = refl
    go false false = refl

-- the loop over alternatives: the whole gives what the alternatives that are left give from here
pub record AltsLoop (s vendor class : Bytes) (memory₀ : List ℕ) (answers : Bytes) (depth : ℕ) (env : Env) (cmd : Cmd) (to : ℕ) (run : Run)
    (whole : Out) (slots : Bytes) (memory : List ℕ) (trace : Bytes) (p k : ℕ) (now : Progress) : Type 0 where
  pub alts : Alts
  pub is : cmd ≡ try alts
  pub kept : Kept env s vendor class answers slots memory trace run.index
  pub place : AltsAt s (length env.ids) depth now.events k p to
  pub goes : whole ≡ try_all env place.seqs run.index (state_at s (length env.ids) memory slots trace now.events now.used)
  pub final : k ≡ 0 → 0 < now.events
  pub same : SlotsKept memory₀ memory

-- what a command that held sequences leaves
holds_sequences : (s : Bytes) (env : Env) (cmd : Cmd) (to : ℕ) (run : Run) (slots : Bytes) (memory : List ℕ) (trace : Bytes) (at : ℕ) (r : Progress)
    (slots' : Bytes) (memory' : List ℕ) (trace' : Bytes) →
    out_at s (length env.ids) memory' slots' trace' r ≡ run_cmd env cmd run.index (state_of s (length env.ids) memory slots trace run) →
    FitAll s (length env.ids) memory' → SlotsKept memory memory' → Ends r.end → (0 < r.end → 0 < r.events) → (r.end ≡ 0 → at ≡ to) → run.index < length env.ids →
    ((i : ℕ) → index_after cmd i ≡ i) → ((c : Bool) → coerce_after cmd c ≡ c) →
    CommandRan s env cmd to run slots memory trace (left run at r) slots' memory' trace'
holds_sequences s env cmd to run slots memory trace at r slots' memory' trace' goes fit same ends late next inside index coerce =
    record {
      goes = goes;
      fit = fit;
      same = same;
      ends = ends;
      late = late;
      next = next;
      index = λ z. sym (index run.index);
      inside = λ z. inside;
      coerce = sym (coerce _);
    }

ran_as_lem : (s : Bytes) (env : Env) (cmd cmd' : Cmd) (to to' : ℕ) (run : Run) (slots : Bytes) (memory : List ℕ) (trace : Bytes) (r : Run) (slots' : Bytes) (memory' : List ℕ) (trace' : Bytes) →
    cmd ≡ cmd' → to' ≡ to → CommandRan s env cmd' to' run slots memory trace r slots' memory' trace' → CommandRan s env cmd to run slots memory trace r slots' memory' trace'
ran_as_lem s env cmd cmd' to to' run slots memory trace r slots' memory' trace' e e' ran = rw (e, ← e') ran

module _ (s : Bytes) (depth : ℕ) (run : Run) (vendor class answers slots : Bytes) (memory : List ℕ) (trace : Bytes)
    (j : CommandJob s depth run vendor class answers slots memory trace) where
  abbrev pub its-code : Coded s (length j.ready.env.ids) depth run.events run.next j.place
  its-code = coded s (length j.ready.env.ids) depth run.events run.next j.place

  abbrev pub command-head : HeadAt s run.next
  command-head = number-headed s j.place.e run.next its-code.code its-code.from j.place.fits its-code.reads

  -- a sequence at a later place is of fewer bytes
  pub sequence_falls : (t : ℕ) → remaining s depth run.next ≡ t → (a b from : ℕ) → run.next < a → a ≤ b → b < from → remaining s depth from < t
  sequence_falls t is a b from l m u =
      omega (arith, bytes_fall s depth run.next from (command_starts s (length j.ready.env.ids) depth run.events run.next j.place) (omega arith))

  module _ (v p : ℕ) (q : (v ≡ its-code.code) × (p ≡ its-code.from)) where
    code_later : run.next < p
    code_later = omega (arith, q.1, head_later s run.next command-head)

    -- a run sequence
    module _ (z : v ≡ run_sequence_code) where
      abbrev pub sub_at : Sub s (length j.ready.env.ids) depth run.events run.next j.place p
      sub_at = its-sequence s (length j.ready.env.ids) depth run.events run.next j.place its-code p q.1 (sym q.0 ∙ z)

      abbrev pub sub-head : HeadAt s p
      sub-head = string-head s (length j.ready.env.ids) j.place.section depth (j.place.m + 1) j.place.e p sub_at.seq sub_at.inside j.place.fits

      pub sub-fits : sub_at.inside.head.next + sub_at.inside.head.num ≤ length s
      sub-fits = string-fits s (length j.ready.env.ids) j.place.section depth (j.place.m + 1) j.place.e p sub_at.seq sub_at.inside j.place.fits

      module _ (w from : ℕ) (o : (w ≡ sub_at.inside.head.num) × (from ≡ sub_at.inside.head.next)) where
        abbrev sub-job : SequenceJob s depth (entered run from (done_by run)) vendor class answers slots memory trace
        sub-job =
            record {
              ready = j.ready;
              place =
                  string-sequence s (length j.ready.env.ids) j.place.section depth (j.place.m + 1) j.place.e p sub_at.seq sub_at.inside j.place.fits
                  run.events from (omega (arith, j.place.few)) o.1;
            }

        -- its sequence begins there with what the run has done: as deep, and of fewer bytes
        module _ (now : Progress) (done : now ≡ record { events = run.events; used = run.used; end = end_number Finished }) (begin : Run) (at : begin ≡ entered run from now) where
          pub sub_asks : (t : ℕ) → remaining s depth run.next ≡ t → (remaining s depth begin.next < t) × SequenceJob s depth begin vendor class answers slots memory trace
          sub_asks t is = rw (at, done) (sequence_falls t is p p from code_later (omega arith) (omega (arith, o.1, head_later s p sub-head)), sub-job)

          pub sub-ran : (r : Progress) (slots' : Bytes) (memory' : List ℕ) (trace' : Bytes) →
              ((k : SequenceJob s depth begin vendor class answers slots memory trace) →
              SequenceRan s k.ready.env k.place.seq true begin slots memory trace r slots' memory' trace') →
              (end : Run) → end ≡ left run (from + w) r → CommandRan s j.ready.env j.place.cmd j.place.to run slots memory trace end slots' memory' trace'
          unfolding run_seq
          sub-ran r slots' memory' trace' runs end e =
              let ran = (rw (at, done) at runs) sub-job in
              rw e (holds_sequences s j.ready.env j.place.cmd j.place.to run slots memory trace (from + w) r slots' memory' trace'
              (ran.goes ∙ ap (λ (c : Cmd). run_cmd j.ready.env c run.index (state_of s (length j.ready.env.ids) memory slots trace run)) (sym sub_at.is))
              ran.fit ran.same ran.ends ran.late (λ x. omega (arith, o.0, o.1, sub_at.to)) j.ready.inside (λ i. rw sub_at.is) (λ c. rw sub_at.is))

    -- neither that nor a try each
    module _ (z : v ≡ run_sequence_code → ⊥) (z' : v ≡ try_each_code → ⊥) where
      abbrev pub OneAt : Type 0
      OneAt =
          (x : ArgumentAt s v p) × (x.n ≡ length j.ready.env.ids) × (j.place.cmd ≡ one run.next x.op x.coerce) × (x.to ≡ j.place.to)
          × (j.place.m < limits.commands)

      pub one_at : OneAt
      one_at =
          command-one s (length j.ready.env.ids) j.place.section depth j.place.m j.place.e run.next j.place.cmd j.place.to
          j.place.fits j.place.reads v p (rw (q.0, q.1) its-code.reads) z z'

      abbrev pub leaf-job : LeafJob s (record { value = v; next = p }) run vendor class answers slots memory trace
      leaf-job = record { ready = j.ready; argument = one_at.0; count = one_at.1; few = omega (arith, j.place.few, one_at.4) }

      pub leaf-ran : (r : Run) (slots' : Bytes) (memory' : List ℕ) (trace' : Bytes) →
          CommandRan s j.ready.env (one run.next one_at.0.op one_at.0.coerce) one_at.0.to run slots memory trace r slots' memory' trace' →
          CommandRan s j.ready.env j.place.cmd j.place.to run slots memory trace r slots' memory' trace'
      leaf-ran r slots' memory' trace' ran = ran_as_lem s j.ready.env _ _ _ _ run slots memory trace r slots' memory' trace' one_at.2 one_at.3 ran

    -- a try each
    module _ (z : v ≡ try_each_code) where
      abbrev pub tries_at : Tries s (length j.ready.env.ids) depth run.events run.next j.place p
      tries_at = its-alternatives s (length j.ready.env.ids) depth run.events run.next j.place its-code p q.1 (sym q.0 ∙ z)

      abbrev pub tries_head : HeadAt s p
      tries_head = try-head s (length j.ready.env.ids) depth run.events run.next j.place p tries_at

      pub tries_later : (w from : ℕ) → (w ≡ tries_at.head.num) × (from ≡ tries_at.head.next) → run.next < from
      tries_later w from o = omega (arith, o.1, code_later, head_later s p tries_head)

      pub tries_start : (w from : ℕ) → (w ≡ tries_at.head.num) × (from ≡ tries_at.head.next) →
          (now : Progress) → now ≡ record { events = run.events; used = run.used; end = end_number ConditionFailed } →
          AltsLoop s vendor class memory answers depth j.ready.env j.place.cmd j.place.to run
          (run_cmd j.ready.env j.place.cmd run.index (state_of s (length j.ready.env.ids) memory slots trace run)) slots memory trace from w now
      unfolding run_seq
      tries_start w from o now e =
          rw e record {
            alts = tries_at.alts;
            is = tries_at.is;
            kept = kept_of s vendor class answers slots memory trace run.index j.ready;
            place = try-places s (length j.ready.env.ids) depth run.events run.next j.place p tries_at w from o;
            goes =
                ap (λ (c : Cmd). run_cmd j.ready.env c run.index (state_of s (length j.ready.env.ids) memory slots trace run)) tries_at.is
                ∙ try_law j.ready.env tries_at.alts run.index (state_of s (length j.ready.env.ids) memory slots trace run);
            final = λ x. absurd (omega (arith, o.0, tries_at.some_of));
            same = λ i h. refl;
          }

module _ (s vendor class answers : Bytes) (depth : ℕ) (env : Env) (cmd : Cmd) (to : ℕ) (run : Run) (slots₀ : Bytes) (memory₀ : List ℕ) (trace₀ : Bytes)
    (slots : Bytes) (memory : List ℕ) (trace : Bytes) (p k : ℕ) (now : Progress)
    (l : AltsLoop s vendor class memory₀ answers depth env cmd to run (run_cmd env cmd run.index (state_of s (length env.ids) memory₀ slots₀ trace₀ run)) slots memory trace p k now) where
  -- none succeeded
  pub tries_failed : k ≡ 0 → (end : Run) → end ≡ failed run p now → CommandRan s env cmd to run slots₀ memory₀ trace₀ end slots memory trace
  unfolding try_all
  tries_failed z end e =
      let (none, at) = no_choice s (length env.ids) depth now.events k p to l.place z in
      let st : State = state_at s (length env.ids) memory slots trace now.events now.used in
      rw e (holds_sequences s env cmd to run slots₀ memory₀ trace₀ p (record { events = now.events; used = now.used; end = end_number ConditionFailed }) slots memory trace
      (sym (l.goes ∙ ap (λ (a : List Seq). try_all env a run.index st) none))
      l.kept.lent.fit l.same refl (λ x. l.final z) (λ x. at) l.kept.inside (λ i. rw l.is) (λ c. rw l.is))

  module _ (h : 0 < k) where
    abbrev pub its_choice : Choice s (length env.ids) depth now.events k p to l.place
    its_choice = choice s (length env.ids) depth now.events k p to l.place h

    abbrev pub choice_head : HeadAt s p
    choice_head = string-head s (length env.ids) l.place.section depth l.place.m l.place.e p its_choice.first its_choice.inside l.place.fits

    pub choice_fits : its_choice.inside.head.next + its_choice.inside.head.num ≤ length s
    choice_fits = string-fits s (length env.ids) l.place.section depth l.place.m l.place.e p its_choice.first its_choice.inside l.place.fits

    module _ (w from : ℕ) (o : (w ≡ its_choice.inside.head.num) × (from ≡ its_choice.inside.head.next)) where
      pub choice_later : p < from
      choice_later = omega (arith, o.1, head_later s p choice_head)

      abbrev choice_job : SequenceJob s depth (entered run from now) vendor class answers slots memory trace
      choice_job =
          record {
            ready = ready_of s vendor class answers env slots memory trace run.index l.kept;
            place =
                string-sequence s (length env.ids) l.place.section depth l.place.m l.place.e p its_choice.first its_choice.inside l.place.fits
                now.events from l.place.few o.1;
          }

      abbrev pub choice_rest : Strings s (k - 1) (from + w)
      choice_rest =
          record {
            e = its_choice.rest.e;
            fits = its_choice.rest.fits;
            to = to;
            reads = rw (o.0, o.1) (strings-at s (length env.ids) depth 0 (k - 1) (its_choice.inside.head.next + its_choice.inside.head.num) to its_choice.rest).reads;
          }

      module _ (begin : Run) (here : begin ≡ entered run from now) where
        pub choice_asks : (t : ℕ) → remaining s depth from < t → (remaining s depth begin.next < t) × SequenceJob s depth begin vendor class answers slots memory trace
        choice_asks t l = rw here (l, choice_job)

        module _ (r : Progress) (slots' : Bytes) (memory' : List ℕ) (trace' : Bytes)
            (runs : (k : SequenceJob s depth begin vendor class answers slots memory trace) →
            SequenceRan s k.ready.env k.place.seq false begin slots memory trace r slots' memory' trace') where
          ran : SequenceRan s env its_choice.first false (entered run from now) slots memory trace r slots' memory' trace'
          ran = (rw here at runs) choice_job

          pub tries_end : (r.end ≡ 1 → ⊥) → (at : ℕ) → at ≡ to → (end : Run) → end ≡ left run at r → CommandRan s env cmd to run slots₀ memory₀ trace₀ end slots' memory' trace'
          tries_end z at e end e' =
              let st : State = state_at s (length env.ids) memory slots trace now.events now.used in
              rw e' (holds_sequences s env cmd to run slots₀ memory₀ trace₀ at r slots' memory' trace'
              (sym (l.goes ∙ ap (λ (a : List Seq). try_all env a run.index st) its_choice.seqs
              ∙ try_off env its_choice.first its_choice.rest.seqs run.index st (state_at s (length env.ids) memory' slots' trace' r.events r.used) r.end z (sym ran.goes)))
              ran.fit (λ i k. ran.same i k ∙ l.same i k) ran.ends ran.late (λ x. e) l.kept.inside (λ i. rw l.is) (λ c. rw l.is))

          pub tries_on : r.end ≡ 1 →
              AltsLoop s vendor class memory₀ answers depth env cmd to run (run_cmd env cmd run.index (state_of s (length env.ids) memory₀ slots₀ trace₀ run))
              slots' memory' trace' (from + w) (k - 1) r
          tries_on z =
              let t = its_choice in
              let st : State = state_at s (length env.ids) memory slots trace now.events now.used in
              let m : Moves st (run_seq env t.first false run.index false st).state (count t.first) = moves-seq env t.first false run.index false st in
              let few : r.events ≤ l.place.m + count t.first =
              events-after s vendor class answers (length env.ids) memory slots trace now.events now.used _ _ l.place.m m l.place.few r slots' memory' trace' ran.goes in
              record {
                alts = l.alts;
                is = l.is;
                kept =
                    kept-after s vendor class answers env slots memory trace run.index l.kept now.events now.used _ _ m r slots' memory' trace'
                    ran.goes ran.fit ran.same run.index l.kept.inside;
                place =
                    record {
                      section = t.rest.section;
                      m = t.rest.m;
                      e = t.rest.e;
                      fits = t.rest.fits;
                      seqs = t.rest.seqs;
                      size = t.rest.size;
                      reads = rw (o.0, o.1) t.rest.reads;
                      few = omega (arith, t.more);
                    };
                goes =
                    l.goes ∙ ap (λ (a : List Seq). try_all env a run.index st) t.seqs
                    ∙ try-on env t.first t.rest.seqs run.index st (state_at s (length env.ids) memory' slots' trace' r.events r.used) r.end z (sym ran.goes);
                final = λ x. ran.late (omega (arith, z));
                same = λ i k. ran.same i k ∙ l.same i k;
              }
