-- A sequence as it runs, command by command.
use Prim.Native.Nat.{ℕ, ◌+◌, ◌-◌, ◌/◌, ◌≤◌, ◌<◌}
use mathlib.Core.Path.{◌≡◌, refl, sym, ap, ◌∙◌}
use mathlib.Core.Bool.{Bool, true, false, ◌&&◌, cond}
use mathlib.Core.List.{List}
use native.Mathlib.Omega.{arith}
use lib.Dec.{eqb}
use lib.ListN.{length}
use borrow.Author.Tests.{ne_eqb}
use Rattle.rules.specs.declared.answers.End.TheVariants.{Finished, ConditionFailed, Started, Failed}
use Rattle.rules.specs.Answers.{end_number, end_of, failure_of}
use Rattle.rules.specs.Bytes.{Bytes}
use Rattle.rules.specs.Manifest.{Seq, then, Cmd, count_cmd}
use Rattle.rules.specs.Step.{Env, State, Out, out}
use Rattle.rules.specs.Run.{on, run_seq, run_cmd, index_after, coerce_after}
use Rattle.run_slots.specs.Params.{SlotsKept}
use Rattle.run_actions.specs.Action.{Ends}
use Rattle.run_commands.specs.Machine.{out_at}
use Rattle.run_leaf.specs.declared.Run.{Run}
use Rattle.manifest_accessors.specs.Arguments.{is_true}
use Rattle.run_leaf.specs.Leaf.{state_of, done_by, Ready, CommandRan, caught_by}
use Rattle.run_sequence.specs.Cycle.{CommandJob, SequenceJob, SequenceRan}
use Rattle.manifest_accessors.specs.Heads.{HeadAt}
use Rattle.manifest_accessors.proofs.SequencePlaces.{CommandsAt, start, start-head, start-commands, Turn, turn, no_more}
use Rattle.manifest_accessors.proofs.PlaceLaws.{remaining, depth_falls, head_later, command_later}
use Rattle.run_commands.proofs.LentLaws.{Moves, moves-cmd}
use Rattle.run_sequence.proofs.Keeping.{Kept, ready_of, kept_of, kept-after, events-after}

-- a run goes on after a command that went well
goes_on : (env : Env) (c : Cmd) (cs : Seq) (coercible : Bool) (i : ℕ) (co : Bool) (st st' : State) (n : ℕ) → n ≡ 0 → run_cmd env c i st ≡ out (end_of n) st' →
    run_seq env (then c cs) coercible i co st ≡ run_seq env cs coercible (index_after c i) (coerce_after c co) st'
unfolding run_seq on
goes_on env c cs coercible i co st st' n z e = rw (e, z)

-- and ends with any other
stops : (env : Env) (c : Cmd) (cs : Seq) (coercible : Bool) (i : ℕ) (co : Bool) (st st' : State) (n : ℕ) → (n ≡ 0 → ⊥) → run_cmd env c i st ≡ out (end_of n) st' →
    run_seq env (then c cs) coercible i co st ≡ out (end_of (cond (coercible && co && eqb n 1) 0 n)) st'
unfolding run_seq on
stops env c cs coercible i co st st' n z e = rw (e, ne_eqb n 0 z) (go (eqb n 1) refl coercible co)
  where
    other : (b d : Bool) → eqb n 1 ≡ false →
        on (cond b Started (Failed (failure_of n))) st' (λ st''. run_seq env cs coercible (index_after c i) (coerce_after c co) st'') (λ st''. out (cond d Finished ConditionFailed) st'')
        ≡ out (cond b Started (Failed (failure_of n))) st'
    other true d f = refl
    other false d f = refl

    go : (b : Bool) → eqb n 1 ≡ b → (p q : Bool) →
        on (cond b ConditionFailed (cond (eqb n 2) Started (Failed (failure_of n)))) st' (λ st''. run_seq env cs coercible (index_after c i) (coerce_after c co) st'')
        (λ st''. out (cond (p && q) Finished ConditionFailed) st'')
        ≡ out (end_of (cond (p && q && b) 0 n)) st'
    go true f true true = refl
    go true f true false = rw (ne_eqb n 0 z, f)
    go true f false q = rw (ne_eqb n 0 z, f)
    go false f true true = rw (ne_eqb n 0 z, f) (other (eqb n 2) true f)
    go false f true false = rw (ne_eqb n 0 z, f) (other (eqb n 2) false f)
    go false f false q = rw (ne_eqb n 0 z, f) (other (eqb n 2) false f)

pub record CommandsJob (s : Bytes) (depth k : ℕ) (run : Run) (vendor class answers slots : Bytes) (memory : List ℕ) (trace : Bytes) : Type 0 where
  pub ready : Ready s vendor class answers slots memory trace run.index
  pub place : CommandsAt s (length ready.env.ids) depth run.events k run.next

-- the loop over commands: the whole gives what the commands that are left give from here
pub record Loop (s vendor class : Bytes) (memory₀ : List ℕ) (answers : Bytes) (depth : ℕ) (coercible : Bool) (env : Env) (whole : Out)
    (slots : Bytes) (memory : List ℕ) (trace : Bytes) (left : ℕ) (now : Run) : Type 0 where
  pub kept : Kept env s vendor class answers slots memory trace now.index
  pub place : CommandsAt s (length env.ids) depth now.events left now.next
  pub goes : whole ≡ run_seq env place.cmds coercible now.index (is_true now.coerce) (state_of s (length env.ids) memory slots trace now)
  pub same : SlotsKept memory₀ memory

module _ (s vendor class answers : Bytes) (depth : ℕ) (coercible : Bool) (slots : Bytes) (memory : List ℕ) (trace : Bytes) (left : ℕ) (now : Run) where
  pub loop_starts : (n : ℕ) → n - 0 ≡ left → (x : CommandsJob s depth n now vendor class answers slots memory trace) →
      Loop s vendor class memory answers depth coercible x.ready.env
      (run_seq x.ready.env x.place.cmds coercible now.index (is_true now.coerce) (state_of s (length x.ready.env.ids) memory slots trace now))
      slots memory trace left now
  loop_starts n e x = let z : left ≡ n = omega arith in rw z
      (record { kept = kept_of s vendor class answers slots memory trace now.index x.ready; place = x.place; goes = refl; same = λ i h. refl })

module _ (s vendor class : Bytes) (memory₀ : List ℕ) (answers : Bytes) (depth : ℕ) (coercible : Bool) (slots : Bytes) (memory : List ℕ) (trace : Bytes) (left : ℕ) (now : Run) where
  module _ (env : Env) (whole : Out) (l : Loop s vendor class memory₀ answers depth coercible env whole slots memory trace left now) where
    pub loop_done : left ≡ 0 → whole ≡ out Finished (state_of s (length env.ids) memory slots trace now)
    unfolding run_seq
    loop_done z = l.goes ∙ rw (no_more s (length env.ids) depth now.events left now.next l.place z)

    module _ (h : 0 < left) where
      abbrev pub its-turn : Turn s (length env.ids) depth now.events left now.next l.place
      its-turn = turn s (length env.ids) depth now.events left now.next l.place h

      abbrev pub command-job : CommandJob s depth now vendor class answers slots memory trace
      command-job = record { ready = ready_of s vendor class answers env slots memory trace now.index l.kept; place = its-turn.first }

      module _ (r : Run) (slots' : Bytes) (memory' : List ℕ) (trace' : Bytes)
          (ran : CommandRan s env its-turn.first.cmd its-turn.first.to now slots memory trace r slots' memory' trace') where
        pub loop_stops : (r.end ≡ 0 → ⊥) → out_at s (length env.ids) memory' slots' trace' (caught_by coercible now.coerce r) ≡ whole
        loop_stops z =
            sym (l.goes ∙ rw its-turn.cmds (stops env its-turn.first.cmd its-turn.rest.cmds coercible now.index (is_true now.coerce)
            (state_of s (length env.ids) memory slots trace now) (state_of s (length env.ids) memory' slots' trace' r) r.end z (sym ran.goes)))

        pub loop_rises : r.end ≡ 0 → now.next < r.next
        loop_rises z = omega (arith, ran.next z, command_later s (length env.ids) depth now.events now.next its-turn.first)

        after : r.end ≡ 0 → Loop s vendor class memory₀ answers depth coercible env whole slots' memory' trace' (left - 1) r
        after z =
            let t = its-turn in
            let st : State = state_of s (length env.ids) memory slots trace now in
            let m : Moves st (run_cmd env t.first.cmd now.index st).state (count_cmd t.first.cmd) = moves-cmd env t.first.cmd now.index st in
            let w : r.events ≤ t.first.m + count_cmd t.first.cmd =
            events-after s vendor class answers (length env.ids) memory slots trace now.events now.used _ _ t.first.m m t.under (done_by r) slots' memory' trace' ran.goes in
            record {
              kept =
                  kept-after s vendor class answers env slots memory trace now.index l.kept now.events now.used _ _ m (done_by r) slots' memory' trace'
                  ran.goes ran.fit ran.same r.index (ran.inside z);
              place =
                  record {
                    section = t.rest.section;
                    m = t.rest.m;
                    e = t.rest.e;
                    fits = t.rest.fits;
                    cmds = t.rest.cmds;
                    to = t.rest.to;
                    reads = rw (ran.next z) t.rest.reads;
                    few = omega (arith, t.few);
                  };
              goes =
                  l.goes ∙ ap (λ (a : Seq). run_seq env a coercible now.index (is_true now.coerce) st) t.cmds
                  ∙ rw (ran.index z, ran.coerce) (goes_on env t.first.cmd t.rest.cmds coercible now.index (is_true now.coerce) st
                  (state_of s (length env.ids) memory' slots' trace' r) r.end z (sym ran.goes));
              same = λ i h. ran.same i h ∙ l.same i h;
            }

        pub loop_goes_on : r.end ≡ 0 → (next : ℕ) → next ≡ left - 1 → Loop s vendor class memory₀ answers depth coercible env whole slots' memory' trace' next r
        loop_goes_on z next e = rw e (after z)

-- a run of a sequence, from its job
module _ (s : Bytes) (depth : ℕ) (run : Run) (vendor class answers slots : Bytes) (memory : List ℕ) (trace : Bytes)
    (j : SequenceJob s depth run vendor class answers slots memory trace) where
  pub sequence-deep : 0 < depth
  sequence-deep = (start s (length j.ready.env.ids) depth run.events run.next j.place).deep

  abbrev pub sequence-head : HeadAt s run.next
  sequence-head = start-head s (length j.ready.env.ids) depth run.events run.next j.place

  module _ (v p : ℕ) (q : (v ≡ sequence-head.head.num) × (p ≡ sequence-head.head.next)) where
    abbrev pub commands-job : (coerce : ℕ) →
        CommandsJob s (depth - 1) (v / 2) (record { next = p; index = run.index; coerce = coerce; events = run.events; used = run.used; end = 0 })
        vendor class answers slots memory trace
    commands-job coerce = record { ready = j.ready; place = start-commands s (length j.ready.env.ids) depth run.events run.next j.place v p q }

    -- a command at that place or later is one less deep, and of fewer bytes
    pub command_falls : (t : ℕ) → remaining s depth run.next ≡ t → (at : ℕ) → p ≤ at → remaining s (depth - 1) at < t
    command_falls t is at l = omega (arith, depth_falls s depth run.next at sequence-deep (omega (arith, q.1, head_later s run.next sequence-head)))

caught_ends : (b : Bool) (n : ℕ) → Ends n → Ends (cond b (end_number Finished) n)
caught_ends true n e = refl
caught_ends false n e = e

module _ (s vendor class answers : Bytes) (depth : ℕ) (coercible : Bool) (slots : Bytes) (memory : List ℕ) (trace : Bytes) (left : ℕ) (now : Run)
    (env : Env) (seq : Seq) (run : Run) (slots₀ : Bytes) (memory₀ : List ℕ) (trace₀ : Bytes)
    (l : Loop s vendor class memory₀ answers depth coercible env (run_seq env seq coercible run.index false (state_of s (length env.ids) memory₀ slots₀ trace₀ run))
    slots memory trace left now) where
  pub sequence-done : left ≡ 0 → SequenceRan s env seq coercible run slots₀ memory₀ trace₀
      (record { events = now.events; used = now.used; end = end_number Finished }) slots memory trace
  sequence-done z =
      record {
        goes = sym (loop_done s vendor class memory₀ answers depth coercible slots memory trace left now env _ l z);
        fit = l.kept.lent.fit;
        same = l.same;
        ends = refl;
        late = λ h. absurd (omega arith);
      }

  module _ (h : 0 < left) (r : Run) (slots' : Bytes) (memory' : List ℕ) (trace' : Bytes)
      (ran : CommandRan s env (its-turn s vendor class memory₀ answers depth coercible slots memory trace left now env _ l h).first.cmd
      (its-turn s vendor class memory₀ answers depth coercible slots memory trace left now env _ l h).first.to now slots memory trace r slots' memory' trace') where
    pub sequence-stopped : (r.end ≡ 0 → ⊥) → SequenceRan s env seq coercible run slots₀ memory₀ trace₀ (caught_by coercible now.coerce r) slots' memory' trace'
    sequence-stopped z =
        record {
          goes = loop_stops s vendor class memory₀ answers depth coercible slots memory trace left now env _ l h r slots' memory' trace' ran z;
          fit = ran.fit;
          same = λ i k. ran.same i k ∙ l.same i k;
          ends = caught_ends (coercible && is_true now.coerce && eqb r.end (end_number ConditionFailed)) r.end ran.ends;
          late = λ p. ran.late (omega (arith, z));
        }
