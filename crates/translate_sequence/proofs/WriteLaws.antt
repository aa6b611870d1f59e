-- The records of sequences and commands, as the code writes them.
use Prim.Native.Nat.{ℕ, ◌+◌, ◌-◌, ◌*◌, ◌/◌, ◌≤◌, ◌<◌}
use mathlib.Core.Path.{◌≡◌, refl, sym, ap, ◌∙◌}
use mathlib.Core.Bool.{Bool, true, false, ◌&&◌, cond}
use mathlib.Core.List.{List, [], ◌∷◌, ◌++◌, append_assoc, append-nil}
use mathlib.Core.Option.{Option}
use native.Mathlib.Omega.{arith}
use lib.ListN.{length, length-append}
use lib.Seq.{length-sets}
use Rattle.rules.specs.Bytes.{Bytes, put}
use Rattle.rules.specs.Tables.{by_number}
use Rattle.rules.specs.Limits.{limits}
use Rattle.rules.specs.ProgramFormat.{record_size}
use Rattle.rules.specs.Commands.{Op, run_sequence_code, try_each_code}
use Rattle.rules.specs.Manifest.{Seq, end, then, Cmd, one, sub, try, Alts, last, or}
use Rattle.rules.specs.Check.{sequence_at}
use Rattle.rules.specs.Run.{index_after, coerce_after}
use Rattle.rules.specs.Program.{Rec, jump, arg_bytes, size, size_cmd, size_alts, flat_seq, flat_cmd, flat_alts, rec_bytes}
use Rattle.rules.specs.ProgramSize.{arg_size, arg_size_cmd, arg_size_alts}
use Rattle.rules_theorems.proofs.RunLaws.{length-seq, length-cmd}
use Rattle.rules_theorems.proofs.FlatLaws.{bytes, sum-seq, sum-cmd}
use Rattle.manifest_accessors.specs.Heads.{HeadAt}
use Rattle.manifest_accessors.specs.Arguments.{coerce_false, is_true, ArgumentAt}
use Rattle.manifest_accessors.specs.Places.{SequenceAt}
use Rattle.manifest_accessors.proofs.HeadLaws.{number-headed}
use Rattle.manifest_accessors.proofs.PlaceLaws.{head_later, command_later, command_starts}
use Rattle.manifest_accessors.proofs.ArgumentLaws.{command-one}
use Rattle.manifest_accessors.proofs.SequencePlaces.{CommandsAt, start, start-head, start-commands, Turn, turn, no_more, all_read}
use Rattle.manifest_accessors.proofs.CommandPlaces.{Coded, coded, Sub, its-sequence, Tries, its-alternatives, list_of, Alternatives, string-head, string-sequence}
use Rattle.manifest_accessors.proofs.TryPlaces.{AltsAt, Choice, choice, try-head, try-places}
use Rattle.translate_record.specs.declared.record.WriteState.{WriteState}
use Rattle.translate_size.specs.Size.{most, SequenceHere, CommandHere}
use Rattle.translate_record.specs.Record.{written, LeafJob, Wrote, CommandWrote, JumpWrote}
use Rattle.translate_sequence.specs.Write.{SequenceJob, CommandJob, SequenceWrote}
use Rattle.rules.proofs.BytesLaws.{put-append}

pub written-append : (a b : List Rec) → written (a ++ b) ≡ written a ++ written b
unfolding written
written-append [] b = refl
written-append (x ∷ a) b = ap (λ (w : Bytes). rec_bytes x ++ w) (written-append a b) ∙ sym (append_assoc (rec_bytes x) (written a) (written b))

bytes-jump : (t : ℕ) → length (written (jump t ∷ [])) ≡ record_size
unfolding written rec_bytes
bytes-jump t = refl

length-written : (a b : List Rec) → length (written (a ++ b)) ≡ length (written a) + length (written b)
length-written a b = ap length (written-append a b) ∙ length-append (written a) (written b)

pub bytes-seq : (a : Seq) (coercible : Bool) (i : ℕ) (c : Bool) (t z k : ℕ) → length (written (flat_seq a coercible i c t z k)) ≡ record_size * size a + arg_size a
unfolding written bytes
bytes-seq a coercible i c t z k = (sum-seq a coercible i c t z k).1

bytes-cmd : (x : Cmd) (i t k : ℕ) → length (written (flat_cmd x i t k)) ≡ record_size * size_cmd x + arg_size_cmd x
unfolding written bytes
bytes-cmd x i t k = (sum-cmd x i t k).1

-- nothing written
pub wrote_none : (state now : WriteState) (room : Bytes) → now.to ≡ state.to → now.n ≡ state.n → Wrote [] state room now room
unfolding written
wrote_none state now room e e' = record { filled = refl; to = omega (arith, e); n = omega (arith, e') }

-- one after the other
pub wrote_then : (a b : List Rec) (state : WriteState) (room : Bytes) (now : WriteState) (room' : Bytes) (at : WriteState) (r : WriteState) (room'' : Bytes) → at.to ≡ now.to → at.n ≡ now.n →
    Wrote a state room now room' → Wrote b at room' r room'' → Wrote (a ++ b) state room r room''
wrote_then a b state room now room' at r room'' e e' w v =
    record {
      filled = v.filled ∙ rw (e, w.to, w.filled, written-append a b) (put-append room state.to (written a) (written b));
      to = omega (arith, v.to, e, w.to, length-written a b);
      n = omega (arith, v.n, e', w.n, length-append a b);
    }

pub same-room : (a : List Rec) (state : WriteState) (room : Bytes) (now : WriteState) (room' : Bytes) → Wrote a state room now room' → length room' ≡ length room
same-room a state room now room' w = ap length w.filled ∙ length-sets room state.to (written a)

-- the same place in the room
wrote_at : (rs : List Rec) (state state' : WriteState) (room : Bytes) (r r' : WriteState) (room' : Bytes) → state.to ≡ state'.to → state.n ≡ state'.n → r.to ≡ r'.to → r.n ≡ r'.n →
    Wrote rs state room r room' → Wrote rs state' room r' room'
wrote_at rs state state' room r r' room' a b d e w = record { filled = w.filled ∙ ap (λ (k : ℕ). put room k (written rs)) a; to = omega (arith, a, d, w.to); n = omega (arith, b, e, w.n) }

-- the state where a sequence starts or ends
abbrev pub entered : WriteState → ℕ → WriteState → WriteState
entered state at now = record { next = at; index = state.index; coerce = state.coerce; n = now.n; to = now.to }

-- some commands as check read them, and room for their records
pub record CommandsJob (s : Bytes) (table : List ℕ) (depth k : ℕ) (state : WriteState) (room : Bytes) : Type 0 where
  pub rows : table ≡ by_number
  pub n : ℕ
  pub place : CommandsAt s n depth 0 k state.next
  pub inside : state.index < n
  pub components : n ≤ limits.components
  pub enough : state.to + record_size * size place.cmds + arg_size place.cmds ≤ length room
  pub few : state.n + size place.cmds ≤ limits.records
  pub small : length room ≤ most

-- the loop over commands: the records of the whole are those written and those of the commands that are left
pub record Loop (s : Bytes) (table : List ℕ) (depth : ℕ) (coercible : Bool) (target beyond components to : ℕ) (whole : List Rec) (state : WriteState)
    (room₀ room : Bytes) (left : ℕ) (now : WriteState) : Type 0 where
  pub job : CommandsJob s table depth left now room
  pub behind : state.next ≤ now.next
  pub ends : job.place.to ≡ to
  pub same : job.n ≡ components
  pub done : List Rec
  pub wrote : Wrote done state room₀ now room
  pub goes : whole ≡ done ++ flat_seq job.place.cmds coercible now.index (is_true now.coerce) target beyond now.n

flat-then : (x : Cmd) (xs : Seq) (coercible : Bool) (i : ℕ) (c : Bool) (t z n : ℕ) →
    flat_seq (then x xs) coercible i c t z n ≡ flat_cmd x i (cond (coercible && c) z t) n ++ flat_seq xs coercible (index_after x i) (coerce_after x c) t z (n + size_cmd x)
unfolding flat_seq
flat-then x xs coercible i c t z n = refl

flat-end : (coercible : Bool) (i : ℕ) (c : Bool) (t z n : ℕ) → flat_seq end coercible i c t z n ≡ []
unfolding flat_seq
flat-end coercible i c t z n = refl

size-then : (x : Cmd) (xs : Seq) → size (then x xs) ≡ size_cmd x + size xs
unfolding size
size-then x xs = refl

arg_size_then : (x : Cmd) (xs : Seq) → arg_size (then x xs) ≡ arg_size_cmd x + arg_size xs
unfolding arg_size
arg_size_then x xs = refl

module _ (s : Bytes) (table : List ℕ) (depth : ℕ) (coercible : Bool) (target beyond : ℕ) where
  pub loop_starts : (left : ℕ) (now : WriteState) (room : Bytes) (x : CommandsJob s table depth left now room) →
      Loop s table depth coercible target beyond x.n x.place.to (flat_seq x.place.cmds coercible now.index (is_true now.coerce) target beyond now.n) now room room left now
  loop_starts left now room x = record { job = x; behind = omega arith; ends = refl; same = refl; done = []; wrote = wrote_none now now room refl refl; goes = refl }

  module _ (components to : ℕ) (whole : List Rec) (state : WriteState) (room₀ room : Bytes) (left : ℕ) (now : WriteState)
      (l : Loop s table depth coercible target beyond components to whole state room₀ room left now) where
    pub loop_done : left ≡ 0 → (from : WriteState) → state.to ≡ from.to → state.n ≡ from.n → SequenceWrote whole to from room₀ (entered from now.next now) room
    loop_done z from a b =
        let e : whole ≡ l.done =
        l.goes
        ∙ ap (λ (a : Seq). l.done ++ flat_seq a coercible now.index (is_true now.coerce) target beyond now.n) (no_more s l.job.n depth 0 left now.next l.job.place z)
        ∙ ap (λ (a : List Rec). l.done ++ a) (flat-end coercible now.index (is_true now.coerce) target beyond now.n)
        ∙ append-nil l.done in
        record {
          wrote = wrote_at whole state from room₀ now (entered from now.next now) room a b refl refl (rw e l.wrote);
          next = all_read s l.job.n depth 0 left now.next l.job.place z ∙ l.ends;
          index = refl;
          coerce = refl;
        }

    module _ (h : 0 < left) where
      abbrev pub its-turn : Turn s l.job.n depth 0 left now.next l.job.place
      its-turn = turn s l.job.n depth 0 left now.next l.job.place h

      pub its-size : size l.job.place.cmds ≡ size_cmd its-turn.first.cmd + size its-turn.rest.cmds
      its-size = ap size its-turn.cmds ∙ size-then its-turn.first.cmd its-turn.rest.cmds

      pub its-weight : arg_size l.job.place.cmds ≡ arg_size_cmd its-turn.first.cmd + arg_size its-turn.rest.cmds
      its-weight = ap arg_size its-turn.cmds ∙ arg_size_then its-turn.first.cmd its-turn.rest.cmds

      abbrev pub command-job : CommandJob s table depth now room
      command-job =
          record {
            rows = l.job.rows;
            n = l.job.n;
            place = its-turn.first;
            inside = l.job.inside;
            components = l.job.components;
            enough = omega (arith, l.job.enough, its-size, its-weight);
            few = omega (arith, l.job.few, its-size);
            small = l.job.small;
          }

      pub loop_goes_on : (t : ℕ) → t ≡ cond (coercible && is_true now.coerce) beyond target → (r : WriteState) (room' : Bytes) →
          CommandWrote its-turn.first.cmd its-turn.first.to l.job.n t now room r room' →
          Loop s table depth coercible target beyond components to whole state room₀ room' (left - 1) r
      loop_goes_on t e r room' w =
          let x : Cmd = its-turn.first.cmd in
          let xs : Seq = its-turn.rest.cmds in
          let f : List Rec = flat_cmd x now.index t now.n in
          let nn : r.n ≡ now.n + size_cmd x = w.wrote.n ∙ ap (λ (k : ℕ). now.n + k) (length-cmd x now.index t now.n) in
          let nt = w.wrote.to in
          let nl = same-room f now room r room' w.wrote in
          let nb = bytes-cmd x now.index t now.n in
          record {
            job =
                record {
                  rows = l.job.rows;
                  n = l.job.n;
                  place =
                      record {
                        section = its-turn.rest.section;
                        m = its-turn.rest.m;
                        e = its-turn.rest.e;
                        fits = its-turn.rest.fits;
                        cmds = its-turn.rest.cmds;
                        to = its-turn.rest.to;
                        reads = rw w.next its-turn.rest.reads;
                        few = its-turn.rest.few;
                      };
                  inside = w.inside;
                  components = l.job.components;
                  enough = omega (arith, l.job.enough, its-size, its-weight, nt, nl, nb);
                  few = omega (arith, l.job.few, its-size, nn);
                  small = omega (arith, l.job.small, nl);
                };
            behind = omega (arith, l.behind, w.next, command_later s l.job.n depth 0 now.next its-turn.first);
            ends = its-turn.ends ∙ l.ends;
            same = l.same;
            done = l.done ++ f;
            wrote = wrote_then l.done f state room₀ now room now r room' refl refl l.wrote w.wrote;
            goes =
                l.goes
                ∙ ap (λ (a : Seq). l.done ++ flat_seq a coercible now.index (is_true now.coerce) target beyond now.n) its-turn.cmds
                ∙ ap (λ (a : List Rec). l.done ++ a) (flat-then x xs coercible now.index (is_true now.coerce) target beyond now.n)
                ∙ sym (append_assoc l.done (flat_cmd x now.index (cond (coercible && is_true now.coerce) beyond target) now.n)
                (flat_seq xs coercible (index_after x now.index) (coerce_after x (is_true now.coerce)) target beyond (now.n + size_cmd x)))
                ∙ rw (e, w.index, w.coerce, nn);
          }

-- the records of a sequence, from its job
module _ (s : Bytes) (table : List ℕ) (depth : ℕ) (state : WriteState) (room : Bytes) (j : SequenceJob s table depth state room) where
  pub sequence-deep : 0 < depth
  sequence-deep = (start s j.n depth 0 state.next j.place).deep

  abbrev pub sequence-head : HeadAt s state.next
  sequence-head = start-head s j.n depth 0 state.next j.place

  module _ (v p : ℕ) (q : (v ≡ sequence-head.head.num) × (p ≡ sequence-head.head.next)) where
    pub commands_later : state.next < p
    commands_later = omega (arith, q.1, (head_later s state.next sequence-head).0)

    abbrev pub commands-job : CommandsJob s table (depth - 1) (v / 2) (record { next = p; index = state.index; coerce = coerce_false; n = state.n; to = state.to }) room
    commands-job =
        record {
          rows = j.rows;
          n = j.n;
          place = start-commands s j.n depth 0 state.next j.place v p q;
          inside = j.inside;
          components = j.components;
          enough = j.enough;
          few = j.few;
          small = j.small;
        }

-- what a command that held sequences leaves
holds_sequences : (cmd : Cmd) (to components target : ℕ) (state : WriteState) (room : Bytes) (r : WriteState) (room' : Bytes) →
    SequenceWrote (flat_cmd cmd state.index target state.n) to state room r room' → state.index < components →
    ((i : ℕ) → index_after cmd i ≡ i) → ((c : Bool) → coerce_after cmd c ≡ c) →
    CommandWrote cmd to components target state room r room'
holds_sequences cmd to components target state room r room' w inside index coerce =
    record {
      wrote = w.wrote;
      next = w.next;
      index = w.index ∙ sym (index state.index);
      inside = omega (arith, inside, w.index);
      coerce = ap is_true w.coerce ∙ sym (coerce _);
    }

wrote_as : (cmd cmd' : Cmd) (to to' components components' target : ℕ) (state : WriteState) (room : Bytes) (r : WriteState) (room' : Bytes) →
    cmd ≡ cmd' → to' ≡ to → components' ≡ components → CommandWrote cmd' to' components' target state room r room' → CommandWrote cmd to components target state room r room'
wrote_as cmd cmd' to to' components components' target state room r room' e e' e'' w = rw (e, ← e', ← e'') w

pub size-sub : (a : Seq) → size_cmd (sub a) ≡ size a
unfolding size
size-sub a = refl

pub arg_size_sub : (a : Seq) → arg_size_cmd (sub a) ≡ arg_size a
unfolding arg_size
arg_size_sub a = refl

flat-sub : (a : Seq) (i t n : ℕ) → flat_cmd (sub a) i t n ≡ flat_seq a true i false t (n + size a) n
unfolding flat_seq
flat-sub a i t n = refl

pub size-try : (a : Alts) → size_cmd (try a) ≡ size_alts a
unfolding size
size-try a = refl

pub arg_size_try : (a : Alts) → arg_size_cmd (try a) ≡ arg_size_alts a
unfolding arg_size
arg_size_try a = refl

flat-try : (a : Alts) (i t n : ℕ) → flat_cmd (try a) i t n ≡ flat_alts a i t (n + size_alts a) n
unfolding flat_seq
flat-try a i t n = refl

pub size-one : (p : ℕ) (op : Op) (b : Option Bool) → size_cmd (one p op b) ≡ 1
unfolding size
size-one p op b = refl

pub arg_size_one : (p : ℕ) (op : Op) (b : Option Bool) → arg_size_cmd (one p op b) ≡ length (arg_bytes op)
unfolding arg_size
arg_size_one p op b = refl

-- alternatives by their list
listed-some : (a : Alts) → 0 < length (list_of a)
listed-some (last x) = omega arith
listed-some (or x a) = omega arith

more-alts : (a : Alts) (x : Seq) (xs : List Seq) → list_of a ≡ x ∷ xs → 0 < length xs → (b : Alts) × (a ≡ or x b) × (xs ≡ list_of b)
more-alts (last y) x xs e h = let n : xs ≡ [] = cc in absurd (omega (arith, h, ap length n))
more-alts (or y b) x xs e h = let n : y ≡ x = cc in let m : xs ≡ list_of b = cc in (b, ap (λ (v : Seq). or v b) n, m)

last-alts : (a : Alts) (x : Seq) (xs : List Seq) → list_of a ≡ x ∷ xs → length xs ≡ 0 → (a ≡ last x) × (xs ≡ [])
last-alts (last y) x xs e h = let n : y ≡ x = cc in let m : xs ≡ [] = cc in (ap last n, m)
last-alts (or y b) x xs e h = let m : xs ≡ list_of b = cc in absurd (omega (arith, h, ap length m, listed-some b))

size-or : (x : Seq) (a : Alts) → (size_alts (or x a) ≡ size x + (1 + size_alts a)) × (arg_size_alts (or x a) ≡ arg_size x + arg_size_alts a)
unfolding size arg_size
size-or x a = (refl, refl)

size-last : (x : Seq) → (size_alts (last x) ≡ size x) × (arg_size_alts (last x) ≡ arg_size x)
unfolding size arg_size
size-last x = (refl, refl)

flat-or : (x : Seq) (a : Alts) (i t z n : ℕ) → flat_alts (or x a) i t z n ≡ flat_seq x false i false (n + size x + 1) z n ++ jump z ∷ flat_alts a i t z (n + size x + 1)
unfolding flat_seq
flat-or x a i t z n = refl

flat-last : (x : Seq) (i t z n : ℕ) → flat_alts (last x) i t z n ≡ flat_seq x false i false t z n
unfolding flat_seq
flat-last x i t z n = refl

first_fits : (a : Alts) (x : Seq) (xs : List Seq) → list_of a ≡ x ∷ xs → (size x ≤ size_alts a) × (arg_size x ≤ arg_size_alts a)
first_fits (last y) x xs e = let n : y ≡ x = cc in let (p, q) = size-last y in (omega (arith, p, ap size n), omega (arith, q, ap arg_size n))
first_fits (or y b) x xs e = let n : y ≡ x = cc in let (p, q) = size-or y b in (omega (arith, p, ap size n), omega (arith, q, ap arg_size n))

-- the loop over alternatives: the records of the command are those written and those of the alternatives that are left
pub record AltsLoop (s : Bytes) (table : List ℕ) (depth components : ℕ) (cmd : Cmd) (to target : ℕ) (state : WriteState) (room₀ : Bytes) (z : ℕ)
    (room : Bytes) (k : ℕ) (now : WriteState) : Type 0 where
  pub rows : table ≡ by_number
  pub behind : state.next < now.next
  pub whole : Alts
  pub is : cmd ≡ try whole
  pub inside : state.index < components
  pub bounded : components ≤ limits.components
  pub alts : Alts
  pub place : AltsAt s components depth 0 k now.next to
  pub listed : list_of alts ≡ place.seqs
  pub some_left : 0 < k
  pub done : List Rec
  pub wrote : Wrote done state room₀ now room
  pub goes : flat_cmd cmd state.index target state.n ≡ done ++ flat_alts alts state.index target z now.n
  pub enough : now.to + record_size * size_alts alts + arg_size_alts alts ≤ length room
  pub few : now.n + size_alts alts ≤ limits.records
  pub small : length room ≤ most

module _ (s : Bytes) (table : List ℕ) (depth : ℕ) (state : WriteState) (room : Bytes) (j : CommandJob s table depth state room) where
  abbrev pub its-code : Coded s j.n depth 0 state.next j.place
  its-code = coded s j.n depth 0 state.next j.place

  abbrev pub command-head : HeadAt s state.next
  command-head = number-headed s j.place.e state.next its-code.code its-code.from j.place.fits its-code.reads

  pub starts : state.next < length s
  starts = command_starts s j.n depth 0 state.next j.place

  abbrev pub command-here : CommandHere s table depth state.next
  command-here = record { rows = j.rows; n = j.n; place = j.place; small = omega (arith, j.enough, j.small) }

  module _ (v p : ℕ) (q : (v ≡ its-code.code) × (p ≡ its-code.from)) where
    -- 30
    module _ (z : v ≡ run_sequence_code) where
      abbrev pub sub_at : Sub s j.n depth 0 state.next j.place p
      sub_at = its-sequence s j.n depth 0 state.next j.place its-code p q.1 (sym q.0 ∙ z)

      abbrev pub sub-head : HeadAt s p
      sub-head = string-head s j.n j.place.section depth (j.place.m + 1) j.place.e p sub_at.seq sub_at.inside j.place.fits

      pub sub-size : size_cmd j.place.cmd ≡ size sub_at.seq
      sub-size = ap size_cmd sub_at.is ∙ size-sub sub_at.seq

      pub sub-weight : arg_size_cmd j.place.cmd ≡ arg_size sub_at.seq
      sub-weight = ap arg_size_cmd sub_at.is ∙ arg_size_sub sub_at.seq

      pub sub-few : (k : ℕ) → k ≡ size sub_at.seq → state.n + k ≤ limits.records
      sub-few k e = omega (arith, e, sub-size, j.few)

      module _ (w from : ℕ) (o : (w ≡ sub_at.inside.head.num) × (from ≡ sub_at.inside.head.next)) where
        pub sub_later : state.next < from
        sub_later = omega (arith, q.1, (head_later s state.next command-head).0, o.1, (head_later s p sub-head).0)

        abbrev pub sub-place : SequenceAt s j.n depth 0 from
        sub-place = string-sequence s j.n j.place.section depth (j.place.m + 1) j.place.e p sub_at.seq sub_at.inside j.place.fits 0 from (omega arith) o.1

        abbrev pub sub-here : SequenceHere s table depth from
        sub-here = record { rows = j.rows; n = j.n; place = sub-place; small = omega (arith, j.enough, j.small, sub-size, sub-weight) }

        abbrev pub sub-job : SequenceJob s table depth (entered state from state) room
        sub-job =
            record {
              rows = j.rows;
              n = j.n;
              place = sub-place;
              inside = j.inside;
              components = j.components;
              enough = omega (arith, j.enough, sub-size, sub-weight);
              few = omega (arith, j.few, sub-size);
              small = j.small;
            }

        pub sub-wrote : (target k : ℕ) → k ≡ size sub_at.seq → (r : WriteState) (room' : Bytes) →
            SequenceWrote (flat_seq sub_at.seq true state.index false target (state.n + k) state.n) sub-place.to (entered state from state) room r room' →
            CommandWrote j.place.cmd j.place.to j.n target state room r room'
        sub-wrote target k e r room' v =
            let f : flat_seq sub_at.seq true state.index false target (state.n + k) state.n ≡ flat_cmd j.place.cmd state.index target state.n =
            ap (λ (m : ℕ). flat_seq sub_at.seq true state.index false target (state.n + m) state.n) e
            ∙ sym (flat-sub sub_at.seq state.index target state.n)
            ∙ ap (λ (c : Cmd). flat_cmd c state.index target state.n) (sym sub_at.is) in
            holds_sequences j.place.cmd j.place.to j.n target state room r room'
            (record {
              wrote = wrote_at _ (entered state from state) state room r r room' refl refl refl refl (rw f at v.wrote);
              next = v.next ∙ sym sub_at.to;
              index = v.index;
              coerce = v.coerce;
            }) j.inside (λ i. rw sub_at.is) (λ c. rw sub_at.is)

    -- any other but 15
    module _ (z : v ≡ run_sequence_code → ⊥) (z' : v ≡ try_each_code → ⊥) where
      abbrev pub OneAt : Type 0
      OneAt =
          (x : ArgumentAt s v p) × (x.n ≡ j.n) × (j.place.cmd ≡ one state.next x.op x.coerce) × (x.to ≡ j.place.to)
          × (j.place.m < limits.commands)

      pub one_at : OneAt
      one_at = command-one s j.n j.place.section depth j.place.m j.place.e state.next j.place.cmd j.place.to j.place.fits
          j.place.reads v p (rw (q.0, q.1) its-code.reads) z z'

      abbrev pub leaf-job : LeafJob s table v p state room
      leaf-job =
          record {
            rows = j.rows;
            argument = one_at.0;
            inside = omega (arith, j.inside, one_at.1);
            components = omega (arith, j.components, one_at.1);
            enough = omega (
              arith,
              j.enough,
              ap size_cmd one_at.2,
              ap arg_size_cmd one_at.2,
              size-one state.next one_at.0.op one_at.0.coerce,
              arg_size_one state.next one_at.0.op one_at.0.coerce,
            );
            count = omega (arith, j.few, ap size_cmd one_at.2, size-one state.next one_at.0.op one_at.0.coerce);
          }

      pub leaf-wrote : (target : ℕ) (r : WriteState) (room' : Bytes) →
          CommandWrote (one state.next one_at.0.op one_at.0.coerce) one_at.0.to one_at.0.n target state room r room' →
          CommandWrote j.place.cmd j.place.to j.n target state room r room'
      leaf-wrote target r room' w = wrote_as _ _ _ _ _ _ target state room r room' one_at.2 one_at.3 one_at.1 w

    -- 15
    module _ (y : v ≡ try_each_code) where
      abbrev pub tries_at : Tries s j.n depth 0 state.next j.place p
      tries_at = its-alternatives s j.n depth 0 state.next j.place its-code p q.1 (sym q.0 ∙ y)

      abbrev pub tries_head : HeadAt s p
      tries_head = try-head s j.n depth 0 state.next j.place p tries_at

      pub tries_start : (target w from z : ℕ) → (w ≡ tries_at.head.num) × (from ≡ tries_at.head.next) → (k : ℕ) → k ≡ size_cmd j.place.cmd → z ≡ state.n + k →
          AltsLoop s table depth j.n j.place.cmd j.place.to target state room z room w (entered state from state)
      tries_start target w from z o k e e' =
          let sz : size_cmd j.place.cmd ≡ size_alts tries_at.alts = ap size_cmd tries_at.is ∙ size-try tries_at.alts in
          let wt : arg_size_cmd j.place.cmd ≡ arg_size_alts tries_at.alts = ap arg_size_cmd tries_at.is ∙ arg_size_try tries_at.alts in
          let zz : state.n + size_alts tries_at.alts ≡ z = omega (arith, e, e', sz) in
          record {
            rows = j.rows;
            behind = omega (arith, q.1, (head_later s state.next command-head).0, o.1, (head_later s p tries_head).0);
            whole = tries_at.alts;
            is = tries_at.is;
            inside = j.inside;
            bounded = j.components;
            alts = tries_at.alts;
            place = try-places s j.n depth 0 state.next j.place p tries_at w from o;
            listed = refl;
            some_left = omega (arith, o.0, tries_at.some_of);
            done = [];
            wrote = wrote_none state (entered state from state) room refl refl;
            goes =
                ap (λ (c : Cmd). flat_cmd c state.index target state.n) tries_at.is
                ∙ flat-try tries_at.alts state.index target state.n
                ∙ ap (λ (m : ℕ). flat_alts tries_at.alts state.index target m state.n) zz;
            enough = omega (arith, j.enough, sz, wt);
            few = omega (arith, j.few, sz);
            small = j.small;
          }

-- of n alternatives, turn i is for one but the last
pub all_alternatives : (n : ℕ) → n + 1 - 1 ≡ n
all_alternatives n = omega arith

pub alternative_left : (n i : ℕ) → i < n → 1 < n + 1 - i
alternative_left n i l = omega arith

module _ (s : Bytes) (table : List ℕ) (depth components : ℕ) (cmd : Cmd) (to target : ℕ) (state : WriteState) (room₀ : Bytes) (z : ℕ) (room : Bytes) (k : ℕ) (now : WriteState)
    (l : AltsLoop s table depth components cmd to target state room₀ z room k now) where
  abbrev pub its_choice : Choice s components depth 0 k now.next to l.place
  its_choice = choice s components depth 0 k now.next to l.place l.some_left

  abbrev pub choice_head : HeadAt s now.next
  choice_head = string-head s components l.place.section depth l.place.m l.place.e now.next its_choice.first its_choice.inside l.place.fits

  pub choice_size : (size its_choice.first ≤ size_alts l.alts) × (arg_size its_choice.first ≤ arg_size_alts l.alts)
  choice_size = first_fits l.alts its_choice.first its_choice.rest.seqs (l.listed ∙ its_choice.seqs)

  abbrev More : Type 0
  More = (b : Alts) × (l.alts ≡ or its_choice.first b) × (its_choice.rest.seqs ≡ list_of b)

  more : 1 < k → More
  more h = more-alts l.alts its_choice.first its_choice.rest.seqs (l.listed ∙ its_choice.seqs) (omega (arith, its_choice.rest.size))

  -- the record after an alternative but the last, and its jump
  pub choice_few : 1 < k → (w : ℕ) → w ≡ size its_choice.first → now.n + w + 1 ≤ limits.records
  choice_few h w e = let (b, a, _) = more h in omega (arith, e, l.few, ap size_alts a, (size-or its_choice.first b).0)

  module _ (w from : ℕ) (o : (w ≡ its_choice.inside.head.num) × (from ≡ its_choice.inside.head.next)) where
    pub choice_later : state.next < from
    choice_later = omega (arith, l.behind, o.1, (head_later s now.next choice_head).0)

    abbrev pub choice_place : SequenceAt s components depth 0 from
    choice_place = string-sequence s components l.place.section depth l.place.m l.place.e now.next its_choice.first its_choice.inside l.place.fits 0 from (omega arith) o.1

    abbrev pub choice_here : SequenceHere s table depth from
    choice_here =
        record { rows = l.rows; n = components; place = choice_place; small = omega (arith, l.enough, l.small, choice_size.0, choice_size.1) }

    abbrev pub choice_job : SequenceJob s table depth (entered state from now) room
    choice_job =
        record {
          rows = l.rows;
          n = components;
          place = choice_place;
          inside = l.inside;
          components = l.bounded;
          enough = omega (arith, l.enough, choice_size.0, choice_size.1);
          few = omega (arith, l.few, choice_size.0);
          small = l.small;
        }

    -- an alternative but the last
    module _ (h : 1 < k) (t : ℕ) (r : WriteState) (room' : Bytes)
        (v : SequenceWrote (flat_seq its_choice.first false state.index false t z now.n) choice_place.to (entered state from now) room r room') where
      pub jump-room : r.to + record_size ≤ length room'
      jump-room =
          let (b, a, _) = more h in
          let f : List Rec = flat_seq its_choice.first false state.index false t z now.n in
          let (p₁, p₂) = size-or its_choice.first b in
          omega (
            arith,
            l.enough,
            ap size_alts a,
            ap arg_size_alts a,
            p₁,
            p₂,
            v.wrote.to,
            bytes-seq its_choice.first false state.index false t z now.n,
            same-room f (entered state from now) room r room' v.wrote,
          )

      pub jump-few : r.n < limits.records
      jump-few =
          let (b, a, _) = more h in
          omega (arith, l.few, ap size_alts a, (size-or its_choice.first b).0, v.wrote.n, length-seq its_choice.first false state.index false t z now.n)

      pub tries_on : t ≡ now.n + size its_choice.first + 1 → (r' : WriteState) (room'' : Bytes) → JumpWrote z r room' r' room'' →
          AltsLoop s table depth components cmd to target state room₀ z room'' (k - 1) r'
      tries_on e r' room'' jumped =
          let (b, a, rest) = more h in
          let x : Seq = its_choice.first in
          let f : List Rec = flat_seq x false state.index false t z now.n in
          let (p₁, p₂) = size-or x b in
          let e₁ = ap size_alts a in
          let e₂ = ap arg_size_alts a in
          let n₁ = length-seq x false state.index false t z now.n in
          let b₁ = bytes-seq x false state.index false t z now.n in
          let g : Wrote (l.done ++ f) state room₀ r room' = wrote_then l.done f state room₀ now room (entered state from now) r room' refl refl l.wrote v.wrote in
          let nn : r'.n ≡ now.n + size x + 1 = omega (arith, v.wrote.n, jumped.wrote.n, n₁) in
          let tt' : r'.to ≡ now.to + (record_size * size x + arg_size x) + record_size = omega (arith, v.wrote.to, jumped.wrote.to, b₁, bytes-jump z) in
          let ll : length room'' ≡ length room =
          same-room (jump z ∷ []) r room' r' room'' jumped.wrote ∙ same-room f (entered state from now) room r room' v.wrote in
          record {
            rows = l.rows;
            behind = omega (arith, choice_later, o.1, v.next, jumped.next);
            whole = l.whole;
            is = l.is;
            inside = l.inside;
            bounded = l.bounded;
            alts = b;
            place =
                record {
                  section = its_choice.rest.section;
                  m = its_choice.rest.m;
                  e = its_choice.rest.e;
                  fits = its_choice.rest.fits;
                  seqs = its_choice.rest.seqs;
                  size = its_choice.rest.size;
                  reads = rw (jumped.next ∙ v.next) its_choice.rest.reads;
                  few = its_choice.rest.few;
                };
            listed = sym rest;
            some_left = omega (arith, h);
            done = l.done ++ f ++ (jump z ∷ []);
            wrote = wrote_then (l.done ++ f) (jump z ∷ []) state room₀ r room' r r' room'' refl refl g jumped.wrote;
            goes =
                l.goes
                ∙ ap (λ (v : Alts). l.done ++ flat_alts v state.index target z now.n) a
                ∙ ap (λ (v : List Rec). l.done ++ v) (flat-or x b state.index target z now.n)
                ∙ rw (e, nn) (sym (append_assoc l.done (flat_seq x false state.index false (now.n + size x + 1) z now.n) (jump z ∷ flat_alts b state.index target z (now.n + size x + 1)))
                ∙ sym (append_assoc (l.done ++ flat_seq x false state.index false (now.n + size x + 1) z now.n) (jump z ∷ []) (flat_alts b state.index target z (now.n + size x + 1))));
            enough = omega (arith, l.enough, e₁, e₂, p₁, p₂, tt', ll);
            few = omega (arith, l.few, e₁, p₁, nn);
            small = omega (arith, l.small, ll);
          }

    -- the last
    pub tries_last : k ≡ 1 → (r : WriteState) (room' : Bytes) →
        SequenceWrote (flat_seq its_choice.first false state.index false target z now.n) choice_place.to (entered state from now) room r room' →
        CommandWrote cmd to components target state room₀ r room'
    tries_last h r room' v =
        let x : Seq = its_choice.first in
        let f : List Rec = flat_seq x false state.index false target z now.n in
        let (a, none) = last-alts l.alts x its_choice.rest.seqs (l.listed ∙ its_choice.seqs) (omega (arith, h, its_choice.rest.size)) in
        let ends : its_choice.inside.head.next + its_choice.inside.head.num ≡ to =
        no_others its_choice.rest.seqs none its_choice.rest.reads in
        let g : flat_cmd cmd state.index target state.n ≡ l.done ++ f =
        l.goes
        ∙ ap (λ (v : Alts). l.done ++ flat_alts v state.index target z now.n) a
        ∙ ap (λ (v : List Rec). l.done ++ v) (flat-last x state.index target z now.n) in
        holds_sequences cmd to components target state room₀ r room'
        (record {
          wrote = rw g (wrote_then l.done f state room₀ now room (entered state from now) r room' refl refl l.wrote v.wrote);
          next = v.next ∙ ends;
          index = v.index;
          coerce = v.coerce;
        }) l.inside (λ i. rw l.is) (λ c. rw l.is)
      where
        no_others : (list : List Seq) → list ≡ [] → Alternatives s (sequence_at s components its_choice.rest.section 1 depth) its_choice.rest.e
            list its_choice.rest.m (its_choice.inside.head.next + its_choice.inside.head.num) to →
            its_choice.inside.head.next + its_choice.inside.head.num ≡ to
        no_others [] e q = q
        no_others (y ∷ ys) e q = absurd (omega (arith, ap length e))
