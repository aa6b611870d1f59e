-- The sequences of a plan, as their sizes are added up and their records are written.
use Prim.Native.Nat.{ℕ, ◌+◌, ◌*◌, ◌≤◌, ◌<◌}
use mathlib.Core.Path.{◌≡◌, refl, sym, ap, ◌∙◌}
use mathlib.Core.List.{List, [], ◌∷◌, ◌++◌, append_assoc, append-nil}
use mathlib.Core.Bool.{false}
use native.Mathlib.Omega.{arith}
use lib.ListN.{length, get_or, take}
use lib.Seq.{get_or-take, length-take-le}
use Rattle.rules.specs.Bytes.{Bytes, put}
use Rattle.rules.specs.Limits.{limits}
use Rattle.rules.specs.Manifest.{Seq, count}
use Rattle.rules.specs.Program.{Rec, size, flat_seq, flat_all}
use Rattle.rules.specs.ProgramFormat.{NONE, record_size}
use Rattle.rules.specs.ProgramSize.{arg_size, size_all, arg_size_all}
use Rattle.rules_theorems.proofs.RunLaws.{length-seq}
use Rattle.manifest_accessors.specs.Arguments.{coerce_false}
use Rattle.manifest_accessors.specs.Places.{SequenceAt}
use Rattle.manifest_plan.specs.Standing.{Left}
use Rattle.manifest_plan.proofs.PlanLaws.{First, plan-first, plan-ends, sequence-at}
use Rattle.translate_size.specs.declared.sizes.Size.{Size}
use Rattle.translate_record.specs.declared.record.WriteState.{WriteState}
use Rattle.translate_size.specs.Size.{most, SequenceHere, SequenceSized}
use Rattle.translate_record.specs.Record.{written, Wrote}
use Rattle.translate_sequence.specs.Write.{SequenceJob, SequenceWrote}
use Rattle.translate_plan.specs.Plan.{PlanHere, PlanSized, PlanJob}
use Rattle.translate_sequence.proofs.WriteLaws.{bytes-seq, wrote_none, wrote_then, same-room}

size-first : (a : Seq) (xs : List Seq) → (size_all (a ∷ xs) ≡ size a + size_all xs) × (arg_size_all (a ∷ xs) ≡ arg_size a + arg_size_all xs)
unfolding size_all arg_size_all
size-first a xs = (refl, refl)

size_none : (size_all [] ≡ 0) × (arg_size_all [] ≡ 0)
unfolding size_all arg_size_all
size_none = (refl, refl)

flat-first : (a : Seq) (xs : List Seq) (n : ℕ) → flat_all (a ∷ xs) n ≡ flat_seq a false 0 false NONE 0 n ++ flat_all xs (n + size a)
unfolding flat_all
flat-first a xs n = refl

flat-none : (n : ℕ) → flat_all [] n ≡ []
unfolding flat_all
flat-none n = refl

-- start k of those that are walked
pub walked : (starts : List ℕ) (total k : ℕ) → total ≤ length starts → k < length (take total starts) →
    (k < total) × (get_or (take total starts) k 0 ≡ get_or starts k 0)
walked starts total k h l =
    let m : k < total = omega (arith, length-take-le total starts h) in
    (m, get_or-take total starts k 0 m)

module _ (s : Bytes) (table starts : List ℕ) (total : ℕ) (h : PlanHere s table starts total) where
  -- the sequences that are left, from number k on
  pub record From (k : ℕ) : Type 0 where
    pub commands : ℕ
    pub rest : List Seq
    pub left : Left s h.n starts total k commands rest

  abbrev from_start : From 0
  from_start = record { commands = 0; rest = h.plan; left = h.left }

  module _ (k : ℕ) (z : From k) where
    ended : total ≤ k → z.rest ≡ []
    ended l = plan-ends s h.n starts total k z.commands z.rest z.left l

    module _ (l : k < total) where
      abbrev first : First s h.n starts total k z.commands z.rest
      first = plan-first s h.n starts total k z.commands z.rest z.left l

      abbrev from_next : From (k + 1)
      from_next = record { commands = z.commands + count first.seq; rest = first.others; left = first.left }

      abbrev place : SequenceAt s h.n limits.depth 0 (get_or starts k 0)
      place = sequence-at s h.n starts total k z.commands z.rest z.left first 0 (omega arith)

      first-size : (size_all z.rest ≡ size first.seq + size_all first.others) × (arg_size_all z.rest ≡ arg_size first.seq + arg_size_all first.others)
      first-size =
          let f = size-first first.seq first.others in
          (ap size_all first.all ∙ f.0, ap arg_size_all first.all ∙ f.1)

  -- what is counted and the sequences that are left make the whole
  pub record Sizing (k : ℕ) (now : Size) : Type 0 where
    pub at : From k
    pub records : now.records + size_all at.rest ≡ size_all h.plan
    pub arguments : now.arguments + arg_size_all at.rest ≡ arg_size_all h.plan
    pub next : now.next ≡ 0

  pub sizing_starts : Sizing 0 (record { next = 0; records = 0; arguments = 0 })
  sizing_starts = record { at = from_start; records = omega arith; arguments = omega arith; next = refl }

  pub sizing_done : (k : ℕ) (now : Size) → Sizing k now → total ≤ k → PlanSized h.plan now
  sizing_done k now z l =
      let e = ended k z.at l in
      record {
        records = omega (arith, z.records, ap size_all e, size_none.0);
        arguments = omega (arith, z.arguments, ap arg_size_all e, size_none.1);
        next = z.next;
      }

  module _ (k : ℕ) (now : Size) (z : Sizing k now) (l : k < total) where
    pub sizing_job : SequenceHere s table limits.depth (get_or starts k 0)
    sizing_job =
        let f = first-size k z.at l in
        record { rows = h.rows; n = h.n; place = place k z.at l; small = omega (arith, h.small, z.records, z.arguments, f.0, f.1) }

    module _ (r : Size) (sized : (j : SequenceHere s table limits.depth (get_or starts k 0)) → SequenceSized j.place.seq j.place.to r) where
      pub sizing_on : Sizing (k + 1) (record { next = 0; records = now.records + r.records; arguments = now.arguments + r.arguments })
      unfolding sizing_job
      sizing_on =
          let y = sized sizing_job in
          let f = first-size k z.at l in
          record {
            at = from_next k z.at l;
            records = omega (arith, y.records, z.records, f.0);
            arguments = omega (arith, y.arguments, z.arguments, f.1);
            next = refl;
          }

      pub sizing_adds : (now.records + r.records ≤ most) × (now.arguments + r.arguments ≤ most)
      sizing_adds = (omega (arith, sizing_on.records, h.small), omega (arith, sizing_on.arguments, h.small))

-- the state at the start of the sequence at `from`, n records and the room up to `to` being written
abbrev pub start_of : ℕ → ℕ → ℕ → WriteState
start_of from n to = record { next = from; index = 0; coerce = coerce_false; n = n; to = to }

module _ (s : Bytes) (table starts : List ℕ) (total to : ℕ) (room₀ : Bytes) (j : PlanJob s table starts total to room₀) where
  abbrev plan : List Seq
  plan = j.here.plan

  -- what is written and the sequences that are left make the whole
  pub record Writing (room : Bytes) (n at k : ℕ) : Type 0 where
    pub from : From s table starts total j.here k
    pub done : List Rec
    pub wrote : Wrote done (start_of 0 0 to) room₀ (start_of 0 n at) room
    pub goes : flat_all plan 0 ≡ done ++ flat_all from.rest n
    pub enough : at + record_size * size_all from.rest + arg_size_all from.rest ≤ length room
    pub few : n + size_all from.rest ≤ limits.records
    pub small : length room ≤ most

  pub writing_starts : Writing room₀ 0 to 0
  writing_starts =
      record {
        from = from_start s table starts total j.here;
        done = [];
        wrote = wrote_none (start_of 0 0 to) (start_of 0 0 to) room₀ refl refl;
        goes = refl;
        enough = j.enough;
        few = omega (arith, j.few);
        small = j.small;
      }

  module _ (room : Bytes) (n at k : ℕ) (z : Writing room n at k) where
    pub writing_done : total ≤ k → room ≡ put room₀ to (written (flat_all plan 0))
    writing_done l =
        let e = ended s table starts total j.here k z.from l in
        let f : flat_all plan 0 ≡ z.done =
        z.goes ∙ ap (λ (x : List Seq). z.done ++ flat_all x n) e ∙ ap (λ (x : List Rec). z.done ++ x) (flat-none n) ∙ append-nil z.done in
        z.wrote.filled ∙ ap (λ (x : List Rec). put room₀ to (written x)) (sym f)

    module _ (l : k < total) where
      abbrev start : WriteState
      start = start_of (get_or starts k 0) n at

      pub writing_job : SequenceJob s table limits.depth start room
      writing_job =
          let f = first-size s table starts total j.here k z.from l in
          record {
            rows = j.here.rows;
            n = j.here.n;
            place = place s table starts total j.here k z.from l;
            inside = j.some;
            components = j.components;
            enough = omega (arith, z.enough, f.0, f.1);
            few = omega (arith, z.few, f.0);
            small = z.small;
          }

      module _ (r : WriteState) (room' : Bytes)
          (writes : (i : SequenceJob s table limits.depth start room) → SequenceWrote (flat_seq i.place.seq false 0 false NONE 0 n) i.place.to start room r room') where
        pub writing_on : Writing room' r.n r.to (k + 1)
        unfolding writing_job
        writing_on =
            let q = first s table starts total j.here k z.from l in
            let f : List Rec = flat_seq q.seq false 0 false NONE 0 n in
            let y : Wrote f start room r room' = (writes writing_job).wrote in
            let w = wrote_then z.done f (start_of 0 0 to) room₀ (start_of 0 n at) room start r room' refl refl z.wrote y in
            let sizes = first-size s table starts total j.here k z.from l in
            let same = same-room f start room r room' y in
            let more : r.n ≡ n + size q.seq = omega (arith, y.n, length-seq q.seq false 0 false NONE 0 n) in
            let on : r.to ≡ at + record_size * size q.seq + arg_size q.seq = omega (arith, y.to, bytes-seq q.seq false 0 false NONE 0 n) in
            record {
              from = from_next s table starts total j.here k z.from l;
              done = z.done ++ f;
              wrote = record { filled = w.filled; to = w.to; n = w.n };
              goes =
                  z.goes
                  ∙ ap (λ (x : List Seq). z.done ++ flat_all x n) q.all
                  ∙ ap (λ (x : List Rec). z.done ++ x) (flat-first q.seq q.others n)
                  ∙ sym (append_assoc z.done f _)
                  ∙ ap (λ (x : ℕ). z.done ++ f ++ flat_all q.others x) (sym more);
              enough = omega (arith, z.enough, sizes.0, sizes.1, same);
              few = omega (arith, z.few, sizes.0);
              small = omega (arith, z.small, same);
            }
