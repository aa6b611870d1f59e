-- The program as it is sized and written, by the rule.
use Prim.Native.Nat.{ℕ, zero, suc, ◌+◌, ◌-◌, ◌*◌, ◌≤◌, ◌<◌}
use mathlib.Core.Path.{◌≡◌, refl, ap, ◌∙◌}
use mathlib.Core.List.{List, [], ◌∷◌, ◌++◌, map, append_assoc}
use native.Mathlib.Omega.{arith}
use lib.ListN.{length, get_or, drop, replicate, length-append}
use lib.Seq.{sets-eq, length-sets}
use borrow.Author.Tests.{le-leb, lt-leb}
use Rattle.rules.specs.declared.answers.Group.{Group}
use Rattle.rules.specs.declared.answers.Refusal.{Refusal}
use Rattle.rules.specs.declared.answers.Refusal.TheVariants.{ShortRoom}
use Rattle.rules.specs.Limits.{limits, plan_sequences}
use Rattle.rules.specs.ProgramFormat.{start_size, record_size}
use Rattle.rules.specs.Bytes.{Bytes, put, flat, span_at, InBytes}
use Rattle.rules.specs.Tables.{by_number}
use Rattle.rules.specs.Got.{refused}
use Rattle.rules.specs.Manifest.{Seq}
use Rattle.rules.specs.Check.{check}
use Rattle.rules.specs.Run.{plan_of}
use Rattle.rules.specs.ProgramSize.{size_all, arg_size_all}
use Rattle.rules.specs.Program.{id_bytes, flat_all, program_of, program_bytes, translate}
use Rattle.rules_theorems.proofs.RoundTrip.{GoodIds, GoodProgram}
use Rattle.rules_theorems.proofs.FlatLaws.{well_formed_lem, program-size, length-all}
use Rattle.run_slot_search.specs.Search.{names_at}
use Rattle.run_slot_search.proofs.SearchLaws.{name-at, names-count}
use Rattle.manifest_accessors.specs.Accepted.{Accepted}
use Rattle.manifest_accessors.proofs.AcceptedLaws.{known, counted, envelope_short, few, inside, named}
use Rattle.manifest_plan.specs.Plan.{starts_of}
use Rattle.manifest_plan.specs.Standing.{Left}
use Rattle.manifest_plan.proofs.PlanLaws.{plan-left}
use Rattle.translate_size.specs.declared.sizes.Size.{Size}
use Rattle.std.specs.Prelude.{Ok, Err}
use Rattle.translate_size.specs.Size.{most}
use Rattle.translate_argument.specs.Argument.{Filled}
use Rattle.translate_record.specs.Record.{written}
use Rattle.translate_plan.specs.Plan.{PlanHere, PlanSized, PlanJob}
use Rattle.translate_start.specs.Start.{start_bytes}
use Rattle.translate.specs.Translate.{Translates}
use Rattle.rules.proofs.BytesLaws.{length_part}
use Rattle.rules.proofs.BytesLaws.{put-append}
use Rattle.translate_argument.proofs.FillLaws.{filled-length}

id-short : (ids : List Bytes) (k : ℕ) → GoodIds ids → k < length ids → length (get_or ids k []) ≤ limits.identifier
id-short [] k g h = absurd (omega arith)
id-short (x ∷ xs) zero g h = g.1
id-short (x ∷ xs) (suc k) g h = id-short xs k g.2 (omega arith)

start-length : (g : Group) (number n records : ℕ) → length (start_bytes g number n records) ≡ start_size
unfolding start_bytes
start-length g number n records = refl

-- what is put at the start of the room
put_front : (b room : Bytes) → length b ≤ length room → put room 0 b ≡ b ++ drop (length b) room
put_front b room h = let z : 0 + length b ≡ length b = omega arith in sets-eq b room 0 (omega arith) ∙ ap (λ (k : ℕ). b ++ drop k room) z

pub refused_translation : (s : Bytes) (group : Group) (k : Refusal) (p : ℕ) (room : Bytes) → check s ≡ refused k p → Translates (translate s group (length room)) (Err (record { refusal = k; at = p })) room room
unfolding translate
refused_translation s group k p room e = rw e (refl, refl, refl)

module _ (s : Bytes) (number n : ℕ) (ids sections : List ℕ) (a : Accepted s number n ids sections) where
  pub ids_near : InBytes ids n limits.envelope
  ids_near k h = let i = inside s number n ids sections a k h in (i.0, omega (arith, i.1, envelope_short s number n ids sections a))

  pub ids_short : (k : ℕ) → k < n → (span_at ids k).to - (span_at ids k).from < 256
  ids_short k h =
      let i = inside s number n ids sections a k h in
      let g : GoodIds (names_at s ids n) = rw (named s number n ids sections a) (known s number n ids sections a).ids in
      let l = id-short (names_at s ids n) k g (omega (arith, names-count s ids n)) in
      omega
      (arith, l, ap length (name-at s ids n k h), length_part s (span_at ids k).from ((span_at ids k).to - (span_at ids k).from) (omega (arith, i.0, i.1)))

module _ (s : Bytes) (number n : ℕ) (ids sections : List ℕ) (a : Accepted s number n ids sections) (group : Group) (table : List ℕ) (rows : table ≡ by_number)
    (starts : List ℕ) (sequences : ℕ) (puts : (starts ≡ put (replicate plan_sequences 0) 0 (starts_of group sections)) × (sequences ≡ 0 + length (starts_of group sections))) where
  abbrev plan : List Seq
  plan = plan_of group a.manifest

  abbrev program : Bytes
  program = program_bytes (program_of s group a.manifest)

  abbrev identifiers : Bytes
  identifiers = flat (map id_bytes (names_at s ids n))

  formed : GoodProgram (program_of s group a.manifest)
  formed = well_formed_lem s group a.manifest (known s number n ids sections a)

  program-is : length program ≡ start_size + length identifiers + record_size * size_all plan + arg_size_all plan
  program-is =
      omega (
        arith,
        ap (λ (l : List Bytes). length (flat (map id_bytes l))) (named s number n ids sections a),
        program-size s group a.manifest (known s number n ids sections a),
      )

  plan-few : size_all plan ≤ limits.records
  unfolding program_of
  plan-few = omega (arith, formed.few, length-all plan 0)

  pub plan-small : size_all plan + arg_size_all plan ≤ most
  plan-small = omega (arith, program-is, formed.short)

  pub stands : Left s n starts sequences 0 0 plan
  stands = plan-left s number n ids sections a group (replicate plan_sequences 0) starts sequences refl puts

  abbrev pub here : PlanHere s table starts sequences
  here = record { rows = rows; n = n; plan = plan; left = stands; small = plan-small }

  module _ (size : Size) (sized : (j : PlanHere s table starts sequences) → PlanSized j.plan size) (width : ℕ)
      (wide : (t : Bytes) → InBytes ids n (length t) → width ≡ length (flat (map id_bytes (names_at t ids n)))) where
    abbrev total : ℕ
    total = start_size + width + record_size * size.records + size.arguments

    widths : width ≡ length identifiers
    widths = wide s (inside s number n ids sections a)

    total-is : total ≡ length program
    total-is = omega (arith, widths, (sized here).records, (sized here).arguments, program-is)

    pub total-small : total ≤ limits.program
    total-small = omega (arith, total-is, formed.short)

    pub too_short : (room : Bytes) → length room < total → Translates (translate s group (length room)) (Err (record { refusal = ShortRoom; at = 0 })) room room
    unfolding translate
    too_short room h =
        let l : length room < length program = omega (arith, total-is) in
        rw (a.checks, lt-leb (length program) (length room) l) (refl, refl, refl)

    module _ (room : Bytes) (enough : total ≤ length room) (room₁ : Bytes) (first : room₁ ≡ put room 0 (start_bytes group number n size.records)) where
      same_size : length room₁ ≡ length room
      same_size = ap length first ∙ length-sets room 0 (start_bytes group number n size.records)

      pub names-fit : start_size + length identifiers ≤ length room₁
      names-fit = omega (arith, same_size, widths, enough)

      module _ (at : ℕ) (room₂ : Bytes) (second : Filled identifiers start_size room₁ at room₂) where
        pub job : length room ≤ most → PlanJob s table starts sequences at room₂
        job small =
            let same : length room₂ ≡ length room = filled-length identifiers start_size room₁ at room₂ second ∙ same_size in
            record {
              here = here;
              some = omega (arith, counted s number n ids sections a, (known s number n ids sections a).some-ids);
              components = few s number n ids sections a;
              few = plan-few;
              enough = omega (arith, second.next, widths, enough, same, (sized here).records, (sized here).arguments);
              small = omega (arith, small, same);
            }

        module _ (small : length room ≤ most) (room₃ : Bytes)
            (writes : (j : PlanJob s table starts sequences at room₂) → room₃ ≡ put room₂ at (written (flat_all j.here.plan 0))) where
          third : room₃ ≡ put room₂ at (written (flat_all plan 0))
          unfolding job
          third = writes (job small)

          parts : program ≡ start_bytes group number n size.records ++ (identifiers ++ written (flat_all plan 0))
          unfolding program_bytes program_of start_bytes written
          parts =
              rw (← a.numbered, ← named s number n ids sections a, names-count s ids n, length-all plan 0, ← (sized here).records)

          all : room₃ ≡ put room 0 program
          all =
              let l : start_size ≡ 0 + length (start_bytes group number n size.records) = omega (arith, start-length group number n size.records) in
              let e : put room₁ start_size identifiers ≡ put room 0 (start_bytes group number n size.records ++ identifiers) =
              rw (first, l) (put-append room 0 (start_bytes group number n size.records) identifiers) in
              let f : at ≡ 0 + length (start_bytes group number n size.records ++ identifiers) =
              omega (arith, second.next, length-append (start_bytes group number n size.records) identifiers, start-length group number n size.records) in
              third ∙ rw (
                second.filled,
                e,
                f,
                put-append room 0 (start_bytes group number n size.records ++ identifiers) (written (flat_all plan 0)),
                append_assoc (start_bytes group number n size.records) identifiers (written (flat_all plan 0)),
                ← parts,
              )

          pub translated : Translates (translate s group (length room)) (Ok total) room room₃
          unfolding translate
          translated =
              let l : length program ≤ length room = omega (arith, total-is) in
              rw (a.checks, le-leb (length program) (length room) l) (ap Ok total-is, all ∙ put_front program room l, ap (λ (n : ℕ). (0, n)) total-is)
