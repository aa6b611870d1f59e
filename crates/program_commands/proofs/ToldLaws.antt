-- A record's command, by its code: what the program test read in its argument, and how long that is.
use Prim.Native.Nat.{ℕ, ◌+◌, ◌-◌}
use mathlib.Core.Path.{◌≡◌, refl, sym, ap, ◌∙◌}
use mathlib.Core.List.{List}
use mathlib.Core.Option.{Option, some}
use native.Mathlib.Omega.{arith}
use lib.ListN.{length}
use Rattle.rules.specs.Bytes.{Bytes, part, two_at}
use Rattle.rules.specs.Commands.{Op, vendor, class, image_match, set_index, abort, set_params, override_params, fetch, copy, run, swap, Params}
use Rattle.rules.specs.Commands.{Form, sixteen, nil, parameters, alternatives, sequence, Row, row_of, commands, vendor_code, class_code}
use Rattle.rules.specs.Commands.{image_match_code, set_index_code, abort_code, set_parameters_code, override_code, fetch_code, copy_code, run_code}
use Rattle.rules.specs.Limits.{limits}
use Rattle.rules.specs.ProgramFormat.{argument_from, record_size}
use Rattle.rules.proofs.BytesLaws.{length_part}
use Rattle.rules.proofs.TableLaws.{each_row, ◌&◌}
use Rattle.program_parameters.specs.Entries.{ParametersAt}
use Rattle.program_commands.specs.declared.CommandRecord.{CommandRecord}
use Rattle.program_commands.specs.Act.{ActJob, next_record}
use Rattle.program_arguments.proofs.FormLaws.{Reads, sixteen-is, nil_is, below-is, parameters-is, no_try, no_sub}

module _ (p : Bytes) (x : CommandRecord) (answers slots : Bytes) (memory : List ℕ) (j : ActJob p x answers slots memory) where
  abbrev from : ℕ
  from = x.at + record_size

  abbrev size : ℕ
  size = two_at p (x.at + argument_from)

  abbrev As : Form → Type 0
  As f = Reads j.components x.index (part p from size) j.op f

  length-is : length (part p from size) ≡ size
  length-is = length_part p from size j.room

  row_is : (r : Row) → row_of x.code commands ≡ some r → As r.form
  row_is r e = let f : ◌≡◌ {A = Option Row} (some j.row) (some r) = sym j.listed ∙ e in let s : j.row ≡ r = cc in rw s at j.reads

  -- the command is op, and the next record is at k
  abbrev Told : ℕ → Op → Type 0
  Told k op = (k ≡ next_record p x.at) × (j.op ≡ op)

  sixteen-told : (make : Bytes → Op) → As (sixteen make) → Told (from + limits.class) (make (part p from limits.class))
  sixteen-told make q =
      let (l, e) = sixteen-is j.components x.index _ j.op make q in
      let z : size ≡ limits.class = sym length-is ∙ l in
      (omega arith, e ∙ ap (λ (k : ℕ). make (part p from k)) z)

  nil-told : (make : Op) → As (nil make) → Told from make
  nil-told make q = let (l, e) = nil_is j.components x.index _ j.op make q in (omega (arith, length-is), e)

  pub vendor-told : x.code ≡ vendor_code → Told (from + limits.class) (vendor (part p from limits.class))
  vendor-told e = sixteen-told vendor (row_is _ (ap (λ (c : ℕ). row_of c commands) e))

  pub class-told : x.code ≡ class_code → Told (from + limits.class) (class (part p from limits.class))
  class-told e = sixteen-told class (row_is _ (ap (λ (c : ℕ). row_of c commands) e))

  pub match_told : x.code ≡ image_match_code → Told from image_match
  match_told e = nil-told image_match (row_is _ (ap (λ (c : ℕ). row_of c commands) e))

  pub index-told : x.code ≡ set_index_code → Told from (set_index x.index)
  index-told e =
      let (l, q) = below-is j.components x.index _ j.op set_index (row_is _ (ap (λ (c : ℕ). row_of c commands) e)) in
      (omega (arith, length-is), q)

  pub abort-told : x.code ≡ abort_code → Told from abort
  abort-told e = nil-told abort (row_is _ (ap (λ (c : ℕ). row_of c commands) e))

  pub fetch-told : x.code ≡ fetch_code → Told from fetch
  fetch-told e = nil-told fetch (row_is _ (ap (λ (c : ℕ). row_of c commands) e))

  pub copy_told : x.code ≡ copy_code → Told from copy
  copy_told e = nil-told copy (row_is _ (ap (λ (c : ℕ). row_of c commands) e))

  pub run-told : x.code ≡ run_code → Told from run
  run-told e = nil-told run (row_is _ (ap (λ (c : ℕ). row_of c commands) e))

  -- parameters, as they are taken
  module _ (make : Params → Op) (q : As (parameters make)) (to : ℕ) (et : to ≡ next_record p x.at) where
    abbrev pub params-here : ParametersAt p from to
    params-here =
        let (ps, e, _) = parameters-is j.components x.index _ j.op make q in
        let z : to - from ≡ size = omega arith in
        record { n = j.components; params = ps; lead = omega arith; up = omega arith; fits = omega (arith, j.room); reads = rw z e }

    pub params-told : j.op ≡ make params-here.params
    params-told = let (_, _, m) = parameters-is j.components x.index _ j.op make q in m

  pub set_told : x.code ≡ set_parameters_code → As (parameters set_params)
  set_told e = row_is _ (ap (λ (c : ℕ). row_of c commands) e)

  pub override_told : x.code ≡ override_code → As (parameters override_params)
  override_told e = row_is _ (ap (λ (c : ℕ). row_of c commands) e)

  none-try : {A : Type 0} → As alternatives → A
  none-try q = absurd (no_try j.components x.index _ j.op q)

  none-sub : {A : Type 0} → As sequence → A
  none-sub q = absurd (no_sub j.components x.index _ j.op q)

  -- a code that is none of the others is that of a swap
  abbrev Other : ℕ → Type 0
  Other c =
      (c ≡ vendor_code → ⊥) × (c ≡ class_code → ⊥) × (c ≡ image_match_code → ⊥) × (c ≡ set_index_code → ⊥) × (c ≡ abort_code → ⊥)
      × (c ≡ set_parameters_code → ⊥) × (c ≡ override_code → ⊥) × (c ≡ fetch_code → ⊥) × (c ≡ copy_code → ⊥) × (c ≡ run_code → ⊥)

  pub swap-told : Other x.code → Told from swap
  swap-told o =
      each_row (λ c r. As r.form → Other c → Told from swap) commands x.code j.row
      ((λ q o. absurd (o.0 refl))
      & (λ q o. absurd (o.1 refl))
      & (λ q o. absurd (o.2 refl))
      & (λ q o. absurd (o.3 refl))
      & (λ q o. absurd (o.4 refl))
      & (λ q _. none-try q)
      & (λ q o. absurd (o.5 refl))
      & (λ q o. absurd (o.6 refl))
      & (λ q o. absurd (o.7 refl))
      & (λ q o. absurd (o.8 refl))
      & (λ q o. absurd (o.9 refl))
      & (λ q _. none-sub q)
      & (λ q _. nil-told swap q)
      & tt)
      j.listed j.reads o
