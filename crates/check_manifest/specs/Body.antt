-- What the readers of a manifest hand back: of its start, of common, of the whole.
use Rattle.std.specs.Prelude.{ℕ, ◌*◌, ◌≡◌, List, length, replicate, Result}
use Rattle.rules.specs.declared.answers.Fault.{Fault}
use Rattle.rules.specs.Lent.{Lent, was, left}
use Rattle.rules.specs.Limits.{places, section_places}
use Rattle.rules.specs.Bytes.{Span}
use Rattle.rules.specs.Got.{Got, refused, got}
use Rattle.rules.specs.Manifest.{Section, count_all, Manifest}
use Rattle.check_manifest.specs.declared.Front.{Front}
use Rattle.check_manifest.specs.declared.Common.{Common}
use Rattle.check_manifest.specs.declared.Body.{Body}
use Rattle.cbor_reading.specs.declared.Reading.{Reading}
use Rattle.cbor_reading.specs.Reading.{result_of, view}
use Rattle.component_ids.specs.Identifiers.{laid}
use Rattle.check_manifest.specs.Sections.{placed}

abbrev pub front_of : Got ((ℕ × ℕ) × ℕ) → Result Front Fault
front_of = result_of (λ a. record { at = a.1; entries = a.0.0; number = a.0.1 })

-- of a list in a byte string: the place after it, and how many
abbrev pub list_reading : Got (List Span × Span) → Result Reading Fault
list_reading = view (λ a. a.1.to) (λ a. length a.0)

-- where a reading is accepted, the places of its identifiers stand in the array
abbrev pub Ids : {A P : Type 0} → (A → List Span) → Got (A × P) → List ℕ → List ℕ → Type 0
Ids f (refused r p) ids ids' = Unit {0}
Ids f (got a) ids ids' = ids' ≡ laid (f a.0) ids

-- the component list was read, and the places of its identifiers stand in the lent array
abbrev pub ListRead : Got (List Span × Span) → Lent → Result Reading Fault → Type 0
ListRead g ids r = (r ≡ list_reading g) × Ids (λ l. l) g (was ids) (left ids)

-- of common, whose commands weigh w each
abbrev pub common_of : ℕ → Got ((List Span × List Section) × Span) → Result Common Fault
common_of w = result_of (λ a. record { from = a.1.from; to = a.1.to; components = length a.0.0; commands = w * count_all a.0.1 })

-- of a manifest and the place after it
abbrev pub body : Manifest × ℕ → Body
body a =
    record {
      at = a.1;
      number = a.0.number;
      components = length a.0.ids;
      from = a.0.common.from;
      to = a.0.common.to;
      ids = laid a.0.ids (replicate places 0);
      sections = placed a.0.sections (replicate section_places 0);
    }

abbrev pub body_of : Got (Manifest × ℕ) → Result Body Fault
body_of = result_of body

-- where a reading is accepted, the places of its identifiers and sections stand in the arrays
abbrev pub Kept : {A P : Type 0} → (A → List Span) → (A → List Section) → Got (A × P) → List ℕ → List ℕ → List ℕ → List ℕ → Type 0
Kept f g (refused r p) ids ids' at at' = Unit {0}
Kept f g (got a) ids ids' at at' = (ids' ≡ laid (f a.0) ids) × (at' ≡ placed (g a.0) at)

-- common was read, and the places of its identifiers and of its sequence stand in the lent arrays
abbrev pub CommonRead : ℕ → Got ((List Span × List Section) × Span) → Lent → Lent → Result Common Fault → Type 0
CommonRead w g ids places r = (r ≡ common_of w g) × Kept (λ c. c.0) (λ c. c.1) g (was ids) (left ids) (was places) (left places)
