-- The places of sections, as check keeps them in an array.
use Rattle.std.specs.Prelude.{ℕ, ◌+◌, ◌*◌, ◌≡◌, List, [], ◌∷◌, set, Result}
use Rattle.rules.specs.declared.answers.Fault.{Fault}
use Rattle.rules.specs.Lent.{Lent, was, left}
use Rattle.rules.specs.Commands.{section_no}
use Rattle.rules.specs.Got.{Got, refused, got}
use Rattle.rules.specs.Manifest.{Section}
use Rattle.cbor_reading.specs.declared.Reading.{Reading}
use Rattle.cbor_reading.specs.Reading.{reading}

-- the places of a section stand at its number
abbrev pub placed_one : Section → List ℕ → List ℕ
placed_one x a = set (set a (2 * section_no x.key) x.place.from) (2 * section_no x.key + 1) x.place.to

abbrev pub placed : List Section → List ℕ → List ℕ
placed [] a = a
placed (x ∷ xs) a = placed xs (placed_one x a)

-- where a reading is accepted, the places of its sections stand in the array
abbrev pub Placed : {A : Type 0} → (A → List Section) → Got (A × ℕ) → List ℕ → List ℕ → Type 0
Placed f (refused r p) before after = Unit {0}
Placed f (got a) before after = after ≡ placed (f a.0) before

-- a section was read, and sections: the answer has what commands weigh with theirs, and the lent array has their places
abbrev pub SectionRead : (Section → ℕ) → Got (Section × ℕ) → Lent → Result Reading Fault → Type 0
SectionRead commands g places r = (r ≡ reading commands g) × Placed (λ x. x ∷ []) g (was places) (left places)

abbrev pub SectionsRead : (List Section → ℕ) → Got (List Section × ℕ) → Lent → Result Reading Fault → Type 0
SectionsRead commands g places r = (r ≡ reading commands g) × Placed (λ xs. xs) g (was places) (left places)
