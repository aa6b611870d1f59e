-- The records of the identifiers, written one after the other.
use Rattle.std.specs.Prelude.{ℕ, ◌+◌, ◌-◌, ◌≤◌, ◌<◌, List, map, length}
use Rattle.rules.specs.Bytes.{Bytes, flat, span_at, InBytes}
use Rattle.rules.specs.Limits.{limits}
use Rattle.rules.specs.Program.{id_bytes}
use Rattle.run_slot_search.specs.Search.{names_at}

-- those of the n identifiers at the places `ids` of s
abbrev pub name_records : Bytes → List ℕ → ℕ → Bytes
name_records s ids n = flat (map id_bytes (names_at s ids n))

-- the identifiers lie in s, the length of each fits in a byte, and from `at` on there is room for their records
abbrev pub NamesFit : Bytes → List ℕ → ℕ → Bytes → ℕ → Type 0
NamesFit s ids n room at =
    (n ≤ limits.components) × InBytes ids n (length s)
    × ((k : ℕ) → k < n → (span_at ids k).to - (span_at ids k).from < 256)
    × (at + length (name_records s ids n) ≤ length room)
