-- The identifiers of a program's components, by the places of its bytes.
use Rattle.std.specs.Prelude.{ℕ, zero, suc, ◌+◌, ◌*◌, ◌≡◌, List, Option, Some, None, length, drop, replicate, set}
use Rattle.rules.specs.Bytes.{Bytes, InBytes}
use Rattle.rules.specs.Got.{Got, refused, got}
use Rattle.rules.specs.Limits.{places}
use Rattle.rules.specs.ProgramFormat.{name_size}
use Rattle.rules.specs.ProgramTest.{ids_in}
use Rattle.run_slot_search.specs.Search.{names_at}
use Rattle.program_parameters.specs.Entries.{next_in}

-- 'Per component: mark, FD, length 1, identifier': the place after the one at `at`, none if it is not well formed
abbrev pub name_end : Bytes → ℕ → Option ℕ
name_end p at = next_in (length p) (ids_in 1 (drop at p))

-- the array a with the places of n identifiers, up to the first that is not well formed; number k stands at `at`
unfoldable pub places_from : Bytes → ℕ → ℕ → ℕ → List ℕ → List ℕ
places_from p zero k at a = a
places_from p (suc n) k at a =
    elim (name_end p at) [
      | None ↦ a
      | Some next ↦ places_from p n (k + 1) next (set (set a (2 * k) (at + name_size)) (2 * k + 1) next)
    ]

-- n identifiers from `at` on: the array has their places; where all are well formed, these are the identifiers
abbrev pub NamesAre : Bytes → ℕ → ℕ → Got (List Bytes × Bytes) → List ℕ → Type 0
NamesAre p at n (refused r q) ids = ids ≡ places_from p n 0 at (replicate places 0)
NamesAre p at n (got a) ids =
    (ids ≡ places_from p n 0 at (replicate places 0))
    × (names_at p ids n ≡ a.0)
    × InBytes ids n (length p)
