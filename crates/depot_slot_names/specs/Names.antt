-- Slots by their identifiers.
use Rattle.std.specs.Prelude.{ℕ, ◌+◌, ◌/◌, List, cond, Option, Some, None, length}
use Rattle.rules.specs.Bytes.{Bytes, member, index_of}
use Rattle.rules.specs.Slots.{slot_bytes}
use Rattle.run_slot_search.specs.Search.{names_from}

-- the first slot from number k on that has the identifier; from 0 on it is the rule's `slot_of`
unfoldable pub slot_with : Bytes → Bytes → ℕ → ℕ
slot_with id b k = k + index_of id (names_from b k (length b / slot_bytes))

-- its number, if there is one
abbrev pub next_slot : Bytes → Bytes → ℕ → Option ℕ
next_slot id b k = cond (member id (names_from b k (length b / slot_bytes))) (Some (slot_with id b k)) None

-- the number of the first of the identifiers that is x, if there is one
abbrev pub found : Bytes → List Bytes → Option ℕ
found x ids = cond (member x ids) (Some (index_of x ids)) None
