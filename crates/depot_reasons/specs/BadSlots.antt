-- 85: what is wrong with the slots, in the order of the rule's `good_slots`.
use Rattle.std.specs.Prelude.{ℕ, ◌+◌, ◌*◌, ◌/◌, ◌%◌, Bool, cond, not, [], ◌++◌, eqb, ltb, length, get_or, None, Some}
use Rattle.rules.specs.Limits.{limits}
use Rattle.rules.specs.Slots.{slot_bytes, slot_at, good_slot}
use Rattle.text.specs.Text.{Bytes, ascii}
use Rattle.text_pieces.specs.Pieces.{labelled}
use Rattle.depot_identifiers.specs.Identifier.{identifier_text}
use Rattle.depot_slot_names.specs.Names.{slot_with}
use Rattle.depot_reasons.specs.First.{first}

abbrev pub is_bad : Bytes → ℕ → Bool
is_bad b k = not (good_slot (slot_at b k))

-- the first slot after number i that has its identifier
abbrev pub twin_of : Bytes → ℕ → ℕ
twin_of b i = slot_with (slot_at b i).id b (i + 1)

-- slot i with its twin
abbrev pub with_twin : Bytes → ℕ → ℕ × ℕ
with_twin b i = (i, twin_of b i)

abbrev pub is_twice : Bytes → ℕ → ℕ → Bool
is_twice b n i = ltb (twin_of b i) n

unfoldable pub ragged_text : ℕ → Bytes
ragged_text bytes = labelled (ascii "  the slots have ") bytes ++ ascii " bytes, no whole number of slots\n"

unfoldable pub too_many_text : ℕ → Bytes
too_many_text n = labelled (ascii "  there are ") n ++ labelled (ascii " slots, at most ") limits.slots ++ ascii "\n"

unfoldable pub length_text : ℕ → Bytes
length_text n = labelled (ascii ": its identifier has ") n ++ labelled (ascii " bytes, not 1 to ") limits.identifier ++ ascii "\n"

unfoldable pub sizes_text : Bytes → ℕ → Bytes
sizes_text b k = labelled (ascii ": its size is ") (slot_at b k).size ++ labelled (ascii ", its capacity ") (slot_at b k).capacity ++ ascii "\n"

-- the slot of number k, which is not good
unfoldable pub bad_text : Bytes → ℕ → Bytes
bad_text b k =
    let n = get_or b (slot_bytes * k) 0 in
    labelled (ascii "  slot ") k ++ cond (ltb n 1) (length_text n) (cond (ltb limits.identifier n) (length_text n) (sizes_text b k))

-- slot k has the identifier of slot i
unfoldable pub twice_text : Bytes → ℕ → ℕ → Bytes
twice_text b i k =
    labelled (ascii "  slot ") k ++ labelled (ascii " has the identifier of slot ") i ++ ascii ": " ++ identifier_text (slot_at b i).id ++ ascii "\n"

-- of n slots
unfoldable pub among_text : Bytes → ℕ → Bytes
among_text b n =
    elim (first (is_bad b) n 0) [
      | Some k ↦ bad_text b k
      | None ↦ elim (first (is_twice b n) n 0) [ Some i ↦ twice_text b i (twin_of b i) | None ↦ [] ]
    ]

unfoldable pub bad_slots_text : Bytes → Bytes
bad_slots_text b =
    cond (eqb (length b % slot_bytes) 0)
    (cond (ltb (length b / slot_bytes) 1) (ascii "  there are no slots\n")
    (cond (ltb limits.slots (length b / slot_bytes)) (too_many_text (length b / slot_bytes)) (among_text b (length b / slot_bytes))))
    (ragged_text (length b))
