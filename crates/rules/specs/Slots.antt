-- Slots and host answers as lent bytes (01, How a run goes): '1 to 8 slots (identifier as encoded, capacity, present, size, digest)', 'host
-- answers of 37 bytes (status, size in 4, digest; status 0 is good)'. The layout of a slot is ours (docs/DECISIONS.md, 4 and 5).
--
-- A slot, 74 bytes:  0 identifier's length   1 identifier, as many of 32 bytes as that   33 capacity (4)
--                   37 present, 0 for no    38 size (4)    42 digest (32)
-- An answer, 37:     0 status, 0 for good    1 size (4)     5 digest (32)
-- The last 37 bytes of a slot are its image, laid out as an answer is.
use Rattle.std.specs.Prelude.{◌+◌, ◌*◌, ◌/◌, ◌%◌, ◌∷◌, ◌&&◌, ◌||◌}
use Rattle.rules.specs.Base.{ℕ, zero, suc, List, [], map, Bool, true, not, leb, eqb, length, get_or, take}
use Rattle.rules.specs.Limits.{limits}
use Rattle.rules.specs.Bytes.{Bytes, part, num, put, index_of, repeats}

-- an answer, and an image: where size and digest start
abbrev pub size_from : ℕ
size_from = 1

abbrev pub digest_from : ℕ
digest_from = size_from + 4

abbrev pub answer_bytes : ℕ
answer_bytes = digest_from + limits.digest

-- a slot: where identifier, capacity and image start
abbrev pub id_from : ℕ
id_from = 1

abbrev pub capacity_from : ℕ
capacity_from = id_from + limits.identifier

abbrev pub image_from : ℕ
image_from = capacity_from + 4

abbrev pub slot_bytes : ℕ
slot_bytes = image_from + answer_bytes

pub record Slot : Type 0 where
  pub id_length : ℕ
  pub id : Bytes
  pub capacity : ℕ
  pub present : Bool
  pub size : ℕ
  pub digest : Bytes

-- the slot of number k, and its image
unfoldable pub slot_at : Bytes → ℕ → Slot
slot_at b k =
    let at = slot_bytes * k in
    record {
      id_length = get_or b at 0;
      id = take (get_or b at 0) (part b (at + id_from) limits.identifier);
      capacity = num (part b (at + capacity_from) 4);
      present = not (eqb (get_or b (at + image_from) 0) 0);
      size = num (part b (at + (image_from + size_from)) 4);
      digest = part b (at + (image_from + digest_from)) limits.digest;
    }

unfoldable pub image_at : Bytes → ℕ → Bytes
image_at b k = part b (slot_bytes * k + image_from) answer_bytes

-- the image x in the slot of number k
unfoldable pub put_image : Bytes → ℕ → Bytes → Bytes
put_image b k x = put b (slot_bytes * k + image_from) x

-- n numbers from k on
abbrev pub numbers : ℕ → ℕ → List ℕ
numbers zero k = []
numbers (suc n) k = k ∷ numbers n (suc k)

unfoldable pub slots_in : Bytes → List Slot
slots_in b = map (slot_at b) (numbers (length b / slot_bytes) 0)

abbrev pub slot_names : Bytes → List Bytes
slot_names b = map (λ x. x.id) (slots_in b)

-- the number of the slot with that identifier: 'Slots are found by identifier, never by position'
unfoldable pub slot_of : Bytes → Bytes → ℕ
slot_of id b = index_of id (slot_names b)

-- 85: 'identifier not 1 to 32 bytes', 'present size over capacity'
abbrev pub good_slot : Slot → Bool
good_slot x =
    leb 1 x.id_length && leb x.id_length limits.identifier && (not x.present || leb x.size x.capacity)

abbrev pub all_good : List Slot → Bool
all_good [] = true
all_good (x ∷ xs) = good_slot x && all_good xs

-- 85: 'slot count not 1 to 8', identifier 'twice'; and bytes that are no whole number of slots
unfoldable pub good_slots : Bytes → Bool
good_slots b =
    eqb (length b % slot_bytes) 0 && leb 1 (length b / slot_bytes) && leb (length b / slot_bytes) limits.slots
    && all_good (slots_in b) && not (repeats (slot_names b))
