-- The images in the slots before an event: where each comes from, and its bytes.
use Rattle.std.specs.Prelude.{ℕ, zero, suc, ◌-◌, ◌*◌, ◌/◌, Bool, true, false, cond, [], eqb, ltb, leb, length, get_or, drop}
use Rattle.rules.specs.declared.answers.End.TheVariants.{Finished}
use Rattle.rules.specs.Answers.{result_number}
use Rattle.rules.specs.Bytes.{Bytes, part}
use Rattle.rules.specs.Commands.{copy_code, swap_code, source_key}
use Rattle.rules.specs.Limits.{limits}
use Rattle.rules.specs.ProgramFormat.{start_size, length_from, name_size}
use Rattle.rules.specs.Slots.{slot_bytes, answer_bytes, slot_at, image_at, slot_of, good_slots}
use Rattle.depot_listing.specs.Listing.{component_size, after_components}
use Rattle.depot_matches.specs.declared.events.Event.{Event}
use Rattle.depot_matches.specs.declared.images.ImageOrigin.{ImageOrigin}
use Rattle.depot_matches.specs.declared.images.ImageOrigin.TheVariants.{Slot, Answer}
use Rattle.depot_matches.specs.Events.{event_at, is_of, is_fetch, fetches_before}
use Rattle.depot_matches.specs.Values.{value_before}

-- the source of the command of event i, a component
unfoldable pub source_at : Bytes → Bytes → ℕ → ℕ
source_at p t i = get_or (value_before p t source_key (event_at t i).component i) 0 0

-- a copy or a swap that was done
abbrev pub moves : Event → Bool
moves e = cond (is_of copy_code (result_number Finished) e) true (is_of swap_code (result_number Finished) e)

-- the component whose image before event i is component c's after it
unfoldable pub came_from : Bytes → Bytes → ℕ → ℕ → ℕ
came_from p t i c =
    cond (moves (event_at t i))
    (cond (eqb (event_at t i).component c) (source_at p t i)
    (cond (eqb (event_at t i).code copy_code) c (cond (eqb (source_at p t i) c) (event_at t i).component c))) c

-- the event is a fetch for component c that was done
abbrev pub fetched_by : Event → ℕ → Bool
fetched_by e c = cond (eqb e.component c) (is_fetch e) false

-- the slot of component c before the run; a number past the components, which no run writes, stands for an answer of the host
abbrev pub origin_of : ℕ → ImageOrigin
origin_of c = cond (ltb c limits.components) (Slot c) (Answer (c - limits.components))

-- where component c's image before event i comes from: the component in whose slot it was before the run, or an answer of the host
unfoldable pub origin : Bytes → Bytes → ℕ → ℕ → ImageOrigin
origin p t c zero = origin_of c
origin p t c (suc i) = cond (fetched_by (event_at t i) c) (Answer (fetches_before t i)) (origin p t (came_from p t i c) i)

-- the identifier of component c; nothing, if it is missing
unfoldable pub name_of : Bytes → ℕ → Bytes
name_of p c =
    let s = after_components c (drop start_size p) in
    cond (ltb (length p) start_size) [] (cond (eqb (component_size s) 0) [] (part s name_size (get_or s length_from 0)))

-- the image in the slot of number k; nothing, if there is none or it is absent
unfoldable pub present_image : Bytes → ℕ → Bytes
present_image slots k =
    cond (leb (length slots / slot_bytes) k) [] (cond (slot_at slots k).present (image_at slots k) [])

-- the image in component c's slot, found as a run finds it
unfoldable pub lent_image : Bytes → Bytes → ℕ → Bytes
lent_image p slots c = cond (good_slots slots) (present_image slots (slot_of (name_of p c) slots)) []

-- the answer of number k, laid out as an image
unfoldable pub answer_image : Bytes → ℕ → Bytes
answer_image answers k = cond (leb (length answers / answer_bytes) k) [] (part answers (answer_bytes * k) answer_bytes)
