-- A slot or an answer whose line is good is told to be one too many: no test of its own line fails.
use Prim.Native.Nat.{ℕ}
use mathlib.Core.Path.{◌≡◌, refl}
use mathlib.Core.Bool.{Bool, true, false, cond, false≢true}
use lib.Dec.{eqb, leb}
use lib.ListN.{length}
use Rattle.rules.specs.Bytes.{Bytes, same}
use Rattle.rules.specs.Limits.{limits}
use Rattle.text.specs.Text.{ascii}
use Rattle.device_text.specs.Words.{word, rest, is_number, is_bytes, up_to_bytes}
use Rattle.device_slots.specs.SlotText.{is_image, is_state, is_slot, status, largest_status, is_answer}
use Rattle.device_description.specs.Scenario.{most_slots, most_answers}
use Rattle.device_faults.specs.Faults.{too_many, image_fault, state_fault, slot_fault, answer_fault}

-- a test that passes, and what is told where the tests behind it pass
passes : (b x : Bool) (s f g : Bytes) → cond b x false ≡ true → (x ≡ true → s ≡ g) → cond b s f ≡ g
passes true x s f g h k = k h
passes false x s f g h k = absurd (false≢true h)

last : (b : Bool) (g f : Bytes) → b ≡ true → cond b g f ≡ g
last b g f h = rw h

image-good : (name : Bytes) (most : ℕ) (t : Bytes) → is_image t ≡ true → image_fault name most t ≡ too_many most name
unfolding is_image image_fault
image-good name most t h = passes (is_number (word t)) _ _ _ _ h (λ p. last (is_bytes limits.digest (rest t)) _ _ p)

state-good : (w t : Bytes) → is_state w t ≡ true → state_fault w t ≡ too_many most_slots (ascii "slot")
unfolding is_state state_fault
state-good w t h = go (same w (ascii "present")) (same w (ascii "absent")) (eqb (length t) 0) h
  where
    go : (x y z : Bool) → cond x (is_image t) (cond y (cond z true (is_image t)) false) ≡ true →
        cond x (image_fault (ascii "slot") most_slots t)
        (cond y (cond z (too_many most_slots (ascii "slot")) (image_fault (ascii "slot") most_slots t)) (ascii "slot: neither present nor absent"))
        ≡ too_many most_slots (ascii "slot")
    go true y z k = image-good (ascii "slot") most_slots t k
    go false true true k = refl
    go false true false k = image-good (ascii "slot") most_slots t k
    go false false z k = absurd (false≢true k)

pub slot-good : (t : Bytes) → is_slot t ≡ true → slot_fault t ≡ too_many most_slots (ascii "slot")
unfolding is_slot slot_fault
slot-good t h =
    passes (up_to_bytes limits.identifier (word t)) _ _ _ _ h (λ p. passes (is_number (word (rest t))) _ _ _ _ p (λ q. state-good _ _ q))

pub answer-good : (t : Bytes) → is_answer t ≡ true → answer_fault t ≡ too_many most_answers (ascii "answer")
unfolding is_answer answer_fault
answer-good t h = passes (leb (status (word t)) largest_status) _ _ _ _ h (λ p. image-good (ascii "answer") most_answers (rest t) p)
