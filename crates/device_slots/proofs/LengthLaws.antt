-- How many bytes words, slots and answers write.
use Prim.Native.Nat.{ℕ, zero, suc, ◌-◌, ◌/◌, ◌%◌, ◌≤◌}
use mathlib.Core.Path.{◌≡◌, refl, ◌∙◌}
use mathlib.Core.List.{[], ◌∷◌, ◌++◌, append-nil}
use mathlib.Core.Bool.{Bool, true, false, cond, false≢true}
use lib.Dec.{eqb, ltb, leb}
use borrow.Author.Tests.{eqb-true, ltb-false}
use native.Mathlib.Omega.{arith}
use native.Mathlib.Numerals.{add-one}
use lib.ListN.{length, replicate, length-append, length-replicate}
use lib.Seq.{sets-eq}
use Rattle.std.specs.Prelude.{Some, None}
use Rattle.std.specs.Option.{unwrap_or}
use Rattle.rules.specs.Limits.{limits}
use Rattle.rules.specs.Slots.{answer_bytes, slot_bytes, capacity_from}
use Rattle.rules.specs.Bytes.{Bytes, be4, same, put}
use Rattle.text.specs.Text.{ascii}
use Rattle.device_text.specs.Words.{word, rest, number, no_number, decimal, is_number, unhex, bytes, is_bytes, up_to_bytes}
use Rattle.device_text.proofs.WordLaws.{number-le}
use Rattle.device_slots.specs.SlotText.{content_bytes, zeros, is_image, image, is_state, is_slot, identifier, slot, is_answer, answer, status, a_status, largest_status}

-- two tests that both pass
both : (x y : Bool) → cond x y false ≡ true → (x ≡ true) × (y ≡ true)
both true y h = (refl, h)
both false y h = absurd (false≢true h)

-- the first fails, the second passes
second : (x y : Bool) → cond x false y ≡ true → (x ≡ false) × (y ≡ true)
second true y h = absurd (false≢true h)
second false y h = (refl, h)

length-unhex : (n : ℕ) (s : Bytes) → length (unhex n s) ≡ n
unfolding unhex
length-unhex zero s = refl
length-unhex (suc n) s = length-append (unhex n s) _ ∙ rw (length-unhex n s) (add-one n)

length-bytes : (w : Bytes) → length (bytes w) ≡ length w / 2
unfolding bytes
length-bytes w = length-unhex (length w / 2) w

whole : (n : ℕ) (w : Bytes) → is_bytes n w ≡ true → length (bytes w) ≡ n
unfolding is_bytes
whole n w h = length-bytes w ∙ eqb-true _ _ (both (eqb (length w / 2) n) _ h).0

pub sixteen-all : (w : Bytes) → is_bytes limits.class w ≡ true → put (replicate limits.class 0) 0 (bytes w) ≡ bytes w
sixteen-all w h =
    let e : length (bytes w) ≡ limits.class = whole limits.class w h in
    sets-eq (bytes w) (replicate limits.class 0) 0 (omega arith) ∙ rw e (append-nil (bytes w))

-- an image that is left out, or one that is not
given : (t : Bytes) → is_image t ≡ true → length (image t) ≡ content_bytes
unfolding is_image image
given t h = go (eqb (length t) 0)
  where
    all : length (be4 (number (word t)) ++ bytes (rest t)) ≡ content_bytes
    all = length-append (be4 (number (word t))) (bytes (rest t)) ∙ rw (whole limits.digest (rest t) (both (is_number (word t)) _ h).1)

    go : (b : Bool) → length (cond b (zeros content_bytes) (be4 (number (word t)) ++ bytes (rest t))) ≡ content_bytes
    go true = refl
    go false = all

left_out : (t : Bytes) → eqb (length t) 0 ≡ true → length (image t) ≡ content_bytes
unfolding image
left_out t e = rw e

state : (w t : Bytes) → is_state w t ≡ true → length (image t) ≡ content_bytes
unfolding is_state
state w t h = go (same w (ascii "present")) (same w (ascii "absent")) (eqb (length t) 0) refl h
  where
    go : (x y z : Bool) → eqb (length t) 0 ≡ z → cond x (is_image t) (cond y (cond z true (is_image t)) false) ≡ true → length (image t) ≡ content_bytes
    go true y z e k = given t k
    go false true true e k = left_out t e
    go false true false e k = given t k
    go false false z e k = absurd (false≢true k)

-- an identifier
short : (w : Bytes) → up_to_bytes limits.identifier w ≡ true → length w / 2 ≤ limits.identifier
unfolding up_to_bytes
short w h =
    ltb-false _ _ (second (ltb limits.identifier (length w / 2)) _ (second (ltb (length w) 2) _ (both (eqb (length w % 2) 0) _ h).1).1).0

length-identifier : (w : Bytes) → up_to_bytes limits.identifier w ≡ true → length (identifier w) ≡ capacity_from
unfolding identifier
length-identifier w h =
    let s : length w / 2 ≤ limits.identifier = short w h in
    length-append ((length w / 2 % 256 ∷ []) ++ bytes w) (zeros (limits.identifier - length w / 2)) ∙ rw (length-replicate {A = ℕ} (limits.identifier - length w / 2) 0, length-bytes w) (omega arith)

pub slot-length : (t : Bytes) → is_slot t ≡ true → length (slot t) ≡ slot_bytes
unfolding is_slot slot
slot-length t h =
    let name = both (up_to_bytes limits.identifier (word t)) _ h in
    let number-and-state = both (is_number (word (rest t))) _ name.1 in
    let a : length (identifier (word t)) ≡ capacity_from = length-identifier (word t) name.0 in
    let b : length (image (rest (rest (rest t)))) ≡ content_bytes = state (word (rest (rest t))) (rest (rest (rest t))) number-and-state.1 in
    simp length-append (rw (a, b))

pub answer-length : (t : Bytes) → is_answer t ≡ true → length (answer t) ≡ answer_bytes
unfolding is_answer answer
answer-length t h = rw (given (rest t) (both (leb (status (word t)) largest_status) _ h).1)

-- what no number and no status are written as
pub four-or : (w : Bytes) → be4 (unwrap_or (decimal w) 0) ≡ be4 (number w)
four-or w = go (ltb (number w) no_number) refl
  where
    go : (t : Bool) → ltb (number w) no_number ≡ t → be4 (unwrap_or (cond t (Some (number w)) None) 0) ≡ be4 (number w)
    go true e = refl
    go false e =
        let n : number w ≡ no_number = omega (arith, number-le w, ltb-false _ _ e) in
        rw n

status-le : (w : Bytes) → status w ≤ no_number
unfolding status
status-le w = go (same w (ascii "good")) (same w (ascii "bad"))
  where
    go : (x y : Bool) → cond x 0 (cond y 1 (number w)) ≤ no_number
    go true y = omega arith
    go false true = omega arith
    go false false = number-le w

pub status-or : (w : Bytes) → unwrap_or (a_status w) 0 % 256 ≡ status w % 256
status-or w = go (ltb (status w) no_number) refl
  where
    go : (t : Bool) → ltb (status w) no_number ≡ t → unwrap_or (cond t (Some (status w)) None) 0 % 256 ≡ status w % 256
    go true e = refl
    go false e =
        let n : status w ≡ no_number = omega (arith, status-le w, ltb-false _ _ e) in
        rw n
