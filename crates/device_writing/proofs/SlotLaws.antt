-- A slot that is written reads back as its bytes.
use Prim.Native.Nat.{ℕ, suc, ◌+◌, ◌-◌, ◌*◌, ◌/◌, ◌%◌, ◌≤◌, ◌<◌}
use mathlib.Core.Path.{◌≡◌, refl, sym}
use mathlib.Core.List.{[], ◌∷◌, ◌++◌}
use mathlib.Core.Bool.{Bool, true, false, cond}
use lib.Dec.{eqb}
use borrow.Author.Tests.{eqb-true, eqb-false, ne_eqb, lt-ltb}
use native.Mathlib.Omega.{arith}
use lib.ListN.{length}
use lib.Seq.{drop-cons}
use Rattle.rules.specs.Bytes.{Bytes, part, four_at, be4, same}
use Rattle.rules.specs.Limits.{limits}
use Rattle.text.specs.Text.{ascii, decimal, hex}
use Rattle.device_text.specs.Words.{no_number, rest, is_bytes}
use Rattle.device_slots.specs.SlotText.{zeros, is_image, image, is_state, is_slot, presence, identifier, slot}
use Rattle.device_writing.proofs.DigitLaws.{Small, number-again, decimal-word, hex-word, length-hex, bytes-again, is_bytes-again, up_to_bytes-again}
use Rattle.device_writing.proofs.LineLaws.{plain, is_word, are_words, joined, word-plain, word-joined, rest-joined, joined-some}

-- four bytes of a number
four_bytes : (a b c d : ℕ) → a < 256 → b < 256 → c < 256 → d < 256 → be4 (((a * 256 + b) * 256 + c) * 256 + d) ≡ a ∷ b ∷ c ∷ d ∷ []
four_bytes a b c d p q r s =
    let n = ((a * 256 + b) * 256 + c) * 256 + d in
    let e1 : n / 16777216 % 256 ≡ a = omega arith in
    let e2 : n / 65536 % 256 ≡ b = omega arith in
    let e3 : n / 256 % 256 ≡ c = omega arith in
    let e4 : n % 256 ≡ d = omega arith in
    rw (e1, e2, e3, e4)

pub four_again : (x : Bytes) (at : ℕ) → Small x → at + 4 ≤ length x → be4 (four_at x at) ≡ part x at 4
four_again x at s h =
    let e1 : at + 1 ≡ suc at = omega arith in
    let e2 : at + 2 ≡ suc (suc at) = omega arith in
    let e3 : at + 3 ≡ suc (suc (suc at)) = omega arith in
    rw (
      e1,
      e2,
      e3,
      drop-cons x at 0 (omega arith),
      drop-cons x (suc at) 0 (omega arith),
      drop-cons x (suc (suc at)) 0 (omega arith),
      drop-cons x (suc (suc (suc at))) 0 (omega arith),
    ) (four_bytes _ _ _ _ (s at) (s (suc at)) (s (suc (suc at))) (s (suc (suc (suc at)))))

pub four_below : (x : Bytes) (at : ℕ) → Small x → four_at x at < no_number
four_below x at s = omega (arith, s at, s (at + 1), s (at + 2), s (at + 3))

-- the words of a slot, from its fields
abbrev pub state_word : ℕ → Bytes
state_word p = cond (eqb p 0) (ascii "absent") (ascii "present")

abbrev pub slot_words : Bytes → ℕ → ℕ → ℕ → Bytes → Bytes
slot_words id capacity p size dg = joined (hex id) (decimal capacity ∷ state_word p ∷ decimal size ∷ hex dg ∷ [])

module _ (id dg : Bytes) (capacity p size : ℕ) (si : Small id) (sd : Small dg) (some : 1 ≤ length id) (short : length id ≤ limits.identifier)
    (full : length dg ≡ limits.digest) (hc : capacity < no_number) (hp : p ≤ 1) (hs : size < no_number) where
  wi : is_word (hex id) ≡ true
  wi = hex-word id some

  wc : is_word (decimal capacity) ≡ true
  wc = decimal-word capacity

  wp : is_word (state_word p) ≡ true
  unfolding is_word plain
  wp = go (eqb p 0)
    where
      go : (b : Bool) → is_word (cond b (ascii "absent") (ascii "present")) ≡ true
      go true = refl
      go false = refl

  ws : is_word (decimal size) ≡ true
  ws = decimal-word size

  wd : is_word (hex dg) ≡ true
  wd = hex-word dg (omega arith)

  last : joined (hex dg) [] ≡ hex dg
  unfolding joined
  last = refl

  pub words-good : are_words (ascii "slot" ∷ hex id ∷ decimal capacity ∷ state_word p ∷ decimal size ∷ hex dg ∷ []) ≡ true
  unfolding are_words is_word plain
  words-good = rw (wi, wc, wp, ws, wd)

  pub image-good : is_image (joined (decimal size) (hex dg ∷ [])) ≡ true
  unfolding is_image
  image-good =
      let e : is_bytes limits.digest (hex dg) ≡ true = rw full at (is_bytes-again dg sd) in
      rw (word-joined (decimal size) (hex dg ∷ []) (word-plain _ ws), number-again size hs, lt-ltb size no_number hs, rest-joined (decimal size) (hex dg) [] (word-plain _ ws) wd, last, e)

  image-bytes : image (joined (decimal size) (hex dg ∷ [])) ≡ be4 size ++ dg
  unfolding image
  image-bytes =
      let l : 0 < length (joined (decimal size) (hex dg ∷ [])) = joined-some (decimal size) (hex dg ∷ []) ws in
      rw (
        ne_eqb (length (joined (decimal size) (hex dg ∷ []))) 0 (λ e. omega arith),
        word-joined (decimal size) (hex dg ∷ []) (word-plain _ ws),
        number-again size hs,
        rest-joined (decimal size) (hex dg) [] (word-plain _ ws) wd,
        last,
        bytes-again dg sd,
      )

  state-good : is_state (state_word p) (joined (decimal size) (hex dg ∷ [])) ≡ true
  unfolding is_state
  state-good = go (eqb p 0) (eqb (length (joined (decimal size) (hex dg ∷ []))) 0)
    where
      go : (b z : Bool) → cond (same (cond b (ascii "absent") (ascii "present")) (ascii "present")) (is_image (joined (decimal size) (hex dg ∷ [])))
          (cond (same (cond b (ascii "absent") (ascii "present")) (ascii "absent")) (cond z true (is_image (joined (decimal size) (hex dg ∷ [])))) false)
          ≡ true
      go true true = refl
      go true false = image-good
      go false z = image-good

  state_byte : presence (state_word p) ≡ p
  state_byte = go (eqb p 0) refl
    where
      go : (b : Bool) → eqb p 0 ≡ b → presence (cond b (ascii "absent") (ascii "present")) ≡ p
      go true e = sym (eqb-true p 0 e)
      go false e =
          let n : p ≡ 0 → ⊥ = eqb-false p 0 e in
          omega arith

  -- its words behind one another
  at_second : rest (slot_words id capacity p size dg) ≡ joined (decimal capacity) (state_word p ∷ decimal size ∷ hex dg ∷ [])
  at_second = rest-joined (hex id) (decimal capacity) (state_word p ∷ decimal size ∷ hex dg ∷ []) (word-plain _ wi) wc

  at_third : rest (joined (decimal capacity) (state_word p ∷ decimal size ∷ hex dg ∷ [])) ≡ joined (state_word p) (decimal size ∷ hex dg ∷ [])
  at_third = rest-joined (decimal capacity) (state_word p) (decimal size ∷ hex dg ∷ []) (word-plain _ wc) wp

  at_fourth : rest (joined (state_word p) (decimal size ∷ hex dg ∷ [])) ≡ joined (decimal size) (hex dg ∷ [])
  at_fourth = rest-joined (state_word p) (decimal size) (hex dg ∷ []) (word-plain _ wp) ws

  pub slot-good : is_slot (slot_words id capacity p size dg) ≡ true
  unfolding is_slot
  slot-good =
      rw (
        word-joined (hex id) (decimal capacity ∷ state_word p ∷ decimal size ∷ hex dg ∷ []) (word-plain _ wi),
        up_to_bytes-again limits.identifier id si some short,
        at_second,
        word-joined (decimal capacity) (state_word p ∷ decimal size ∷ hex dg ∷ []) (word-plain _ wc),
        number-again capacity hc,
        lt-ltb capacity no_number hc,
        at_third,
        word-joined (state_word p) (decimal size ∷ hex dg ∷ []) (word-plain _ wp),
        at_fourth,
      ) state-good

  own : identifier (hex id) ≡ (length id ∷ []) ++ id ++ zeros (limits.identifier - length id)
  unfolding identifier
  own =
      let l : length (hex id) ≡ length id * 2 = length-hex id in
      let h : length (hex id) / 2 ≡ length id = omega arith in
      let e : length id % 256 ≡ length id = omega arith in
      rw (h, e, bytes-again id si)

  pub slot-bytes : slot (slot_words id capacity p size dg) ≡ (length id ∷ []) ++ id ++ zeros (limits.identifier - length id) ++ be4 capacity ++ (p ∷ []) ++ (be4 size ++ dg)
  unfolding slot
  slot-bytes =
      rw (
        word-joined (hex id) (decimal capacity ∷ state_word p ∷ decimal size ∷ hex dg ∷ []) (word-plain _ wi),
        own,
        at_second,
        word-joined (decimal capacity) (state_word p ∷ decimal size ∷ hex dg ∷ []) (word-plain _ wc),
        number-again capacity hc,
        at_third,
        word-joined (state_word p) (decimal size ∷ hex dg ∷ []) (word-plain _ wp),
        at_fourth,
        state_byte,
        image-bytes,
      )
