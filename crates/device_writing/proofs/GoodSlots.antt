-- A good slot: its fields make up its bytes, and its line is of words that read back as them.
use Prim.Native.Nat.{ℕ, zero, suc, ◌+◌, ◌-◌, ◌≤◌}
use mathlib.Core.Path.{◌≡◌, refl, sym, ap, ◌∙◌}
use mathlib.Core.List.{List, [], ◌∷◌, ◌++◌, append_assoc}
use mathlib.Core.Bool.{Bool, true, false, cond}
use lib.Dec.{eqb}
use native.Mathlib.Omega.{arith}
use lib.ListN.{length, take, drop, get_or, length-drop, take-append-drop}
use lib.Seq.{drop-cons, drop-drop, take_all}
use Rattle.rules.specs.Bytes.{Bytes, part, four_at, be4}
use Rattle.rules.specs.Limits.{limits}
use Rattle.rules.proofs.BytesLaws.{length_part}
use Rattle.rules.specs.Slots.{slot_bytes, id_from, capacity_from, image_from, size_from, digest_from}
use Rattle.text.specs.Text.{ascii, decimal, hex, least}
use Rattle.text_pieces.specs.Pieces.{between, labelled}
use Rattle.device_slots.specs.SlotText.{zeros, is_slot, slot}
use Rattle.device_writing.specs.Device.{own_text, state_text, image_text, slot_line}
use Rattle.device_writing.proofs.DigitLaws.{Small}
use Rattle.device_writing.proofs.LineLaws.{are_words, joined}
use Rattle.device_writing.proofs.SettingLaws.{in_turn}
use Rattle.device_writing.proofs.SlotLaws.{state_word, slot_words, four_again, four_below, words-good, slot-good, slot-bytes}

-- a slot as a description gives it: 1 to 32 bytes of an identifier, zeros behind it, and present or not
pub record Good (x : Bytes) : Type 0 where
  pub whole : length x ≡ slot_bytes
  pub small : Small x
  pub some : 1 ≤ get_or x 0 0
  pub short : get_or x 0 0 ≤ limits.identifier
  pub padded : part x (1 + get_or x 0 0) (limits.identifier - get_or x 0 0) ≡ zeros (limits.identifier - get_or x 0 0)
  pub state : get_or x image_from 0 ≤ 1

small-drop : (n : ℕ) (x : Bytes) → Small x → Small (drop n x)
small-drop zero x s = s
small-drop (suc n) [] s = λ i. omega arith
small-drop (suc n) (y ∷ x) s = small-drop n x (λ i. s (suc i))

small-take : (n : ℕ) (x : Bytes) → Small x → Small (take n x)
small-take zero x s i = omega arith
small-take (suc n) [] s i = omega arith
small-take (suc n) (y ∷ x) s zero = s 0
small-take (suc n) (y ∷ x) s (suc i) = small-take n x (λ j. s (suc j)) i

-- a part, and what stands behind it
seam : (s : Bytes) (a n : ℕ) → part s a n ++ drop (a + n) s ≡ drop a s
seam s a n = rw (← drop-drop n a s) (take-append-drop n (drop a s))

module _ (x : Bytes) (g : Good x) where
  abbrev len : ℕ
  len = get_or x 0 0

  abbrev id : Bytes
  id = part x 1 len

  abbrev capacity : ℕ
  capacity = four_at x capacity_from

  abbrev present : ℕ
  present = get_or x image_from 0

  abbrev size : ℕ
  size = four_at x (image_from + size_from)

  abbrev dg : Bytes
  dg = part x (image_from + digest_from) limits.digest

  pub id-length : length id ≡ len
  id-length = length_part x 1 len (omega (arith, g.whole, g.short))

  dg-length : length dg ≡ limits.digest
  dg-length = length_part x (image_from + digest_from) limits.digest (omega (arith, g.whole))

  small-id : Small id
  small-id = small-take len (drop 1 x) (small-drop 1 x g.small)

  small-digest : Small dg
  small-digest = small-take limits.digest (drop (image_from + digest_from) x) (small-drop (image_from + digest_from) x g.small)

  -- its bytes, one field behind the other
  from-size : be4 size ++ dg ≡ drop (image_from + size_from) x
  from-size =
      ap (λ (l : Bytes). l ++ dg) (four_again x (image_from + size_from) g.small (omega (arith, g.whole)))
      ∙ ap (λ (l : Bytes). part x (image_from + size_from) 4 ++ l) (take_all limits.digest (drop (image_from + digest_from) x) (rw (length-drop (image_from + digest_from) x) (omega (arith, g.whole))))
      ∙ seam x (image_from + size_from) 4

  from-image : (present ∷ []) ++ (be4 size ++ dg) ≡ drop image_from x
  from-image = ap (λ (l : Bytes). present ∷ l) from-size ∙ sym (drop-cons x image_from 0 (omega (arith, g.whole)))

  from-capacity : be4 capacity ++ ((present ∷ []) ++ (be4 size ++ dg)) ≡ drop capacity_from x
  from-capacity =
      ap (λ (l : Bytes). be4 capacity ++ l) from-image ∙ ap (λ (l : Bytes). l ++ drop image_from x) (four_again x capacity_from g.small (omega (arith, g.whole)))
      ∙ seam x capacity_from 4

  from-zeros : zeros (limits.identifier - len) ++ (be4 capacity ++ ((present ∷ []) ++ (be4 size ++ dg))) ≡ drop (1 + len) x
  from-zeros =
      let e : 1 + len + (limits.identifier - len) ≡ capacity_from = omega (arith, g.short) in
      let q : part x (1 + len) (limits.identifier - len) ++ drop capacity_from x ≡ drop (1 + len) x = rw e at (seam x (1 + len) (limits.identifier - len)) in
      ap (λ (l : Bytes). zeros (limits.identifier - len) ++ l) from-capacity ∙ ap (λ (l : Bytes). l ++ drop capacity_from x) (sym g.padded) ∙ q

  from-id : id ++ (zeros (limits.identifier - len) ++ (be4 capacity ++ ((present ∷ []) ++ (be4 size ++ dg)))) ≡ drop 1 x
  from-id = ap (λ (l : Bytes). id ++ l) from-zeros ∙ seam x 1 len

  all : (len ∷ []) ++ id ++ zeros (limits.identifier - len) ++ be4 capacity ++ (present ∷ []) ++ (be4 size ++ dg) ≡ x
  all =
      in_turn (len ∷ []) id (zeros (limits.identifier - len)) (be4 capacity) (present ∷ []) (be4 size ++ dg)
      ∙ ap (λ (l : Bytes). len ∷ l) from-id ∙ sym (drop-cons x 0 0 (omega (arith, g.whole)))

  abbrev words_of : Bytes
  words_of = slot_words id capacity present size dg

  pub read-good : is_slot words_of ≡ true
  read-good =
      slot-good id dg capacity present size small-id small-digest
      (rw id-length g.some) (rw id-length g.short) dg-length (four_below x capacity_from g.small) g.state (four_below x (image_from + size_from) g.small)

  pub read-bytes : slot words_of ≡ x
  read-bytes =
      slot-bytes id dg capacity present size small-id small-digest
      (rw id-length g.some) (rw id-length g.short) dg-length (four_below x capacity_from g.small) g.state (four_below x (image_from + size_from) g.small)
      ∙ ap (λ (n : ℕ). (n ∷ []) ++ id ++ zeros (limits.identifier - n) ++ be4 capacity ++ (present ∷ []) ++ (be4 size ++ dg)) id-length ∙ all

-- the line that is written has these words
row : (h q a b w c e z t : Bytes) →
    (h ++ a ++ (q ++ b)) ++ ((q ++ (w ++ q)) ++ c ++ q ++ e ++ z) ++ t ≡ h ++ (a ++ (q ++ (b ++ (q ++ (w ++ (q ++ (c ++ (q ++ (e ++ (z ++ t))))))))))
row h q a b w c e z t = simp append_assoc refl

row-joined : (q a b w c e t : Bytes) → (a ++ (q ++ (b ++ (q ++ (w ++ (q ++ (c ++ (q ++ e)))))))) ++ t ≡ a ++ (q ++ (b ++ (q ++ (w ++ (q ++ (c ++ (q ++ (e ++ t))))))))
row-joined q a b w c e t = simp append_assoc refl

in_words : (a b w c e t : Bytes) →
    (ascii "slot " ++ a ++ (ascii " " ++ b)) ++ ((32 ∷ (w ++ (32 ∷ []))) ++ c ++ ascii " " ++ e ++ ascii "\n") ++ t
    ≡ joined (ascii "slot") (a ∷ b ∷ w ∷ c ∷ e ∷ []) ++ (10 ∷ t)
unfolding joined
in_words a b w c e t =
    row (ascii "slot ") (32 ∷ []) a b w c e (10 ∷ []) t
    ∙ ap (λ (l : Bytes). ascii "slot " ++ l) (sym (row-joined (32 ∷ []) a b w c e (10 ∷ t)))

state-words : (p : ℕ) → state_text p ≡ 32 ∷ (state_word p ++ (32 ∷ []))
state-words p = go (eqb p 0)
  where
    go : (b : Bool) → cond b (ascii " absent ") (ascii " present ") ≡ 32 ∷ (cond b (ascii "absent") (ascii "present") ++ (32 ∷ []))
    go true = refl
    go false = refl

module _ (x : Bytes) (g : Good x) where
  own_name : between x id_from (id_from + least (get_or x 0 0) limits.identifier) ≡ part x 1 (get_or x 0 0)
  unfolding between
  own_name =
      let e : id_from + least (get_or x 0 0) limits.identifier - id_from ≡ get_or x 0 0 = omega (arith, g.short) in
      rw e

  own-digest : between x (image_from + digest_from) slot_bytes ≡ part x (image_from + digest_from) limits.digest
  unfolding between
  own-digest = refl

  abbrev pub own : List Bytes
  own =
      hex (part x 1 (get_or x 0 0)) ∷ decimal (four_at x capacity_from) ∷ state_word (get_or x image_from 0)
      ∷ decimal (four_at x (image_from + size_from)) ∷ hex (part x (image_from + digest_from) limits.digest) ∷ []

  pub line-words : (t : Bytes) → slot_line x ++ t ≡ joined (ascii "slot") own ++ (10 ∷ t)
  unfolding slot_line own_text image_text labelled
  line-words t = rw (own_name, own-digest, state-words (get_or x image_from 0)) (in_words _ _ _ _ _ t)

  pub own-words : are_words (ascii "slot" ∷ own) ≡ true
  own-words =
      words-good _ _ (four_at x capacity_from) (get_or x image_from 0) (four_at x (image_from + size_from)) (small-id x g) (small-digest x g)
      (rw (id-length x g) g.some) (rw (id-length x g) g.short) (dg-length x g) (four_below x capacity_from g.small) g.state (four_below x (image_from + size_from) g.small)
