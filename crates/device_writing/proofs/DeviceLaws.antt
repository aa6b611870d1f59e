-- A device that is written reads back as the same device and the same slots.
use Prim.Native.Nat.{ℕ, zero, suc, ◌+◌, ◌*◌, ◌/◌, ◌≤◌, ◌<◌}
use mathlib.Core.Path.{◌≡◌, refl, sym, ap, ◌∙◌}
use mathlib.Core.List.{List, [], ◌∷◌, ◌++◌, append_assoc, append-nil}
use mathlib.Core.Bool.{true}
use borrow.Author.Tests.{ne_eqb, le-leb}
use native.Mathlib.Omega.{arith}
use Rattle.std.specs.Prelude.{None}
use lib.ListN.{length, take, drop, get_or, length-drop, take-append-drop}
use lib.Seq.{drop-drop}
use Rattle.rules.specs.Bytes.{Bytes, part}
use Rattle.rules.specs.Limits.{limits}
use Rattle.rules.specs.Slots.{slot_bytes}
use Rattle.text.specs.Text.{ascii, hex}
use Rattle.text_pieces.specs.Pieces.{lines as repeated}
use Rattle.device_text.specs.Words.{no_number, lines}
use Rattle.device_description.specs.declared.Scenario.{Scenario}
use Rattle.device_description.specs.Scenario.{Said, says, with_slots, line, lines_from, described, ◌then◌}
use Rattle.device_description.specs.Scenario.{slot_line as read_slot}
use Rattle.device_writing.specs.Device.{slot_line, slot_of, slot_lines, device_text}
use Rattle.device_writing.proofs.DigitLaws.{Small, hex-word}
use Rattle.device_writing.proofs.LineLaws.{plain, is_word, are_words, joined, word-joined, rest-joined, joined-some, content-joined, lines-joined}
use Rattle.device_writing.proofs.SettingLaws.{fresh, settings_again}
use Rattle.device_writing.proofs.GoodSlots.{Good, own, own-words, line-words, read-good, read-bytes, id-length}

-- what a line says, then the lines behind it
step : (m k n : ℕ) (d : Scenario) (x : Said) (w : Bytes) (ws : List Bytes) (t : Bytes) → are_words (w ∷ ws) ≡ true → line m k n d (joined w ws) ≡ x → x.scenario.refused ≡ None →
    lines_from m k n d (lines (joined w ws ++ (10 ∷ t))) ≡ (x then lines_from m k (suc n) x.scenario (lines t))
unfolding lines_from
step m k n d x w ws t h q r = rw (lines-joined w ws t h, content-joined w ws h, q, r)

-- one slot
abbrev with_slot : Scenario → Bytes → Said
with_slot d x = record { scenario = with_slots (d.slots + slot_bytes) d; slots = x; answers = [] }

slot_read : (m k n : ℕ) (d : Scenario) (x : Bytes) (g : Good x) → d.slots + slot_bytes ≤ m → line m k n d (joined (ascii "slot") (own x g)) ≡ with_slot d x
unfolding line read_slot is_word plain
slot_read m k n d x g f =
    let l : 0 < length (joined (ascii "slot") (own x g)) = joined-some (ascii "slot") (own x g) refl in
    let w : is_word (hex (part x 1 (get_or x 0 0))) ≡ true = hex-word _ (rw (id-length x g) g.some) in
    rw (
      ne_eqb (length (joined (ascii "slot") (own x g))) 0 (λ e. omega arith),
      word-joined (ascii "slot") (own x g) refl,
      rest-joined (ascii "slot") _ _ refl w,
      read-good x g,
      le-leb (d.slots + slot_bytes) m f,
      read-bytes x g,
    )

slot_step : (m k n : ℕ) (d : Scenario) (x : Bytes) (g : Good x) (t : Bytes) → d.slots + slot_bytes ≤ m → d.refused ≡ None →
    lines_from m k n d (lines (slot_line x ++ t)) ≡ (with_slot d x then lines_from m k (suc n) (with_slots (d.slots + slot_bytes) d) (lines t))
slot_step m k n d x g t f r =
    ap (λ (s : Bytes). lines_from m k n d (lines s)) (line-words x g t) ∙ step m k n d (with_slot d x) (ascii "slot") (own x g) t (own-words x g) (slot_read m k n d x g f) r

-- the first of texts in a row
first : (f : ℕ → Bytes) (n : ℕ) → repeated f (suc n) ≡ f 0 ++ repeated (λ i. f (suc i)) n
unfolding repeated
first f zero = sym (append-nil (f 0))
first f (suc n) = rw (first f n) (append_assoc (f 0) (repeated (λ i. f (suc i)) n) (f (suc n)))

alike : (f g : ℕ → Bytes) → ((i : ℕ) → f i ≡ g i) → (n : ℕ) → repeated f n ≡ repeated g n
unfolding repeated
alike f g h zero = refl
alike f g h (suc n) = rw (alike f g h n, h n)

-- the slots behind the first
behind : (s : Bytes) (i : ℕ) → part s (slot_bytes * suc i) slot_bytes ≡ part (drop slot_bytes s) (slot_bytes * i) slot_bytes
behind s i =
    let e : slot_bytes * suc i ≡ slot_bytes + slot_bytes * i = omega arith in
    ap (take slot_bytes) (ap (λ (n : ℕ). drop n s) e ∙ sym (drop-drop (slot_bytes * i) slot_bytes s))

abbrev with_all : Scenario → Bytes → Said
with_all d s = record { scenario = with_slots (d.slots + length s) d; slots = s; answers = [] }

no_slots : (s : Bytes) (d : Scenario) → length s ≡ 0 → says d ≡ with_all d s
no_slots [] d h =
    let e : d.slots + 0 ≡ d.slots = omega arith in
    rw e
no_slots (x ∷ s) d h = absurd (none h)
  where
    none : suc (length s) ≡ 0 → ⊥
    none e = omega arith

one_more_lem : (d : Scenario) (s : Bytes) → slot_bytes ≤ length s → (with_slot d (part s 0 slot_bytes) then with_all (with_slots (d.slots + slot_bytes) d) (drop slot_bytes s)) ≡ with_all d s
one_more_lem d s h =
    let e : d.slots + slot_bytes + length (drop slot_bytes s) ≡ d.slots + length s = rw (length-drop slot_bytes s) (omega arith) in
    ap (λ (x : Bytes). record { scenario = with_slots (d.slots + slot_bytes + length (drop slot_bytes s)) d; slots = x; answers = [] }) (take-append-drop slot_bytes s)
    ∙ ap (λ (n : ℕ). record { scenario = with_slots n d; slots = s; answers = [] }) e

-- whole slots, each good
abbrev pub Slots : ℕ → Bytes → Type 0
Slots q s = (length s ≡ slot_bytes * q) × ((i : ℕ) → i < q → Good (part s (slot_bytes * i) slot_bytes))

slots-again : (q : ℕ) (s : Bytes) (m k n : ℕ) (d : Scenario) → Slots q s → d.slots + length s ≤ m → d.refused ≡ None → lines_from m k n d (lines (repeated (slot_of s) q)) ≡ with_all d s
unfolding repeated lines lines_from slot_of
slots-again zero s m k n d g f r = no_slots s d g.0
slots-again (suc q) s m k n d g f r =
    let l : length s ≡ slot_bytes * suc q = g.0 in
    let e : length (drop slot_bytes s) ≡ slot_bytes * q = rw (length-drop slot_bytes s) (omega arith) in
    let goods : (i : ℕ) → i < q → Good (part (drop slot_bytes s) (slot_bytes * i) slot_bytes) = λ i h. rw (behind s i) at (g.1 (suc i) (omega arith)) in
    let others : repeated (λ i. slot_of s (suc i)) q ≡ repeated (slot_of (drop slot_bytes s)) q = alike _ _ (λ i. ap slot_line (behind s i)) q in
    ap (λ (t : Bytes). lines_from m k n d (lines t)) (first (slot_of s) q ∙ ap (λ (t : Bytes). slot_of s 0 ++ t) others)
    ∙ slot_step m k n d (part s 0 slot_bytes) (g.1 0 (omega arith)) (repeated (slot_of (drop slot_bytes s)) q) (omega arith) r
    ∙ ap (λ (x : Said). with_slot d (part s 0 slot_bytes) then x) (slots-again q (drop slot_bytes s) m k (suc n) (with_slots (d.slots + slot_bytes) d) (e, goods) (omega arith) r)
    ∙ one_more_lem d s (omega arith)

-- in rooms of m bytes for slots, which have space for them, and k for answers
pub device-again : (m k : ℕ) (d : Scenario) (n q : ℕ) (s : Bytes) → Small d.vendor → length d.vendor ≡ limits.class → Small d.class → length d.class ≡ limits.class → n < no_number →
    Slots q s → length s ≤ m → described m k (device_text d n s) ≡ record { scenario = with_slots (length s) (fresh d n); slots = s; answers = [] }
unfolding described device_text slot_lines
device-again m k d n q s sv lv sc lc h g f =
    let l : length s ≡ slot_bytes * q = g.0 in
    let e : length s / slot_bytes ≡ q = omega arith in
    let z : 0 + length s ≡ length s = omega arith in
    settings_again m k d n (repeated (slot_of s) (length s / slot_bytes)) sv lv sc lc h
    ∙ ap (λ (i : ℕ). lines_from m k 6 (fresh d n) (lines (repeated (slot_of s) i))) e
    ∙ slots-again q s m k 6 (fresh d n) g (omega arith) refl
    ∙ ap (λ (i : ℕ). record { scenario = with_slots i (fresh d n); slots = s; answers = [] }) z
