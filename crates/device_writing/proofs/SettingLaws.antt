-- The lines that set a value read back as the values.
use Prim.Native.Nat.{ℕ, suc, ◌<◌}
use mathlib.Core.Path.{◌≡◌, refl, ap, ◌∙◌}
use mathlib.Core.List.{List, [], ◌∷◌, ◌++◌, append_assoc}
use mathlib.Core.Bool.{Bool, true, false, cond}
use borrow.Author.Tests.{ne_eqb, lt-ltb}
use native.Mathlib.Omega.{arith}
use Rattle.std.specs.Prelude.{None}
use lib.ListN.{length}
use Rattle.rules.specs.Bytes.{Bytes, same}
use Rattle.rules.specs.Limits.{limits}
use Rattle.text.specs.Text.{ascii, decimal, hex}
use Rattle.text_pieces.specs.Pieces.{labelled}
use Rattle.device_text.specs.Words.{no_number, lines, is_bytes}
use Rattle.device_description.specs.declared.Scenario.{Scenario}
use Rattle.device_description.specs.Scenario.{says, start, with_verdict, with_vendor, with_class, with_number, with_event, verdict_line, vendor_line, class_line, event_line, setting, line, lines_from}
use Rattle.device_description.specs.Scenario.{number_line as readNumber}
use Rattle.device_writing.specs.Device.{name_line, number_line, setting_lines}
use Rattle.device_writing.proofs.DigitLaws.{Small, number-again, decimal-word, hex-word, bytes-again, is_bytes-again}
use Rattle.device_writing.proofs.LineLaws.{plain, is_word, are_words, joined, word-plain, word-joined, rest-joined, joined-some, content-joined, lines-joined}

-- a line that is understood, and the lines behind it
pub step : (m k n : ℕ) (d e : Scenario) (w : Bytes) (ws : List Bytes) (t : Bytes) → are_words (w ∷ ws) ≡ true → line m k n d (joined w ws) ≡ says e → e.refused ≡ None →
    lines_from m k n d (lines (joined w ws ++ (10 ∷ t))) ≡ lines_from m k (suc n) e (lines t)
unfolding lines_from
step m k n d e w ws t h q r = rw (lines-joined w ws t h, content-joined w ws h, q, r)

one : (v : Bytes) → joined v [] ≡ v
unfolding joined
one v = refl

-- a line of two words that is to set a value
two : (m k n : ℕ) (d : Scenario) (w v : Bytes) → is_word w ≡ true → is_word v ≡ true → same w (ascii "slot") ≡ false → same w (ascii "answer") ≡ false →
    line m k n d (joined w (v ∷ [])) ≡ says (setting n d w v)
unfolding line
two m k n d w v h i p q =
    let l : 0 < length (joined w (v ∷ [])) = joined-some w (v ∷ []) h in
    rw (ne_eqb (length (joined w (v ∷ []))) 0 (λ e. omega arith), word-joined w (v ∷ []) (word-plain w h), p, q, rest-joined w v [] (word-plain w h) i, one v)

-- the value that each sets
module _ (n : ℕ) (d : Scenario) where
  set-vendor : (v : Bytes) → Small v → length v ≡ limits.class → setting n d (ascii "vendor") (hex v) ≡ with_vendor v d
  unfolding setting vendor_line
  set-vendor v s l =
      let e : is_bytes limits.class (hex v) ≡ true = rw l at (is_bytes-again v s) in
      rw (e, bytes-again v s)

  set-class : (v : Bytes) → Small v → length v ≡ limits.class → setting n d (ascii "class") (hex v) ≡ with_class v d
  unfolding setting class_line
  set-class v s l =
      let e : is_bytes limits.class (hex v) ≡ true = rw l at (is_bytes-again v s) in
      rw (e, bytes-again v s)

  set-number : (x : ℕ) → x < no_number → setting n d (ascii "number") (decimal x) ≡ with_number x d
  unfolding setting readNumber
  set-number x h = rw (number-again x h, lt-ltb x no_number h)

-- a device that was read, with that number, before its slots are
abbrev pub fresh : Scenario → ℕ → Scenario
fresh d n =
    record {
      verdict = d.verdict;
      vendor = d.vendor;
      class = d.class;
      number = n;
      event = d.event;
      slots = 0;
      answers = 0;
      refused = None;
    }

-- each line, with what stands behind it
module _ (m k n : ℕ) (d : Scenario) (r : d.refused ≡ None) (t : Bytes) where
  verdict-step : (b : Bool) → lines_from m k n d (lines (cond b (ascii "verdict good\n") (ascii "verdict bad\n") ++ t)) ≡ lines_from m k (suc n) (with_verdict b d) (lines t)
  unfolding are_words is_word plain joined setting verdict_line
  verdict-step true = step m k n d (with_verdict true d) (ascii "verdict") (ascii "good" ∷ []) t refl (two m k n d (ascii "verdict") (ascii "good") refl refl refl refl) r
  verdict-step false = step m k n d (with_verdict false d) (ascii "verdict") (ascii "bad" ∷ []) t refl (two m k n d (ascii "verdict") (ascii "bad") refl refl refl refl) r

  event-step : (b : Bool) → lines_from m k n d (lines (cond b (ascii "event open\n") (ascii "event closed\n") ++ t)) ≡ lines_from m k (suc n) (with_event b d) (lines t)
  unfolding are_words is_word plain joined setting event_line
  event-step true = step m k n d (with_event true d) (ascii "event") (ascii "open" ∷ []) t refl (two m k n d (ascii "event") (ascii "open") refl refl refl refl) r
  event-step false = step m k n d (with_event false d) (ascii "event") (ascii "closed" ∷ []) t refl (two m k n d (ascii "event") (ascii "closed") refl refl refl refl) r

  vendor-step : (v : Bytes) → Small v → length v ≡ limits.class → lines_from m k n d (lines (name_line (ascii "vendor ") v ++ t)) ≡ lines_from m k (suc n) (with_vendor v d) (lines t)
  unfolding name_line are_words is_word plain joined
  vendor-step v s l =
      let w : is_word (hex v) ≡ true = hex-word v (omega arith) in
      rw (append_assoc (hex v) (10 ∷ []) t)
      (step m k n d (with_vendor v d) (ascii "vendor") (hex v ∷ []) t (rw w) (two m k n d (ascii "vendor") (hex v) refl w refl refl ∙ ap says (set-vendor n d v s l)) r)

  class-step : (v : Bytes) → Small v → length v ≡ limits.class → lines_from m k n d (lines (name_line (ascii "class ") v ++ t)) ≡ lines_from m k (suc n) (with_class v d) (lines t)
  unfolding name_line are_words is_word plain joined
  class-step v s l =
      let w : is_word (hex v) ≡ true = hex-word v (omega arith) in
      rw (append_assoc (hex v) (10 ∷ []) t)
      (step m k n d (with_class v d) (ascii "class") (hex v ∷ []) t (rw w) (two m k n d (ascii "class") (hex v) refl w refl refl ∙ ap says (set-class n d v s l)) r)

  number_step : (x : ℕ) → x < no_number → lines_from m k n d (lines (number_line x ++ t)) ≡ lines_from m k (suc n) (with_number x d) (lines t)
  unfolding number_line labelled are_words is_word plain joined
  number_step x h =
      let w : is_word (decimal x) ≡ true = decimal-word x in
      rw (append_assoc (decimal x) (10 ∷ []) t)
      (step m k n d (with_number x d) (ascii "number") (decimal x ∷ []) t (rw w) (two m k n d (ascii "number") (decimal x) refl w refl refl ∙ ap says (set-number n d x h)) r)

pub in_turn : (a b c d e t : Bytes) → a ++ b ++ c ++ d ++ e ++ t ≡ a ++ (b ++ (c ++ (d ++ (e ++ t))))
in_turn a b c d e t = append_assoc (a ++ b ++ c ++ d) e t ∙ append_assoc (a ++ b ++ c) d (e ++ t) ∙ append_assoc (a ++ b) c (d ++ (e ++ t)) ∙ append_assoc a b (c ++ (d ++ (e ++ t)))

pub settings_again : (m k : ℕ) (d : Scenario) (n : ℕ) (t : Bytes) → Small d.vendor → length d.vendor ≡ limits.class → Small d.class → length d.class ≡ limits.class → n < no_number →
    lines_from m k 1 start (lines (setting_lines d n ++ t)) ≡ lines_from m k 6 (fresh d n) (lines t)
unfolding setting_lines start
settings_again m k d n t sv lv sc lc h =
    let verdict = cond d.verdict (ascii "verdict good\n") (ascii "verdict bad\n") in
    let event = cond d.event (ascii "event open\n") (ascii "event closed\n") in
    let d1 = with_verdict d.verdict start in
    let d2 = with_vendor d.vendor d1 in
    let d3 = with_class d.class d2 in
    let d4 = with_number n d3 in
    ap (λ (s : Bytes). lines_from m k 1 start (lines s)) (in_turn verdict (name_line (ascii "vendor ") d.vendor) (name_line (ascii "class ") d.class) (number_line n) event t)
    ∙ verdict-step m k 1 start refl _ d.verdict
    ∙ vendor-step m k 2 d1 refl _ d.vendor sv lv
    ∙ class-step m k 3 d2 refl _ d.class sc lc
    ∙ number_step m k 4 d3 refl _ n h
    ∙ event-step m k 5 d4 refl t d.event
