-- What one line after the other says.
use Prim.Native.Nat.{ℕ, suc, ◌+◌, ◌≤◌}
use mathlib.Core.Path.{◌≡◌, refl, sym, ap, ◌∙◌}
use mathlib.Core.List.{List, [], ◌∷◌, ◌++◌}
use mathlib.Core.Bool.{Bool, true, false, ◌&&◌, cond}
use Rattle.std.specs.Option.{is_some, unwrap_or, option_map}
use Rattle.std.specs.Prelude.{Some, None}
use lib.Dec.{leb}
use borrow.Author.Tests.{leb-true}
use native.Mathlib.Omega.{arith}
use lib.ListN.{length, length-append}
use lib.Seq.{length-sets}
use Rattle.rules.proofs.GotLaws.{and-true}
use Rattle.rules.specs.Limits.{limits}
use Rattle.rules.specs.Bytes.{Bytes, same, put}
use Rattle.rules.specs.Slots.{slot_bytes, answer_bytes}
use Rattle.text.specs.Text.{ascii}
use Rattle.rules.proofs.BytesLaws.{put-append}
use Rattle.device_text.specs.Words.{lines, content, word, rest, decimal, number, is_number, bytes, is_bytes}
use Rattle.device_slots.specs.SlotText.{is_slot, slot, is_answer, answer}
use Rattle.device_slots.proofs.LengthLaws.{slot-length, answer-length}
use Rattle.device_description.specs.Values.{flag_if, name_of, set}
use Rattle.device_description.specs.Scenario.{with_verdict, with_vendor, with_class, with_number, with_event}
use Rattle.device_description.specs.Scenario.{passed, says, with_slots, with_answers, refused_at, verdict_line, vendor_line, class_line, number_line, event_line}
use Rattle.device_description.specs.Scenario.{setting, Said, slot_line, answer_line, line, ◌then◌, start, lines_from, described, Describes, Took}
use Rattle.device_description.specs.declared.Scenario.{Scenario}

-- what fits a room does so in numbers
pub room_for : (good : Bool) (at width m : ℕ) (r : Bool) → r ≡ (good && leb (at + width) m) → r ≡ true → at + width ≤ m
room_for good at width m r e n = leb-true (at + width) m (and-true good (leb (at + width) m) (sym e ∙ n)).1

-- a slot adds no answer, and an answer no slot
pub slot_alone : (m n : ℕ) (d : Scenario) (t : Bytes) → (slot_line m n d t).answers ≡ []
unfolding slot_line
slot_alone m n d t = go (is_slot t && leb (d.slots + slot_bytes) m)
  where
    go : (x : Bool) → (cond x (record { scenario = with_slots (d.slots + slot_bytes) d; slots = slot t; answers = [] }) (says (refused_at n d))).answers ≡ []
    go true = refl
    go false = refl

pub answer_alone : (m n : ℕ) (d : Scenario) (t : Bytes) → (answer_line m n d t).slots ≡ []
unfolding answer_line
answer_alone m n d t = go (is_answer t && leb (d.answers + answer_bytes) m)
  where
    go : (x : Bool) → (cond x (record { scenario = with_answers (d.answers + answer_bytes) d; slots = []; answers = answer t }) (says (refused_at n d))).slots ≡ []
    go true = refl
    go false = refl

-- what a line counts is what it adds
counts : Scenario → ℕ × ℕ
counts d = (d.slots, d.answers)

module _ (n : ℕ) (d : Scenario) where
  either : (b : Bool) (x y : Scenario) → counts x ≡ counts d → counts y ≡ counts d → counts (cond b x y) ≡ counts d
  either true x y p q = p
  either false x y p q = q

  keep_verdict : (t : Bytes) → counts (verdict_line n d t) ≡ counts d
  unfolding verdict_line counts
  keep_verdict t = either (same t (ascii "good")) _ _ refl (either (same t (ascii "bad")) _ _ refl refl)

  keep_vendor : (t : Bytes) → counts (vendor_line n d t) ≡ counts d
  unfolding vendor_line counts
  keep_vendor t = either (is_bytes limits.class t) _ _ refl refl

  keep_class : (t : Bytes) → counts (class_line n d t) ≡ counts d
  unfolding class_line counts
  keep_class t = either (is_bytes limits.class t) _ _ refl refl

  keep_number : (t : Bytes) → counts (number_line n d t) ≡ counts d
  unfolding number_line counts
  keep_number t = either (is_number t) _ _ refl refl

  keep_event : (t : Bytes) → counts (event_line n d t) ≡ counts d
  unfolding event_line counts
  keep_event t = either (same t (ascii "open")) _ _ refl (either (same t (ascii "closed")) _ _ refl refl)

  keep_setting : (w t : Bytes) → counts (setting n d w t) ≡ counts d
  unfolding setting counts
  keep_setting w t =
      either (same w (ascii "verdict")) _ _ (keep_verdict t)
      (either (same w (ascii "vendor")) _ _ (keep_vendor t)
      (either (same w (ascii "class")) _ _ (keep_class t)
      (either (same w (ascii "number")) _ _ (keep_number t)
      (either (same w (ascii "event")) _ _ (keep_event t) refl))))

-- a line that sets a value, or is refused
pub set_setting : (n : ℕ) (d : Scenario) (w t : Bytes) → unwrap_or (set d w t) (refused_at n d) ≡ setting n d w t
unfolding set setting verdict_line vendor_line class_line number_line event_line
set_setting n d w t =
    go (same w (ascii "verdict")) (same w (ascii "vendor")) (same w (ascii "class")) (same w (ascii "number")) (same w (ascii "event"))
  where
    flag : (a b : Bool) (f : Bool → Scenario) → unwrap_or (option_map f (flag_if a b)) (refused_at n d) ≡ cond a (f true) (cond b (f false) (refused_at n d))
    flag true b f = refl
    flag false true f = refl
    flag false false f = refl

    value : {X : Type 0} (a : Bool) (x : X) (f : X → Scenario) → unwrap_or (option_map f (cond a (Some x) None)) (refused_at n d) ≡ cond a (f x) (refused_at n d)
    value true x f = refl
    value false x f = refl

    go : (a b c e f : Bool) → unwrap_or
        (cond a (option_map (λ x. with_verdict x d) (flag_if (same t (ascii "good")) (same t (ascii "bad"))))
        (cond b (option_map (λ x. with_vendor x d) (name_of t))
        (cond c (option_map (λ x. with_class x d) (name_of t))
        (cond e (option_map (λ x. with_number x d) (decimal t))
        (cond f (option_map (λ x. with_event x d) (flag_if (same t (ascii "open")) (same t (ascii "closed")))) None))))) (refused_at n d)
        ≡ cond a (verdict_line n d t) (cond b (vendor_line n d t) (cond c (class_line n d t) (cond e (number_line n d t) (cond f (event_line n d t) (refused_at n d)))))
    go true b c e f = flag (same t (ascii "good")) (same t (ascii "bad")) (λ x. with_verdict x d)
    go false true c e f = value (is_bytes limits.class t) (bytes t) (λ x. with_vendor x d)
    go false false true e f = value (is_bytes limits.class t) (bytes t) (λ x. with_class x d)
    go false false false true f = value (is_number t) (number t) (λ x. with_number x d)
    go false false false false true = flag (same t (ascii "open")) (same t (ascii "closed")) (λ x. with_event x d)
    go false false false false false = refl

-- the counts after a line are those before it and what it adds, and within rooms of m and k bytes if they were
record Counted (m k : ℕ) (d : Scenario) (x : Said) : Type 0 where
  pub slots : x.scenario.slots ≡ d.slots + length x.slots
  pub answers : x.scenario.answers ≡ d.answers + length x.answers
  pub slots_fit : d.slots ≤ m → x.scenario.slots ≤ m
  pub answers_fit : d.answers ≤ k → x.scenario.answers ≤ k

module _ (m k : ℕ) where
  one_of : {d : Scenario} (b : Bool) (x y : Said) → (b ≡ true → Counted m k d x) → (b ≡ false → Counted m k d y) → Counted m k d (cond b x y)
  one_of true x y p q = p refl
  one_of false x y p q = q refl

  after_line : (d : Scenario) (x y : Said) → Counted m k d x → Counted m k x.scenario y → Counted m k d (x then y)
  after_line d x y p q =
      record {
        slots = rw (length-append x.slots y.slots) (omega (arith, p.slots, q.slots));
        answers = rw (length-append x.answers y.answers) (omega (arith, p.answers, q.answers));
        slots_fit = λ h. q.slots_fit (p.slots_fit h);
        answers_fit = λ h. q.answers_fit (p.answers_fit h);
      }

  counted_same : (d e : Scenario) → counts e ≡ counts d → Counted m k d (says e)
  unfolding counts
  counted_same d e h =
      let s : e.slots ≡ d.slots = ap (λ (p : ℕ × ℕ). p.0) h in
      let a : e.answers ≡ d.answers = ap (λ (p : ℕ × ℕ). p.1) h in
      record { slots = omega arith; answers = omega arith; slots_fit = λ f. omega arith; answers_fit = λ f. omega arith }

  counted-slot : (n : ℕ) (d : Scenario) (t : Bytes) → Counted m k d (slot_line m n d t)
  unfolding slot_line counts
  counted-slot n d t =
      one_of (is_slot t && leb (d.slots + slot_bytes) m) _ _
      (λ p.
      let (is, fits) = and-true (is_slot t) _ p in
      let l : length (slot t) ≡ slot_bytes = slot-length t is in
      let f : d.slots + slot_bytes ≤ m = leb-true (d.slots + slot_bytes) m fits in
      record { slots = omega arith; answers = omega arith; slots_fit = λ h. f; answers_fit = λ h. h })
      (λ p. counted_same d (refused_at n d) refl)

  counted-answer : (n : ℕ) (d : Scenario) (t : Bytes) → Counted m k d (answer_line k n d t)
  unfolding answer_line counts
  counted-answer n d t =
      one_of (is_answer t && leb (d.answers + answer_bytes) k) _ _
      (λ p.
      let (is, fits) = and-true (is_answer t) _ p in
      let l : length (answer t) ≡ answer_bytes = answer-length t is in
      let f : d.answers + answer_bytes ≤ k = leb-true (d.answers + answer_bytes) k fits in
      record { slots = omega arith; answers = omega arith; slots_fit = λ h. h; answers_fit = λ h. f })
      (λ p. counted_same d (refused_at n d) refl)

  counted : (n : ℕ) (d : Scenario) (l : Bytes) → Counted m k d (line m k n d l)
  unfolding line
  counted n d l =
      one_of (passed l) _ _ (λ p. counted_same d d refl)
      (λ p.
      one_of (same (word l) (ascii "slot")) _ _ (λ q. counted-slot n d (rest l))
      (λ q.
      one_of (same (word l) (ascii "answer")) _ _ (λ r. counted-answer n d (rest l))
      (λ r. counted_same d (setting n d (word l) (rest l)) (keep_setting n d (word l) (rest l)))))

-- what is left of a text, read from what its lines said so far, is the whole
pub record Left (whole : Said) (slots₀ answers₀ : Bytes) (x : Said) (d : Scenario) (slots answers : Bytes) : Type 0 where
  pub scenario : whole.scenario ≡ x.scenario
  pub slots_are : put slots₀ 0 whole.slots ≡ put slots d.slots x.slots
  pub answers_are : put answers₀ 0 whole.answers ≡ put answers d.answers x.answers

-- bytes behind bytes
behind : (room : Bytes) (at next : ℕ) (x y : Bytes) (room' : Bytes) → next ≡ at + length x → room' ≡ put room at x → put room at (x ++ y) ≡ put room' next y
behind room at next x y room' e h = rw (e, h) (sym (put-append room at x y))

module _ (m k n : ℕ) (d : Scenario) (l : Bytes) (ls : List Bytes) where
  go_on : (r : Scenario) → r ≡ (line m k n d (content l)).scenario → is_some r.refused ≡ false → lines_from m k n d (l ∷ ls) ≡ (line m k n d (content l) then lines_from m k (suc n) r ls)
  unfolding lines_from
  go_on r e h = rw (← e, h)

  stay : (r : Scenario) → r ≡ (line m k n d (content l)).scenario → is_some r.refused ≡ true → lines_from m k n d (l ∷ ls) ≡ line m k n d (content l)
  unfolding lines_from
  stay r e h = rw (← e, h)

  module _ (w : Said) (s₀ a₀ s a : Bytes) (r : Scenario) (s₁ a₁ : Bytes) (f : Left w s₀ a₀ (lines_from m k n d (l ∷ ls)) d s a)
      (t : Took (line m k n d (content l)) d s a r s₁ a₁) where
    pub left-next : is_some r.refused ≡ false → Left w s₀ a₀ (lines_from m k (suc n) r ls) r s₁ a₁
    left-next h =
        let g : Left w s₀ a₀ (line m k n d (content l) then lines_from m k (suc n) r ls) d s a = rw (go_on r t.scenario h) at f in
        let e = counted m k n d (content l) in
        let rest = lines_from m k (suc n) r ls in
        let slotsNext : r.slots ≡ d.slots + length (line m k n d (content l)).slots = ap (λ (x : Scenario). x.slots) t.scenario ∙ e.slots in
        let answersNext : r.answers ≡ d.answers + length (line m k n d (content l)).answers = ap (λ (x : Scenario). x.answers) t.scenario ∙ e.answers in
        record {
          scenario = g.scenario;
          slots_are = g.slots_are ∙ behind s d.slots r.slots (line m k n d (content l)).slots rest.slots s₁ slotsNext t.slots_are;
          answers_are = g.answers_are ∙ behind a d.answers r.answers (line m k n d (content l)).answers rest.answers a₁ answersNext t.answers_are;
        }

    pub left_stop : is_some r.refused ≡ true → Describes w s₀ a₀ r s₁ a₁
    left_stop h =
        let g : Left w s₀ a₀ (line m k n d (content l)) d s a = rw (stay r t.scenario h) at f in
        record { scenario = t.scenario ∙ sym g.scenario; slots_are = t.slots_are ∙ sym g.slots_are; answers_are = t.answers_are ∙ sym g.answers_are }

pub left_end : (m k n : ℕ) (d : Scenario) (w : Said) (s₀ a₀ s a : Bytes) → Left w s₀ a₀ (lines_from m k n d []) d s a → Describes w s₀ a₀ d s a
unfolding lines_from
left_end m k n d w s₀ a₀ s a f = record { scenario = sym f.scenario; slots_are = sym f.slots_are; answers_are = sym f.answers_are }

pub left-start : (m k : ℕ) (text s a : Bytes) → Left (described m k text) s a (lines_from m k 1 start (lines text)) start s a
unfolding described start
left-start m k text s a = record { scenario = refl; slots_are = refl; answers_are = refl }

pub took_slots : {x : Said} {d : Scenario} {s a : Bytes} {r : Scenario} {s₁ a₁ : Bytes} → Took x d s a r s₁ a₁ → length s₁ ≡ length s
took_slots {x} {d} {s} t = rw t.slots_are (length-sets s d.slots x.slots)

pub took_answers : {x : Said} {d : Scenario} {s a : Bytes} {r : Scenario} {s₁ a₁ : Bytes} → Took x d s a r s₁ a₁ → length a₁ ≡ length a
took_answers {x} {d} {s} {a} t = rw t.answers_are (length-sets a d.answers x.answers)

-- the lengths in the answer are those of the slots and the answers, which lie in their rooms
lines-counted : (m k n : ℕ) (d : Scenario) (ls : List Bytes) → Counted m k d (lines_from m k n d ls)
unfolding lines_from counts
lines-counted m k n d [] = counted_same m k d d refl
lines-counted m k n d (l ∷ ls) =
    let x = line m k n d (content l) in
    one_of m k (is_some x.scenario.refused) _ _ (λ p. counted m k n d (content l)) (λ p. after_line m k d x _ (counted m k n d (content l)) (lines-counted m k (suc n) x.scenario ls))

pub described_lengths : (m k : ℕ) (s : Bytes) → ((described m k s).scenario.slots ≡ length (described m k s).slots) × ((described m k s).scenario.answers ≡ length (described m k s).answers)
unfolding described start
described_lengths m k s =
    let e = lines-counted m k 1 start (lines s) in
    (omega (arith, e.slots), omega (arith, e.answers))

pub described-fits : (m k : ℕ) (s : Bytes) → ((described m k s).scenario.slots ≤ m) × ((described m k s).scenario.answers ≤ k)
unfolding described start
described-fits m k s =
    let e = lines-counted m k 1 start (lines s) in
    (e.slots_fit (omega arith), e.answers_fit (omega arith))
