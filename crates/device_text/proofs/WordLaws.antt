-- Words, lines, numbers and digits, one byte after the other.
use Prim.Native.Nat.{ℕ, zero, suc, ◌+◌, ◌-◌, ◌*◌, ◌%◌, ◌≤◌, ◌<◌}
use mathlib.Core.Path.{◌≡◌, refl, sym, ap, ◌∙◌}
use mathlib.Core.List.{List, [], ◌∷◌, ◌++◌, nil≢cons, head-eq_of_cons-eq, tail-eq_of_cons-eq}
use mathlib.Core.Bool.{Bool, true, false, cond, ◌&&◌}
use lib.Dec.{eqb, ltb, leb}
use borrow.Author.Tests.{lt-ltb, le-ltb, lt-leb, le-leb, ltb-true, ltb-false, eq-eqb}
use native.Mathlib.Omega.{arith}
use native.Mathlib.Numerals.{add-one}
use lib.ListN.{length, take, drop, get_or, length-drop, drop_of_length-le}
use lib.Seq.{drop-cons, drop-drop, drop-length, take-suc, take-length}
use Rattle.std.specs.Prelude.{Option, Some, None, MatchOption, HoldsAt}
use Rattle.std.specs.List.{AllWithin}
use Rattle.std.specs.Option.{unwrap_or, is_some}
use Rattle.std.proofs.lemmas.Iterator.{index_from_first}
use Rattle.std.proofs.lemmas.Bool.Decides.{nat_tests}
use Rattle.rules.specs.Bytes.{Bytes}
use Rattle.rules.proofs.BytesLaws.{part-rest}
use Rattle.text.specs.Text.{position}
use Rattle.text.proofs.TextLaws.{first_within}
use Rattle.device_text.specs.Words.{before, after, lines, line_feed, behind_lines, blank, first_blank, skip, kept, trim, content, line_of, one_more, number_from, no_number, number, is_number, decimal, digit, value, all_digits, pair, unhex}

-- the first blank, as `position` followed by `unwrap_or` gives it
pub first_blank_is : (s : Bytes) (r : Option ℕ) →
    MatchOption r (AllWithin (λ x. blank x ≡ false) s 0 (length s)) (λ i. (i < length s) × HoldsAt (λ x. blank x ≡ true) s i × AllWithin (λ x. blank x ≡ false) s 0 i) →
    (unwrap_or r (length s) ≡ first_blank s) × (unwrap_or r (length s) ≤ length s)
unfolding first_blank
first_blank_is s r h = (sym (index_from_first first_blank (λ x. blank x ≡ true) (λ x. blank x ≡ false) refl (λ x xs e. rw e) (λ x xs e. rw e (sym (add-one (first_blank xs)))) s r h), first_within (λ x. blank x ≡ true) (λ x. blank x ≡ false) s r h)

-- no blank is in front of nothing; one byte less is looked at
pub skip-none : (s : Bytes) → length s < 1 → skip s ≡ s
unfolding skip
skip-none [] h = refl
skip-none (x ∷ s) h = absurd (some h)
  where
    some : suc (length s) < 1 → ⊥
    some e = omega arith

pub skip-here : (s : Bytes) → 1 ≤ length s → blank (get_or s 0 0) ≡ false → skip s ≡ s
unfolding skip
skip-here [] h e = refl
skip-here (x ∷ s) h e = rw e

pub skip-next : (s : Bytes) → 1 ≤ length s → blank (get_or s 0 0) ≡ true → skip s ≡ skip (take (length s - 1) (drop 1 s))
unfolding skip
skip-next s h e = rw (part-rest s 1) (go s h e)
  where
    go : (s : Bytes) → 1 ≤ length s → blank (get_or s 0 0) ≡ true → skip s ≡ skip (drop 1 s)
    go [] h e = refl
    go (x ∷ s) h e = rw e

trim-last : (s : Bytes) (x : ℕ) → trim (s ++ (x ∷ [])) ≡ cond (blank x) (trim s) (s ++ (x ∷ []))
unfolding trim
trim-last [] x = refl
trim-last (y ∷ s) x = rw (trim-last s x) (go (blank x) s)
  where
    go : (t : Bool) (s : Bytes) → kept y (cond t (trim s) (s ++ (x ∷ []))) ≡ cond t (kept y (trim s)) (y ∷ s ++ (x ∷ []))
    go true s = refl
    go false [] = refl
    go false (z ∷ s) = refl

pub trim-none : (s : Bytes) → length s < 1 → trim s ≡ s
unfolding trim
trim-none [] h = refl
trim-none (x ∷ s) h = absurd (some h)
  where
    some : suc (length s) < 1 → ⊥
    some e = omega arith

trim-turn : (s : Bytes) (n : ℕ) → 0 < n → n ≤ length s → trim (take n s) ≡ cond (blank (get_or s (n - 1) 0)) (trim (take (n - 1) s)) (take n s)
trim-turn s zero h l = absurd (none h)
  where
    none : 0 < 0 → ⊥
    none e = omega arith
trim-turn s (suc n) h l =
    let e : suc n - 1 ≡ n = omega arith in
    rw (e, take-suc s n 0 l) (trim-last (take n s) (get_or s n 0))

pub trim-turns : (s : Bytes) → 1 ≤ length s → trim s ≡ cond (blank (get_or s (length s - 1) 0)) (trim (take (length s - 1) s)) s
trim-turns s h = rw (take-length s) at (trim-turn s (length s) h (omega arith))

module _ (s : Bytes) (i : ℕ) where
  pub number-next : (n : ℕ) → i < length s → number_from n (drop i s) ≡ number_from (one_more n (get_or s i 0)) (drop (i + 1) s)
  unfolding number_from
  number-next n h = rw (drop-cons s i 0 h, add-one i)

  pub number-end : (n : ℕ) → length s ≤ i → number_from n (drop i s) ≡ n
  unfolding number_from
  number-end n h = rw (drop_of_length-le s h)

-- digits in a row, as `all` asks for them
pub all_digits-step : (b : ℕ) (s : Bytes) → all_digits (b ∷ s) ≡ (is_some (value b) && all_digits s)
unfolding all_digits
all_digits-step b s = go (ltb (digit b) 16)
  where
    go : (t : Bool) → cond t (all_digits s) false ≡ (is_some (cond t (Some (digit b)) None) && all_digits s)
    go true = refl
    go false = refl

pub all_digits-none : all_digits [] ≡ true
unfolding all_digits
all_digits-none = refl

-- what is no number stays none
number-stuck : (n : ℕ) (s : Bytes) → n ≡ no_number → number_from n s ≡ no_number
unfolding number_from one_more
number-stuck n [] e = e
number-stuck n (b ∷ s) e = number-stuck (one_more n b) s (rw e (one (ltb b 48) (ltb 57 b)))
  where
    one : (x y : Bool) → cond x no_number (cond y no_number no_number) ≡ no_number
    one true y = refl
    one false true = refl
    one false false = refl

pub decimal-none : (w : Bytes) {v : Bytes} {d : Option ℕ} → d ≡ decimal v → v ≡ w → is_some d ≡ false → is_number w ≡ false
decimal-none w e u h = go (is_number w) (rw (e, u) at h)
  where
    go : (t : Bool) → is_some (cond t (Some (number w)) None) ≡ false → t ≡ false
    go true e = e
    go false e = refl

-- a word that writes no number, and one that does
pub decimal-empty : (w : Bytes) → length w ≡ 0 → None ≡ decimal w
unfolding number
decimal-empty w e = rw (eq-eqb (length w) 0 e)

pub decimal-stuck : (w : Bytes) (i n : ℕ) → i < length w → number w ≡ number_from n (drop i w) → one_more n (get_or w i 0) ≡ no_number → None ≡ decimal w
decimal-stuck w i n h e m =
    let none : number w ≡ no_number = e ∙ number-next w i n h ∙ number-stuck (one_more n (get_or w i 0)) (drop (i + 1) w) m in
    rw none

pub decimal-all : (w : Bytes) (i n : ℕ) → length w ≤ i → n < no_number → number w ≡ number_from n (drop i w) → Some n ≡ decimal w
decimal-all w i n h l e =
    let all : number w ≡ n = e ∙ number-end w i n h in
    rw (all, lt-ltb n no_number l)

-- one byte more: no digit, one too many, or one that fits
pub more-other : (n b : ℕ) → (48 ≤ b → b ≤ 57 → ⊥) → one_more n b ≡ no_number
unfolding one_more
more-other n b h = go (ltb b 48) (ltb 57 b) refl refl
  where
    go : (x y : Bool) → ltb b 48 ≡ x → ltb 57 b ≡ y →
        cond x no_number (cond y no_number (cond (leb no_number n) no_number (cond (leb no_number (n * 10 + (b - 48))) no_number (n * 10 + (b - 48))))) ≡ no_number
    go true y e f = refl
    go false true e f = refl
    go false false e f = absurd (h (ltb-false _ _ e) (ltb-false _ _ f))

pub more-large : (n b : ℕ) → 48 ≤ b → b ≤ 57 → n < no_number → no_number ≤ n * 10 + (b - 48) → one_more n b ≡ no_number
unfolding one_more
more-large n b l u h m = rw (le-ltb b 48 l, le-ltb 57 b u, lt-leb no_number n h, le-leb no_number (n * 10 + (b - 48)) m)

pub more_fits : (n b : ℕ) → 48 ≤ b → b ≤ 57 → n < no_number → n * 10 + (b - 48) < no_number → one_more n b ≡ n * 10 + (b - 48)
unfolding one_more
more_fits n b l u h m = rw (le-ltb b 48 l, le-ltb 57 b u, lt-leb no_number n h, lt-leb no_number (n * 10 + (b - 48)) m)

one_more-le : (n b : ℕ) → one_more n b ≤ no_number
unfolding one_more
one_more-le n b = grind (arith, nat_tests)

-- a number is at most the one that stands for none
number_from-le : (n : ℕ) (s : Bytes) → n ≤ no_number → number_from n s ≤ no_number
unfolding number_from
number_from-le n [] h = h
number_from-le n (b ∷ s) h = number_from-le (one_more n b) s (one_more-le n b)

pub number-le : (w : Bytes) → number w ≤ no_number
unfolding number
number-le w = go (eqb (length w) 0)
  where
    go : (t : Bool) → cond t no_number (number_from 0 w) ≤ no_number
    go true = omega arith
    go false = number_from-le 0 w (omega arith)

digit-le : (b : ℕ) → digit b ≤ 16
unfolding digit
digit-le b = grind (arith, nat_tests)

-- what none is taken for
pub value-or : (b : ℕ) → unwrap_or (value b) 0 ≡ digit b % 16
value-or b = go (ltb (digit b) 16) refl
  where
    go : (t : Bool) → ltb (digit b) 16 ≡ t → unwrap_or (cond t (Some (digit b)) None) 0 ≡ digit b % 16
    go true e = let l : digit b < 16 = ltb-true _ _ e in omega arith
    go false e = let l : digit b ≡ 16 = omega (arith, digit-le b, ltb-false _ _ e) in rw l

pub unhex-next : (n : ℕ) (s : Bytes) → unhex n s ++ (pair (get_or s (n * 2) 0) (get_or s (n * 2 + 1) 0) ∷ []) ≡ unhex (n + 1) s
unfolding unhex
unhex-next n s = rw (add-one n)

-- the place behind a line
module _ (s t : Bytes) (at n : ℕ) (e : t ≡ drop at s) (u : n ≡ position line_feed t) where
  pub behind-length : length t ≡ length s - at
  behind-length = rw (e, length-drop at s)

  pub next_more : drop (at + n + 1) s ≡ after line_feed (drop at s)
  next_more =
      let k : at + n + 1 ≡ at + suc n = omega arith in
      rw (k, ← drop-drop (suc n) at s, u, e)

  pub next-none : length t ≤ n → drop (length s) s ≡ after line_feed (drop at s)
  next-none h =
      let l : length (drop at s) ≤ suc (position line_feed (drop at s)) = rw (u, e) at h2 in
      drop-length s ∙ sym (drop_of_length-le (drop at s) l)
    where
      h2 : length t ≤ suc n
      h2 = omega arith

-- one line more is passed
pub behind-none : (s : Bytes) → s ≡ behind_lines 0 s
unfolding behind_lines
behind-none s = refl

pub behind-next : (s : Bytes) (at next i : ℕ) → 1 ≤ i → drop at s ≡ behind_lines (i - 1) s → drop next s ≡ after line_feed (drop at s) → drop next s ≡ behind_lines (i + 1 - 1) s
unfolding behind_lines
behind-next s at next zero h e n = absurd (none h)
  where
    none : 1 ≤ 0 → ⊥
    none x = omega arith
behind-next s at next (suc i) h e n =
    let k : suc i + 1 - 1 ≡ suc i = omega arith in
    let j : suc i - 1 ≡ i = omega arith in
    let e' : drop at s ≡ behind_lines i s = rw j at e in
    n ∙ rw (k, e')

pub behind-all : (s : Bytes) (at i n : ℕ) → i - 1 ≡ n - 1 → drop at s ≡ behind_lines (i - 1) s → drop at s ≡ behind_lines (n - 1) s
behind-all s at i n h e = rw h at e

-- the first line, and those behind it
abbrev Cut : Bytes → Type 0
Cut s = lines s ≡ before line_feed s ∷ lines (after line_feed s)

cut-one : (x : ℕ) (b : Bool) → eqb x line_feed ≡ b → Cut (x ∷ [])
unfolding lines position
cut-one x true e = rw e
cut-one x false e = rw e

cut-more : (x : ℕ) (s : Bytes) (b : Bool) → eqb x line_feed ≡ b → Cut s → Cut (x ∷ s)
unfolding lines position
cut-more x s true e h = rw e
cut-more x s false e h = rw (e, h)

cut : (x : ℕ) (s : Bytes) → Cut (x ∷ s)
cut x [] = cut-one x (eqb x line_feed) refl
cut x (y ∷ s) = cut-more x (y ∷ s) (eqb x line_feed) refl (cut y s)

pub lines_next : (s : Bytes) (at : ℕ) → at < length s → lines (drop at s) ≡ before line_feed (drop at s) ∷ lines (after line_feed (drop at s))
lines_next s at h = rw (drop-cons s at 0 h) (cut (get_or s at 0) (drop (suc at) s))

pub lines_end : (s : Bytes) (at : ℕ) → length s ≤ at → lines (drop at s) ≡ []
unfolding lines
lines_end s at h = rw (drop_of_length-le s h)

-- the line of number n, counted from 1, is that of the lines which has so many before it
behind-first : (n : ℕ) (s : Bytes) → behind_lines (suc n) s ≡ behind_lines n (after line_feed s)
unfolding behind_lines
behind-first zero s = refl
behind-first (suc n) s = ap (after line_feed) (behind-first n s)

line-behind : (n : ℕ) (s : Bytes) → line_of (suc (suc n)) s ≡ line_of (suc n) (after line_feed s)
unfolding line_of
line-behind n s =
    let a : suc (suc n) - 1 ≡ suc n = omega arith in
    let b : suc n - 1 ≡ n = omega arith in
    rw (a, b, behind-first n s)

line_first : (s : Bytes) → line_of 1 s ≡ content (before line_feed s)
unfolding line_of behind_lines
line_first s = refl

parted : (s l : Bytes) (ls : List Bytes) → lines s ≡ l ∷ ls → (before line_feed s ≡ l) × (lines (after line_feed s) ≡ ls)
unfolding lines
parted [] l ls h = absurd (nil≢cons h)
parted (x ∷ s) l ls h = (head-eq_of_cons-eq (sym (cut x s) ∙ h), tail-eq_of_cons-eq (sym (cut x s) ∙ h))

pub line_of-lines : (xs : List Bytes) (l : Bytes) (ys : List Bytes) (s : Bytes) → lines s ≡ xs ++ (l ∷ ys) → line_of (suc (length xs)) s ≡ content l
line_of-lines [] l ys s h = line_first s ∙ ap content (parted s l ys h).0
line_of-lines (x ∷ xs) l ys s h = line-behind (length xs) s ∙ line_of-lines xs l ys (after line_feed s) (parted s x (xs ++ (l ∷ ys)) h).1
