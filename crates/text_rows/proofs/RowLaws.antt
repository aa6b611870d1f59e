-- The word of a number, found in the two lists of its table.
use Prim.Native.Nat.{ℕ, zero, suc, ◌+◌, ◌-◌, ◌≤◌, ◌<◌}
use mathlib.Core.Path.{◌≡◌, refl, sym, ap, ◌∙◌}
use mathlib.Core.Bool.{Bool, true, false, cond, false≢true}
use mathlib.Core.List.{List, [], ◌∷◌, ◌++◌, append-nil}
use lib.Dec.{eqb}
use lib.ListN.{length, take, drop, get_or, drop_of_length-le}
use lib.Seq.{drop-cons}
use native.Mathlib.Omega.{arith}
use native.Mathlib.Numerals.{add-one}
use borrow.Author.Tests.{eq-eqb, ne_eqb}
use Rattle.rules.proofs.BytesLaws.{part-rest}
use Rattle.text.specs.Text.{Bytes, Wrote, position}
use Rattle.text_rows.specs.Rows.{wide}
use Rattle.text_rows.specs.Rows.{Row, word_of, numbers, words, before, after, barless, plain}

module _ (s : Bytes) (i : ℕ) where
  pub after_bar : (k : ℕ) → i < length s → (k ≡ 0 → ⊥) → get_or s i 0 ≡ 124 → after (k - 1) (drop (i + 1) s) ≡ after k (drop i s)
  unfolding after
  after_bar zero h z e = absurd (z refl)
  after_bar (suc k) h z e =
      let one : suc k - 1 ≡ k = omega arith in
      rw (drop-cons s i 0 h, eq-eqb (get_or s i 0) 124 e, add-one i, one)

  pub after_next : (k : ℕ) → i < length s → (k ≡ 0 → ⊥) → (get_or s i 0 ≡ 124 → ⊥) → after k (drop (i + 1) s) ≡ after k (drop i s)
  unfolding after
  after_next zero h z e = absurd (z refl)
  after_next (suc k) h z e = rw (drop-cons s i 0 h, ne_eqb (get_or s i 0) 124 e, add-one i)

  pub after_none : (k j : ℕ) → length s ≤ i → after j (drop i s) ≡ after k s → drop i s ≡ after k s
  unfolding after
  after_none k j h q = rw (drop_of_length-le s h) (sym (nothing j) ∙ (rw (drop_of_length-le s h) at q))
    where
      nothing : (j : ℕ) → after j [] ≡ []
      nothing zero = refl
      nothing (suc j) = refl

pub after-zero : (s t : Bytes) (k : ℕ) → k ≡ 0 → after k s ≡ t → s ≡ t
unfolding after
after-zero s t k z q = rw z at q

-- what stands before the first bar, by its place
pub before_is : (s : Bytes) → take (position 124 s) s ≡ before s
unfolding position before
before_is [] = refl
before_is (b ∷ s) = go (eqb b 124) (before_is s)
  where
    go : (x : Bool) → take (position 124 s) s ≡ before s → take (cond x 0 (suc (position 124 s))) (b ∷ s) ≡ cond x [] (b ∷ before s)
    go true h = refl
    go false h = ap (λ (t : Bytes). b ∷ t) h

-- the word of line k, as a part of the words
pub word-part : (s : Bytes) (k from : ℕ) → drop from s ≡ after k s →
    take (position 124 (take (length s - from) (drop from s))) (take (length s - from) (drop from s)) ≡ before (after k s)
word-part s k from e = before_is (take (length s - from) (drop from s)) ∙ ap before (part-rest s from ∙ e)

first_word : (w t : Bytes) → barless w ≡ true → before (w ++ (124 ∷ t)) ≡ w
unfolding before barless
first_word [] t e = refl
first_word (b ∷ w) t e = go (eqb b 124) (first_word w t) e
  where
    go : (x : Bool) → (barless w ≡ true → before (w ++ (124 ∷ t)) ≡ w) → cond x false (barless w) ≡ true → cond x [] (b ∷ before (w ++ (124 ∷ t))) ≡ b ∷ w
    go true h f = absurd (false≢true f)
    go false h f = rw (h f)

past_word : (k : ℕ) (w t : Bytes) → barless w ≡ true → after (suc k) (w ++ (124 ∷ t)) ≡ after k t
unfolding after barless
past_word k [] t e = refl
past_word k (b ∷ w) t e = go (eqb b 124) (past_word k w t) e
  where
    go : (x : Bool) → (barless w ≡ true → after (suc k) (w ++ (124 ∷ t)) ≡ after k t) → cond x false (barless w) ≡ true →
        cond x (after k (w ++ (124 ∷ t))) (after (suc k) (w ++ (124 ∷ t))) ≡ after k t
    go true h f = absurd (false≢true f)
    go false h f = h f

-- what the two lists of a table give is its word
word_of_lem : (n : ℕ) (rs : List Row) → plain rs ≡ true → before (after (position n (numbers rs)) (words rs)) ≡ word_of n rs
unfolding word_of numbers words position after before plain
word_of_lem n [] e = refl
word_of_lem n (r ∷ rs) e = go (barless r.word) refl (word_of_lem n rs) e
  where
    by : barless r.word ≡ true → before (after (position n (numbers rs)) (words rs)) ≡ word_of n rs → (x : Bool) →
        before (after (cond x 0 (suc (position n (numbers rs)))) (r.word ++ (124 ∷ words rs))) ≡ cond x r.word (word_of n rs)
    by f h true = first_word r.word (words rs) f
    by f h false = rw (past_word (position n (numbers rs)) r.word (words rs) f) h

    go : (y : Bool) → barless r.word ≡ y → (plain rs ≡ true → before (after (position n (numbers rs)) (words rs)) ≡ word_of n rs) → cond y (plain rs) false ≡ true →
        before (after (cond (eqb r.number n) 0 (suc (position n (numbers rs)))) (r.word ++ (124 ∷ words rs))) ≡ cond (eqb r.number n) r.word (word_of n rs)
    go true f h g = by f (h g) (eqb r.number n)
    go false f h g = absurd (false≢true g)

pub wide-none : (w : Bytes) → wide 0 w ≡ w
unfolding wide
wide-none w =
    let none : 0 - length w ≡ 0 = omega arith in
    rw none (append-nil w)

-- a table's word was written, with spaces up to a width or with none
module _ (n : ℕ) (rs : List Row) (p : plain rs ≡ true) {at : ℕ} {room : Bytes} {r : ℕ} {room' : Bytes} where
  pub wrote_wide_word : (width : ℕ) → Wrote (wide width (before (after (position n (numbers rs)) (words rs)))) at room r room' → Wrote (wide width (word_of n rs)) at room r room'
  wrote_wide_word width w = rw (word_of_lem n rs p) at w

  pub wrote-word : Wrote (wide 0 (before (after (position n (numbers rs)) (words rs)))) at room r room' → Wrote (word_of n rs) at room r room'
  wrote-word w = rw (wide-none (word_of n rs)) at (wrote_wide_word 0 w)
