-- Lines of words, as they are written and as they are read.
use Prim.Native.Nat.{ℕ, zero, suc, ◌+◌, ◌/◌, ◌%◌, ◌<◌}
use mathlib.Core.Path.{◌≡◌, refl, ap}
use mathlib.Core.List.{List, [], ◌∷◌, ◌++◌}
use mathlib.Core.Bool.{Bool, true, false, cond, false≢true}
use lib.Dec.{eqb, ltb}
use borrow.Author.Tests.{ltb-true, eqb-true, lt-ltb, ne_eqb}
use native.Mathlib.Omega.{arith}
use lib.ListN.{length, length-append}
use lib.Seq.{take-length, take-append_seam, drop-append_seam}
use Rattle.rules.specs.Bytes.{Bytes}
use Rattle.text.specs.Text.{position, digit, digits, hex}
use Rattle.device_text.specs.Words.{comment, lines, blank, first_blank, skip, kept, trim, content, word, rest}

-- bytes above '#': no blank, no end of a line, no comment
unfoldable pub plain : Bytes → Bool
plain [] = true
plain (x ∷ s) = cond (ltb 35 x) (plain s) false

-- a word has such bytes, and at least one
unfoldable pub is_word : Bytes → Bool
is_word [] = false
is_word (x ∷ s) = cond (ltb 35 x) (plain s) false

unfoldable pub are_words : List Bytes → Bool
are_words [] = true
are_words (w ∷ ws) = cond (is_word w) (are_words ws) false

-- words, parted by a space each
unfoldable pub joined : Bytes → List Bytes → Bytes
joined w [] = w
joined w (v ∷ vs) = w ++ (32 ∷ joined v vs)

pub both : (x y : Bool) → cond x y false ≡ true → (x ≡ true) × (y ≡ true)
both true y h = (refl, h)
both false y h = absurd (false≢true h)

above : (x : ℕ) (s : Bytes) → cond (ltb 35 x) (plain s) false ≡ true → (35 < x) × (plain s ≡ true)
above x s h =
    let p = both (ltb 35 x) (plain s) h in
    (ltb-true 35 x p.0, p.1)

no_blank : (x : ℕ) → 35 < x → blank x ≡ false
no_blank x h = rw (ne_eqb x 32 (λ e. omega arith), ne_eqb x 9 (λ e. omega arith), ne_eqb x 13 (λ e. omega arith))

pub word-plain : (w : Bytes) → is_word w ≡ true → plain w ≡ true
unfolding is_word plain
word-plain [] h = refl
word-plain (x ∷ w) h = h

-- the first word, and what stands behind it
first_word : (w r : Bytes) → plain w ≡ true → first_blank (w ++ (32 ∷ r)) ≡ length w
unfolding plain first_blank
first_word [] r h = refl
first_word (x ∷ w) r h =
    let p = above x w h in
    rw (no_blank x p.0) (ap suc (first_word w r p.1))

first-end : (w : Bytes) → plain w ≡ true → first_blank w ≡ length w
unfolding plain first_blank
first-end [] h = refl
first-end (x ∷ w) h =
    let p = above x w h in
    rw (no_blank x p.0) (ap suc (first-end w p.1))

pub word-joined : (w : Bytes) (ws : List Bytes) → plain w ≡ true → word (joined w ws) ≡ w
unfolding word joined
word-joined w [] h = rw (first-end w h) (take-length w)
word-joined w (v ∷ vs) h = rw (first_word w (joined v vs) h) (take-append_seam w (32 ∷ joined v vs))

skip-joined : (w : Bytes) (ws : List Bytes) → is_word w ≡ true → skip (joined w ws) ≡ joined w ws
unfolding is_word joined skip
skip-joined [] ws h = absurd (false≢true h)
skip-joined (x ∷ w) [] h = rw (no_blank x (above x w h).0)
skip-joined (x ∷ w) (v ∷ vs) h = rw (no_blank x (above x w h).0)

pub rest-joined : (w v : Bytes) (vs : List Bytes) → plain w ≡ true → is_word v ≡ true → rest (joined w (v ∷ vs)) ≡ joined v vs
unfolding rest joined skip
rest-joined w v vs h k = rw (first_word w (joined v vs) h, drop-append_seam w (32 ∷ joined v vs)) (skip-joined v vs k)

-- bytes with no end of a line and no comment
quiet : Bytes → Bool
quiet [] = true
quiet (x ∷ s) = cond (ltb 35 x) (quiet s) (cond (eqb x 32) (quiet s) false)

quiet_word : (w : Bytes) → plain w ≡ true → quiet w ≡ true
unfolding plain quiet
quiet_word [] h = refl
quiet_word (x ∷ w) h =
    let p = both (ltb 35 x) (plain w) h in
    rw p.0 (quiet_word w p.1)

quiet_more : (w r : Bytes) → plain w ≡ true → quiet r ≡ true → quiet (w ++ (32 ∷ r)) ≡ true
unfolding plain quiet
quiet_more [] r h k = k
quiet_more (x ∷ w) r h k =
    let p = both (ltb 35 x) (plain w) h in
    rw p.0 (quiet_more w r p.1 k)

quiet_joined : (w : Bytes) (ws : List Bytes) → are_words (w ∷ ws) ≡ true → quiet (joined w ws) ≡ true
unfolding are_words joined
quiet_joined w [] h = quiet_word w (word-plain w (both (is_word w) _ h).0)
quiet_joined w (v ∷ vs) h =
    let p = both (is_word w) _ h in
    quiet_more w (joined v vs) (word-plain w p.0) (quiet_joined v vs p.1)

one_of : (x : ℕ) (s : Bytes) → quiet (x ∷ s) ≡ true → (quiet s ≡ true) × (eqb x 10 ≡ false) × (eqb x 35 ≡ false)
unfolding quiet
one_of x s h = go (ltb 35 x) (eqb x 32) refl refl h
  where
    go : (a b : Bool) → ltb 35 x ≡ a → eqb x 32 ≡ b → cond a (quiet s) (cond b (quiet s) false) ≡ true → (quiet s ≡ true) × (eqb x 10 ≡ false) × (eqb x 35 ≡ false)
    go true b e f k =
        let l : 35 < x = ltb-true 35 x e in
        (k, ne_eqb x 10 (λ q. omega arith), ne_eqb x 35 (λ q. omega arith))
    go false true e f k =
        let l : x ≡ 32 = eqb-true x 32 f in
        (k, ne_eqb x 10 (λ q. omega arith), ne_eqb x 35 (λ q. omega arith))
    go false false e f k = absurd (false≢true k)

no_comment : (s : Bytes) → quiet s ≡ true → position comment s ≡ length s
unfolding position
no_comment [] h = refl
no_comment (x ∷ s) h =
    let p = one_of x s h in
    rw p.2 (ap suc (no_comment s p.0))

lines_cut : (s t : Bytes) → quiet s ≡ true → lines (s ++ (10 ∷ t)) ≡ s ∷ lines t
unfolding lines
lines_cut [] t h = refl
lines_cut (x ∷ s) t h =
    let p = one_of x s h in
    rw (p.1, lines_cut s t p.0)

-- no blanks at the end
trim-word : (w : Bytes) → plain w ≡ true → trim w ≡ w
unfolding trim plain
trim-word [] h = refl
trim-word (x ∷ []) h = rw (no_blank x (above x [] h).0)
trim-word (x ∷ y ∷ w) h = rw (trim-word (y ∷ w) (above x (y ∷ w) h).1)

trim-more : (w r : Bytes) → 0 < length r → trim r ≡ r → trim (w ++ r) ≡ w ++ r
unfolding trim
trim-more [] r l h = h
trim-more (x ∷ w) r l h = rw (trim-more w r l h) (some (w ++ r) (rw (length-append w r) (omega arith)))
  where
    some : (s : Bytes) → 0 < length s → kept x s ≡ x ∷ s
    some [] k = absurd (none k)
      where
        none : 0 < 0 → ⊥
        none e = omega arith
    some (y ∷ s) k = refl

pub joined-some : (w : Bytes) (ws : List Bytes) → is_word w ≡ true → 0 < length (joined w ws)
unfolding is_word joined
joined-some [] ws h = absurd (false≢true h)
joined-some (x ∷ w) [] h = omega arith
joined-some (x ∷ w) (v ∷ vs) h = omega arith

trim-joined : (w : Bytes) (ws : List Bytes) → are_words (w ∷ ws) ≡ true → trim (joined w ws) ≡ joined w ws
unfolding are_words joined
trim-joined w [] h = trim-word w (word-plain w (both (is_word w) _ h).0)
trim-joined w (v ∷ vs) h =
    let p = both (is_word w) _ h in
    let q = both (is_word v) _ p.1 in
    let e : trim (joined v vs) ≡ joined v vs = trim-joined v vs p.1 in
    trim-more w (32 ∷ joined v vs) (omega arith) (trim-more (32 ∷ []) (joined v vs) (joined-some v vs q.0) e)

pub content-joined : (w : Bytes) (ws : List Bytes) → are_words (w ∷ ws) ≡ true → content (joined w ws) ≡ joined w ws
unfolding content are_words
content-joined w ws h =
    rw (no_comment (joined w ws) (quiet_joined w ws h), take-length (joined w ws), trim-joined w ws h) (skip-joined w ws (both (is_word w) _ h).0)

pub lines-joined : (w : Bytes) (ws : List Bytes) (t : Bytes) → are_words (w ∷ ws) ≡ true → lines (joined w ws ++ (10 ∷ t)) ≡ joined w ws ∷ lines t
lines-joined w ws t h = lines_cut (joined w ws) t (quiet_joined w ws h)

-- what digits write is a word
pub word_of_lem : (w : Bytes) → plain w ≡ true → 0 < length w → is_word w ≡ true
unfolding plain is_word
word_of_lem [] h l = absurd (none l)
  where
    none : 0 < 0 → ⊥
    none e = omega arith
word_of_lem (x ∷ w) h l = h

pub plain-digit : (d : ℕ) (s : Bytes) → plain s ≡ true → plain (digit d ∷ s) ≡ true
unfolding plain
plain-digit d s h = rw (lt-ltb 35 (digit d) (go (ltb d 10))) h
  where
    go : (b : Bool) → 35 < cond b (48 + d) (87 + d)
    go true = omega arith
    go false = omega arith

plain-append : (a b : Bytes) → plain a ≡ true → plain b ≡ true → plain (a ++ b) ≡ true
unfolding plain
plain-append [] b h k = k
plain-append (x ∷ a) b h k =
    let p = both (ltb 35 x) (plain a) h in
    rw p.0 (plain-append a b p.1 k)

pub plain-digits : (k n : ℕ) → plain (digits k n) ≡ true
unfolding plain digits
plain-digits zero n = refl
plain-digits (suc k) n = go (ltb n 10) (plain-digits k (n / 10))
  where
    go : (b : Bool) → plain (digits k (n / 10)) ≡ true → plain (cond b (digit n ∷ []) (digits k (n / 10) ++ (digit (n % 10) ∷ []))) ≡ true
    go true h = plain-digit n [] refl
    go false h = plain-append (digits k (n / 10)) (digit (n % 10) ∷ []) h (plain-digit (n % 10) [] refl)

pub plain-hex : (b : Bytes) → plain (hex b) ≡ true
unfolding hex plain
plain-hex [] = refl
plain-hex (x ∷ b) = plain-digit (x / 16) (digit (x % 16) ∷ hex b) (plain-digit (x % 16) (hex b) (plain-hex b))
