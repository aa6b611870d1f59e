-- Numbers and bytes as digits read back as themselves.
use Prim.Native.Nat.{ℕ, zero, suc, ◌+◌, ◌-◌, ◌*◌, ◌/◌, ◌%◌, ◌≤◌, ◌<◌}
use mathlib.Core.Path.{◌≡◌, refl, sym, ◌∙◌}
use mathlib.Core.List.{[], ◌∷◌, ◌++◌}
use mathlib.Core.Bool.{Bool, true, false, cond}
use lib.Dec.{ltb}
use borrow.Author.Tests.{ltb-true, ltb-false, lt-ltb, le-ltb, lt-leb, le-leb, eq-eqb, ne_eqb}
use native.Mathlib.Omega.{arith}
use lib.ListN.{length, take, get_or, length-append}
use lib.Seq.{take-suc, take-length}
use Rattle.rules.specs.Bytes.{Bytes}
use Rattle.text.specs.Text.{digits, decimal, hex}
use Rattle.text.specs.Text.{digit as written}
use Rattle.device_text.specs.Words.{no_number, one_more, number_from, number, digit, all_digits, pair, unhex, bytes, is_bytes, up_to_bytes}
use Rattle.device_writing.proofs.LineLaws.{is_word, word_of_lem, plain-digits, plain-hex}

-- a digit in hexadecimal
value : (d : ℕ) → d < 16 → digit (written d) ≡ d
unfolding digit
value d h = go (ltb d 10) refl
  where
    go : (b : Bool) → ltb d 10 ≡ b → digit (cond b (48 + d) (87 + d)) ≡ d
    go true e =
        let l : d < 10 = ltb-true d 10 e in
        rw (le-ltb (48 + d) 48 (omega arith), le-leb (48 + d) 57 (omega arith)) (omega arith)
    go false e =
        let l : 10 ≤ d = ltb-false d 10 e in
        rw (
          le-ltb (87 + d) 48 (omega arith),
          lt-leb (87 + d) 57 (omega arith),
          le-ltb (87 + d) 65 (omega arith),
          lt-leb (87 + d) 70 (omega arith),
          le-ltb (87 + d) 97 (omega arith),
          le-leb (87 + d) 102 (omega arith),
        ) (omega arith)

-- a number in decimal
one-digit : (n d : ℕ) → d < 10 → n * 10 + d < no_number → one_more n (written d) ≡ n * 10 + d
unfolding one_more
one-digit n d h f =
    let e : 48 + d - 48 ≡ d = omega arith in
    rw (
      lt-ltb d 10 h,
      le-ltb (48 + d) 48 (omega arith),
      le-ltb 57 (48 + d) (omega arith),
      lt-leb no_number n (omega arith),
      e,
      lt-leb no_number (n * 10 + d) f,
    )

number_append : (n : ℕ) (a b : Bytes) → number_from n (a ++ b) ≡ number_from (number_from n a) b
unfolding number_from
number_append n [] b = refl
number_append n (x ∷ a) b = number_append (one_more n x) a b

tens : ℕ → ℕ
tens zero = 1
tens (suc k) = 10 * tens k

digits-read : (k n : ℕ) → n < tens k → n < no_number → number_from 0 (digits k n) ≡ n
unfolding number_from digits tens
digits-read zero n t f = omega arith
digits-read (suc k) n t f = go (ltb n 10) refl (digits-read k (n / 10) (omega arith) (omega arith))
  where
    go : (b : Bool) → ltb n 10 ≡ b → number_from 0 (digits k (n / 10)) ≡ n / 10 → number_from 0 (cond b (written n ∷ []) (digits k (n / 10) ++ (written (n % 10) ∷ []))) ≡ n
    go true e r = one-digit 0 n (ltb-true n 10 e) (omega arith) ∙ omega arith
    go false e r =
        number_append 0 (digits k (n / 10)) (written (n % 10) ∷ [])
        ∙ rw r (one-digit (n / 10) (n % 10) (omega arith) (omega arith) ∙ omega arith)

-- it has a digit
digits-some : (k n : ℕ) → 0 < length (digits (suc k) n)
unfolding digits
digits-some k n = go (ltb n 10)
  where
    go : (b : Bool) → 0 < length (cond b (written n ∷ []) (digits k (n / 10) ++ (written (n % 10) ∷ [])))
    go true = omega arith
    go false = rw (length-append (digits k (n / 10)) (written (n % 10) ∷ [])) (omega arith)

pub decimal-word : (n : ℕ) → is_word (decimal n) ≡ true
decimal-word n = word_of_lem (decimal n) (plain-digits 20 n) (digits-some 19 n)

pub number-again : (n : ℕ) → n < no_number → number (decimal n) ≡ n
unfolding number tens
number-again n h =
    let s : 0 < length (decimal n) = digits-some 19 n in
    rw (ne_eqb (length (decimal n)) 0 (λ e. omega arith)) (digits-read 20 n (omega arith) h)

-- bytes in hexadecimal
abbrev pub Small : Bytes → Type 0
Small b = (i : ℕ) → get_or b i 0 < 256

pub length-hex : (b : Bytes) → length (hex b) ≡ length b * 2
unfolding hex
length-hex [] = refl
length-hex (x ∷ b) =
    let e : length (hex b) ≡ length b * 2 = length-hex b in
    omega arith

pub hex-word : (b : Bytes) → 0 < length b → is_word (hex b) ≡ true
hex-word b h =
    let e : length (hex b) ≡ length b * 2 = length-hex b in
    word_of_lem (hex b) (plain-hex b) (omega arith)

module _ (x : ℕ) (h : x < 256) where
  high : digit (written (x / 16)) ≡ x / 16
  high = value (x / 16) (omega arith)

  low : digit (written (x % 16)) ≡ x % 16
  low = value (x % 16) (omega arith)

  pair-again : pair (written (x / 16)) (written (x % 16)) ≡ x
  pair-again = rw (high, low) (omega arith)

hex-high : (b : Bytes) (n : ℕ) → n < length b → get_or (hex b) (n * 2) 0 ≡ written (get_or b n 0 / 16)
unfolding hex
hex-high [] n h = absurd (none h)
  where
    none : n < 0 → ⊥
    none e = omega arith
hex-high (x ∷ b) zero h = refl
hex-high (x ∷ b) (suc n) h =
    let e : suc n * 2 ≡ suc (suc (n * 2)) = omega arith in
    rw e (hex-high b n (omega arith))

hex-low : (b : Bytes) (n : ℕ) → n < length b → get_or (hex b) (n * 2 + 1) 0 ≡ written (get_or b n 0 % 16)
unfolding hex
hex-low [] n h = absurd (none h)
  where
    none : n < 0 → ⊥
    none e = omega arith
hex-low (x ∷ b) zero h = refl
hex-low (x ∷ b) (suc n) h =
    let e : suc n * 2 + 1 ≡ suc (suc (n * 2 + 1)) = omega arith in
    rw e (hex-low b n (omega arith))

unhex-take : (b : Bytes) → Small b → (n : ℕ) → n ≤ length b → unhex n (hex b) ≡ take n b
unfolding unhex
unhex-take b s zero h = refl
unhex-take b s (suc n) h =
    rw (unhex-take b s n (omega arith), hex-high b n h, hex-low b n h, pair-again (get_or b n 0) (s n)) (sym (take-suc b n 0 h))

half : (b : Bytes) → length (hex b) / 2 ≡ length b
half b =
    let e : length (hex b) ≡ length b * 2 = length-hex b in
    omega arith

even : (b : Bytes) → length (hex b) % 2 ≡ 0
even b =
    let e : length (hex b) ≡ length b * 2 = length-hex b in
    omega arith

all_digits_lem : (b : Bytes) → Small b → all_digits (hex b) ≡ true
unfolding hex all_digits
all_digits_lem [] s = refl
all_digits_lem (x ∷ b) s =
    rw (high x (s 0), lt-ltb (x / 16) 16 (omega (arith, s 0)), low x (s 0), lt-ltb (x % 16) 16 (omega arith)) (all_digits_lem b (λ i. s (suc i)))

pub bytes-again : (b : Bytes) → Small b → bytes (hex b) ≡ b
unfolding bytes
bytes-again b s = rw (half b) (unhex-take b s (length b) (omega arith) ∙ take-length b)

pub is_bytes-again : (b : Bytes) → Small b → is_bytes (length b) (hex b) ≡ true
unfolding is_bytes
is_bytes-again b s = rw (half b, eq-eqb (length b) (length b) refl, even b) (all_digits_lem b s)

pub up_to_bytes-again : (n : ℕ) (b : Bytes) → Small b → 1 ≤ length b → length b ≤ n → up_to_bytes n (hex b) ≡ true
unfolding up_to_bytes
up_to_bytes-again n b s l m =
    let e : length (hex b) ≡ length b * 2 = length-hex b in
    rw (even b, le-ltb (length (hex b)) 2 (omega arith), half b, le-ltb n (length b) m) (all_digits_lem b s)
