-- Digits of numbers, and bytes in hexadecimal.
use Prim.Native.Nat.{ℕ, zero, suc, ◌-◌, ◌/◌, ◌%◌, ◌≤◌, ◌<◌}
use mathlib.Core.Path.{◌≡◌, refl}
use mathlib.Core.List.{[], ◌∷◌, ◌++◌}
use mathlib.Core.Bool.{Bool, true, false, cond}
use lib.Dec.{ltb}
use borrow.Author.Tests.{lt-ltb, le-ltb}
use native.Mathlib.Omega.{arith}
use lib.ListN.{length, length-append}
use Rattle.text.specs.Text.{Bytes, Wrote, digit, digits, hex}
use Rattle.text.proofs.TextLaws.{wrote_none}

pub hex-append : (a b : Bytes) → hex (a ++ b) ≡ hex a ++ hex b
unfolding hex
hex-append [] b = refl
hex-append (x ∷ a) b = rw (hex-append a b)

pub hex-none : (at : ℕ) (room : Bytes) → Wrote (hex []) at room at room
unfolding hex
hex-none at room = wrote_none at room

pub digits-none : (k n : ℕ) → k ≡ 0 → digits k n ≡ []
unfolding digits
digits-none k n e = rw e

pub digits-one : (k n : ℕ) → (k ≡ 0 → ⊥) → n < 10 → digits k n ≡ digit n ∷ []
unfolding digits
digits-one zero n h l = absurd (h refl)
digits-one (suc k) n h l = rw (lt-ltb n 10 l)

pub digits_more : (k n : ℕ) → (k ≡ 0 → ⊥) → 10 ≤ n → digits k n ≡ digits (k - 1) (n / 10) ++ (digit (n % 10) ∷ [])
unfolding digits
digits_more zero n h l = absurd (h refl)
digits_more (suc k) n h l =
    let e : suc k - 1 ≡ k = omega arith in
    rw (le-ltb n 10 l, e)

pub few-digits : (k n : ℕ) → length (digits k n) ≤ k
unfolding digits
few-digits zero n = omega arith
few-digits (suc k) n = go (ltb n 10) (few-digits k (n / 10))
  where
    go : (t : Bool) → length (digits k (n / 10)) ≤ k → length (cond t (digit n ∷ []) (digits k (n / 10) ++ (digit (n % 10) ∷ []))) ≤ suc k
    go true h = omega arith
    go false h = rw (length-append (digits k (n / 10)) (digit (n % 10) ∷ [])) (omega arith)
