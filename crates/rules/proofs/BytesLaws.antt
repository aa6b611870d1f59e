-- Parts of bytes, and big-endian numbers, which grow by their next byte.
use Prim.Native.Nat.{ℕ, zero, suc, ◌+◌, ◌-◌, ◌*◌, ◌≤◌, ◌<◌}
use mathlib.Core.Path.{◌≡◌, refl}
use mathlib.Core.List.{[], ◌∷◌, ◌++◌}
use native.Mathlib.Nat.{add-suc, suc-add}
use lib.ListN.{set}
use lib.Seq.{take_all}
use Rattle.rules.specs.Bytes.{put}
use native.Mathlib.Omega.{arith}
use native.Mathlib.Numerals.{add-one}
use native.Mathlib.Nat.{add-zero}
use lib.ListN.{length, get_or, drop, length-take, length-drop}
use lib.Seq.{take-suc, get_or-drop, drop-cons}
use Rattle.rules.specs.Bytes.{Bytes, part, num, num_from, two_at, four_at}

pub length_part : (s : Bytes) (at k : ℕ) → at + k ≤ length s → length (part s at k) ≡ k
length_part s at k h = simp (length-take, length-drop) (omega arith)

pub part-cons : (s : Bytes) (at n : ℕ) → 0 < n → at < length s → part s at n ≡ get_or s at 0 ∷ part s (at + 1) (n - 1)
part-cons s at zero l h = absurd (omega arith)
part-cons s at (suc n) l h = let k : suc n - 1 ≡ n = omega arith in rw (k, add-one, drop-cons s at 0 h)

-- all that is left behind a place
pub part-rest : (s : Bytes) (at : ℕ) → part s at (length s - at) ≡ drop at s
part-rest s at = take_all (length s - at) (drop at s) (simp length-drop (omega arith))

-- what is put behind what was put
pub put-append : (s : Bytes) (at : ℕ) (a b : Bytes) → put (put s at a) (at + length a) b ≡ put s at (a ++ b)
put-append s at [] b = rw (add-zero at)
put-append s at (x ∷ a) b = rw (add-suc at (length a), ← suc-add at (length a)) (put-append (set s at x) (suc at) a b)

num-snoc : (n : ℕ) (xs : Bytes) (b : ℕ) → num_from n (xs ++ (b ∷ [])) ≡ num_from n xs * 256 + b
num-snoc n [] b = refl
num-snoc n (x ∷ xs) b = num-snoc (n * 256 + x) xs b

module _ (s : Bytes) (at k : ℕ) (h : at + k < length s) where
  pub part-more : part s at (k + 1) ≡ part s at k ++ (get_or s (at + k) 0 ∷ [])
  part-more =
      let l : k < length (drop at s) = simp length-drop (omega arith) in
      rw (add-one, take-suc (drop at s) k 0 l, get_or-drop at s k 0)

  pub num-more : num (part s at (k + 1)) ≡ num (part s at k) * 256 + get_or s (at + k) 0
  num-more = rw part-more (num-snoc 0 (part s at k) (get_or s (at + k) 0))

module _ (s : Bytes) (at : ℕ) where
  pub num_1 : at + 1 ≤ length s → num (part s at 1) ≡ get_or s at 0
  num_1 h = omega (arith, simp add-zero at (num-more s at 0 (omega arith)))

  pub num_2 : at + 2 ≤ length s → num (part s at 2) ≡ two_at s at
  num_2 h = omega (arith, num_1 (omega arith), num-more s at 1 (omega arith))

  pub num_4 : at + 4 ≤ length s → num (part s at 4) ≡ four_at s at
  num_4 h = omega (arith, num_2 (omega arith), num-more s at 2 (omega arith), num-more s at 3 (omega arith))
