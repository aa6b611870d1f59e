-- Bytes that are compared or copied one by one.
use Prim.Native.Nat.{ℕ, suc, ◌+◌, ◌≤◌, ◌<◌}
use mathlib.Core.Path.{◌≡◌, refl, sym}
use mathlib.Core.List.{◌++◌, append-nil}
use mathlib.Core.Bool.{Bool, false, ◌&&◌, and-true, and-false}
use native.Mathlib.Omega.{arith}
use native.Mathlib.Numerals.{add-one}
use native.Mathlib.Nat.{add-zero, add-suc}
use lib.ListN.{length, get_or, set, drop, length-drop, drop_of_length-le}
use lib.Seq.{drop-cons, get_or-drop, get_or-take, take-suc, length-take-le, set_at, append_snoc, sets}
use Rattle.rules.specs.Bytes.{Bytes, part}
use Rattle.rules.proofs.BytesLaws.{length_part}
use Rattle.rules.proofs.SameLaws.{same_from, same_end, same_stop, same_next}

-- a comparison that goes through all bytes, with a flag for what was the same so far
module _ (a : Bytes) (i : ℕ) (b : Bytes) (j n k : ℕ) where
  pub flag_end : (p : Bool) → n ≤ k → (p && same_from a i b j n k) ≡ p
  flag_end p l = rw (same_end a i b j n k l) (and-true p)

  module _ (l : k < n) (f : (i + n ≤ length a) × (j + n ≤ length b)) (p p' : Bool) where
    pub flag_stop : (get_or a (i + k) 0 ≡ get_or b (j + k) 0 → ⊥) → p' ≡ false → (p && same_from a i b j n k) ≡ (p' && same_from a i b j n (k + 1))
    flag_stop d q = rw (same_stop a i b j n k l f d, q) (and-false p)

    pub flag_next : get_or a (i + k) 0 ≡ get_or b (j + k) 0 → p' ≡ p → (p && same_from a i b j n k) ≡ (p' && same_from a i b j n (k + 1))
    flag_next e q = rw (same_next a i b j n k l f e, q)

module _ (s : Bytes) (at : ℕ) (d : Bytes) where
  -- d with the first k bytes of s from `at` on over its own
  unfoldable pub copied : ℕ → Bytes
  copied k = part s at k ++ drop k d

  pub copy_start : d ≡ copied 0
  unfolding copied
  copy_start = refl

  pub copy-next : (k : ℕ) → k < length d → at + k < length s → set (copied k) k (get_or s (at + k) 0) ≡ copied (k + 1)
  unfolding copied
  copy-next k h l =
      let m : k < length (drop at s) = simp length-drop (omega arith) in
      rw (
        ← get_or-drop at s k 0,
        add-one,
        drop-cons d k 0 h,
        set_at (part s at k) (get_or d k 0) (drop (suc k) d) (get_or (drop at s) k 0) k
            (length-take-le k (drop at s) (omega arith)),
        take-suc (drop at s) k 0 m,
      )
      (sym (append_snoc (part s at k) (get_or (drop at s) k 0) (drop (suc k) d)))

  pub copy-end : (k : ℕ) → length d ≤ k → copied k ≡ part s at k
  unfolding copied
  copy-end k h = rw (drop_of_length-le d h) (append-nil (part s at k))

module _ (at : ℕ) (x : Bytes) where
  -- s with the bytes of x from number i on still to be put
  unfoldable pub put_from : ℕ → Bytes → Bytes
  put_from i s = sets s (at + i) (drop i x)

  pub put-start : (s : Bytes) → sets s at x ≡ put_from 0 s
  unfolding put_from
  put-start s = rw (add-zero at)

  pub put_next : (s : Bytes) (i : ℕ) → i < length x → put_from i s ≡ put_from (i + 1) (set s (at + i) (get_or x i 0))
  unfolding put_from
  put_next s i l = rw (add-one, add-suc, drop-cons x i 0 l)

  pub put-end : (s : Bytes) (i : ℕ) → length x ≤ i → put_from i s ≡ s
  unfolding put_from
  put-end s i l = rw (drop_of_length-le x l)

pub part-next : (s : Bytes) (from n to : ℕ) (room : Bytes) (i : ℕ) → i < n → from + n ≤ length s →
    put_from to (part s from n) i room ≡ put_from to (part s from n) (i + 1) (set room (to + i) (get_or s (from + i) 0))
part-next s from n to room i l h =
    rw (← get_or-drop from s i 0, ← get_or-take {A = ℕ} n _ i 0 l) (put_next to (part s from n) room i (omega (arith, length_part s from n h)))
