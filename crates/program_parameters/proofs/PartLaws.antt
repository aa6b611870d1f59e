-- Bytes that are left, by their place.
use Prim.Native.Nat.{ℕ, zero, suc, ◌+◌, ◌-◌, ◌≤◌}
use mathlib.Core.Path.{◌≡◌, refl, ap, ◌∙◌}
use mathlib.Core.List.{[], ◌∷◌}
use mathlib.Core.Bool.{true, ◌&&◌}
use native.Mathlib.Omega.{arith}
use native.Mathlib.Numerals.{unary_clauses}
use lib.Dec.{eqb}
use lib.ListN.{length, get_or, take, drop, length-drop}
use lib.Seq.{drop-drop, take-take, take-nil}
use Rattle.rules.specs.Bytes.{Bytes, part, same}
use Rattle.rules.proofs.BytesLaws.{length_part}

module _ (p : Bytes) (at : ℕ) where
  pub part-drop : (i n : ℕ) → part (drop at p) i n ≡ part p (at + i) n
  part-drop i n = ap (take n) (drop-drop i at p)

  -- where the rest starts
  pub rest_at : at ≤ length p → length p - length (drop at p) ≡ at
  rest_at h = omega (arith, length-drop at p)

  pub part_none : (n : ℕ) → n ≡ 0 → part p at n ≡ []
  part_none n z = rw z

  pub take_part : (k n : ℕ) → k ≤ n → take k (part p at n) ≡ part p at k
  take_part k n h = take-take k n (drop at p) h

drop-take : (k n : ℕ) (l : Bytes) → drop k (take n l) ≡ take (n - k) (drop k l)
drop-take zero n l = simp unary_clauses refl
drop-take (suc k) zero l = let e : 0 - suc k ≡ 0 = omega arith in rw e
drop-take (suc k) (suc n) [] = rw take-nil
drop-take (suc k) (suc n) (x ∷ l) = simp unary_clauses (drop-take k n l)

module _ (p : Bytes) (at to : ℕ) where
  pub drop-part : (k : ℕ) → drop k (part p at (to - at)) ≡ part p (at + k) (to - (at + k))
  drop-part k =
      let e : to - at - k ≡ to - (at + k) = omega arith in
      drop-take k (to - at) (drop at p) ∙ rw (drop-drop k at p, e)

  pub length_to : at ≤ to → to ≤ length p → length (part p at (to - at)) ≡ to - at
  length_to h l = length_part p at (to - at) (omega arith)

-- the first bytes of a record
pub same_2 : (q : Bytes) (a b : ℕ) → 2 ≤ length q → same (take 2 q) (a ∷ b ∷ []) ≡ (eqb (get_or q 0 0) a && (eqb (get_or q 1 0) b && true))
same_2 [] a b h = absurd (omega arith)
same_2 (x ∷ []) a b h = absurd (omega arith)
same_2 (x ∷ y ∷ q) a b h = refl

pub same_3 : (q : Bytes) (a b c : ℕ) → 3 ≤ length q →
    same (take 3 q) (a ∷ b ∷ c ∷ []) ≡ (eqb (get_or q 0 0) a && (eqb (get_or q 1 0) b && (eqb (get_or q 2 0) c && true)))
same_3 [] a b c h = absurd (omega arith)
same_3 (x ∷ []) a b c h = absurd (omega arith)
same_3 (x ∷ y ∷ []) a b c h = absurd (omega arith)
same_3 (x ∷ y ∷ z ∷ q) a b c h = refl
