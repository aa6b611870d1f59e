-- The search that compares each identifier with the earlier ones finds a repeated one where the rule does.
use Prim.Native.Nat.{ℕ, zero, suc, ◌+◌}
use mathlib.Core.Path.{◌≡◌, refl, sym, ap, ◌∙◌}
use mathlib.Core.List.{List, [], ◌∷◌, ◌++◌, map}
use mathlib.Core.Bool.{Bool, true, false, ◌||◌}
use native.Mathlib.Omega.{arith}
use native.Mathlib.Numerals.{add-one}
use Rattle.rules.specs.Bytes.{Bytes, span_at, bytes_at, same, member, repeats}
use Rattle.rules.specs.Slots.{numbers}
use Rattle.rules.proofs.SameLaws.{same_sym}
use Rattle.run_slot_search.specs.Search.{names_at}
use Rattle.std.specs.Prelude.{Option, Some, is_some}
use Rattle.component_ids.specs.Identifiers.{among, search_from, repeated}
use Rattle.program_names.proofs.NameLaws.{names_more}

member-more : (x y : Bytes) (ys : List Bytes) → member x (ys ++ (y ∷ [])) ≡ (same x y || member x ys)
member-more x y [] = refl
member-more x y (z ∷ ys) = rw (member-more x y ys) (swap (same x z) (same x y) (member x ys))
  where
    swap : (a b c : Bool) → (a || (b || c)) ≡ (b || (a || c))
    swap true true c = refl
    swap true false c = refl
    swap false b c = refl

repeats-more : (xs : List Bytes) (x : Bytes) → repeats (xs ++ (x ∷ [])) ≡ (repeats xs || member x xs)
repeats-more [] x = refl
repeats-more (y ∷ xs) x = rw (member-more y x xs, repeats-more xs x, same_sym y x) (turn (same x y) (member y xs) (repeats xs) (member x xs))
  where
    turn : (a b c d : Bool) → ((a || b) || (c || d)) ≡ ((b || c) || (a || d))
    turn true true c d = refl
    turn true false true d = refl
    turn true false false d = refl
    turn false true c d = refl
    turn false false c d = refl

module _ (s : Bytes) (a : List ℕ) where
  among-is : (j i k : ℕ) → among s a j i k ≡ member (bytes_at s (span_at a j)) (map (λ x. bytes_at s (span_at a x)) (numbers k i))
  unfolding among
  among-is j i zero = refl
  among-is j i (suc k) = rw (among-is j (suc i) k)

  names-turn : (j : ℕ) → repeats (names_at s a (suc j)) ≡ (repeats (names_at s a j) || among s a j 0 j)
  names-turn j =
      let e : names_at s a (suc j) ≡ names_at s a j ++ (bytes_at s (span_at a j) ∷ []) = ap (names_at s a) (sym (add-one j)) ∙ names_more s a a j (λ i l. refl) in
      ap repeats e ∙ repeats-more (names_at s a j) (bytes_at s (span_at a j)) ∙ ap (λ (b : Bool). repeats (names_at s a j) || b) (sym (among-is j 0 j))

  -- once repeated, however many more there are
  kept : (k j : ℕ) → repeats (names_at s a j) ≡ true → repeats (names_at s a (j + k)) ≡ true
  kept zero j e = let z : j + 0 ≡ j = omega arith in rw z e
  kept (suc k) j e = let z : j + suc k ≡ suc j + k = omega arith in rw z (kept k (suc j) (names-turn j ∙ rw e))

  found-again : (k j : ℕ) → repeats (names_at s a j) ≡ false → is_some (search_from s a j k) ≡ repeats (names_at s a (j + k))
  unfolding search_from
  found-again zero j e = let z : j + 0 ≡ j = omega arith in rw (z, e)
  found-again (suc k) j e = let z : j + suc k ≡ suc j + k = omega arith in rw z (go (among s a j 0 j) refl (found-again k (suc j)))
    where
      go : (b : Bool) → among s a j 0 j ≡ b → (repeats (names_at s a (suc j)) ≡ false → is_some (search_from s a (suc j) k) ≡ repeats (names_at s a (suc j + k))) →
          is_some (elim b as (λ _. Option ℕ) [ true ↦ Some j | false ↦ search_from s a (suc j) k ]) ≡ repeats (names_at s a (suc j + k))
      go true f ih = sym (kept k (suc j) (names-turn j ∙ rw (e, f)))
      go false f ih = ih (names-turn j ∙ rw (e, f))

  pub repeated_law : (n : ℕ) → is_some (repeated s a n) ≡ repeats (names_at s a n)
  unfolding repeated
  repeated_law n = let z : 0 + n ≡ n = omega arith in found-again n 0 refl ∙ rw z
