-- Identifiers as they are found.
use Prim.Native.Nat.{ℕ, zero, suc, ◌+◌, ◌-◌, ◌*◌, ◌/◌, ◌≤◌, ◌<◌, max}
use mathlib.Core.Path.{◌≡◌, refl, sym, ap, ◌∙◌}
use mathlib.Core.List.{List, [], ◌∷◌, map}
use mathlib.Core.Bool.{Bool, true, false, cond}
use native.Mathlib.Omega.{arith}
use native.Mathlib.Numerals.{add-one}
use native.Mathlib.Nat.{add-zero, zero-add}
use lib.Dec.{eqb, leb}
use lib.ListN.{length, take, drop, get_or, length-take, length-map}
use lib.Seq.{take-take, take_all}
use borrow.Author.Tests.{leb-true, leb-false, eq-eqb, ne_eqb}
use Rattle.std.specs.Prelude.{Some, None}
use Rattle.std.specs.Option.{is_none}
use Rattle.std.specs.List.{find, range_with_len}
use Rattle.rules.specs.Bytes.{Bytes, same, member, index_of, bytes_at, span_at}
use Rattle.rules.specs.Limits.{limits}
use Rattle.rules.specs.Slots.{slot_bytes, id_from, slot_at, numbers, slot_of}
use Rattle.run_slots.proofs.NumbersLaws.{numbers-length}
use Rattle.run_slot_search.specs.Search.{slots_from, names_from, names_at}
use Rattle.run_slot_search.proofs.SearchLaws.{find-start, index_hit, index_miss, names-count}
use Rattle.text.specs.Text.{least}
use Rattle.depot_slot_names.specs.Names.{slot_with, next_slot, found}

take-least : (a b : ℕ) (s : Bytes) → take (least a b) s ≡ take a (take b s)
take-least a b s = go (leb a b) refl
  where
    go : (t : Bool) → leb a b ≡ t → take (least a b) s ≡ take a (take b s)
    go true q =
        let l : a ≤ b = leb-true a b q in
        let e : least a b ≡ a = omega arith in
        rw e (sym (take-take a b s l))
    go false q =
        let l : b < a = leb-false a b q in
        let e : least a b ≡ b = omega arith in
        rw e (sym (take_all a (take b s) (rw (length-take b s) (omega arith))))

-- the bytes from an identifier's first on, as many as it has
pub slot-id : (b : Bytes) (k p n from to : ℕ) → p ≡ slot_bytes * k → n ≡ least (get_or b p 0) limits.identifier → from ≡ p + id_from → to ≡ from + n →
    take (to - from) (drop from b) ≡ (slot_at b k).id
unfolding slot_at
slot-id b k p n from to qp qn qf qt =
    let e : to - from ≡ n = omega arith in
    rw (e, qn, qf, qp) (take-least (get_or b (slot_bytes * k) 0) limits.identifier (drop (slot_bytes * k + id_from) b))

-- a list has what its search finds before its end
index-found : (x : Bytes) (ys : List Bytes) → cond (member x ys) (index_of x ys < length ys) (index_of x ys ≡ length ys)
index-found x [] = refl
index-found x (y ∷ ys) = go (same x y) refl (index-found x ys)
  where
    more : (t : Bool) → member x ys ≡ t → index_of x (y ∷ ys) ≡ suc (index_of x ys) → cond t (index_of x ys < length ys) (index_of x ys ≡ length ys) →
        cond t (index_of x (y ∷ ys) < length (y ∷ ys)) (index_of x (y ∷ ys) ≡ length (y ∷ ys))
    more true m e h = omega (arith, e, h)
    more false m e h = omega (arith, e, h)

    go : (t : Bool) → same x y ≡ t → cond (member x ys) (index_of x ys < length ys) (index_of x ys ≡ length ys) →
        cond (member x (y ∷ ys)) (index_of x (y ∷ ys) < length (y ∷ ys)) (index_of x (y ∷ ys) ≡ length (y ∷ ys))
    go true e h = rw e (omega (arith, index_hit x y ys e))
    go false e h = rw e (more (member x ys) refl (index_miss x y ys e) h)

none-index : (x : Bytes) (ys : List Bytes) (r : ℕ) → None ≡ cond (member x ys) (Some r) None → index_of x ys ≡ length ys
none-index x ys r q = go (member x ys) q (index-found x ys)
  where
    go : (t : Bool) → None ≡ cond t (Some r) None → cond t (index_of x ys < length ys) (index_of x ys ≡ length ys) → index_of x ys ≡ length ys
    go true e h = cc
    go false e h = h

some-index : (x : Bytes) (ys : List Bytes) (r i : ℕ) → Some i ≡ cond (member x ys) (Some r) None → (i ≡ r) × (index_of x ys < length ys)
some-index x ys r i q = go (member x ys) q (index-found x ys)
  where
    go : (t : Bool) → Some i ≡ cond t (Some r) None → cond t (index_of x ys < length ys) (index_of x ys ≡ length ys) → (i ≡ r) × (index_of x ys < length ys)
    go true e h = let is : i ≡ r = cc in (is, h)
    go false e h = cc

-- the search of numbers, as the search of a list
module _ (x : Bytes) (f : ℕ → Bytes) where
  abbrev is : ℕ → Bool
  is k = same x (f k)

  abbrev names : ℕ → ℕ → List Bytes
  names n k = map f (numbers n k)

  find-names : (n k : ℕ) → find is (range_with_len k n) ≡ cond (member x (names n k)) (Some (k + index_of x (names n k))) None
  find-names zero k = refl
  find-names (suc n) k = go (is k) refl (find-names n (suc k))
    where
      go : (t : Bool) → is k ≡ t → find is (range_with_len (suc k) n) ≡ cond (member x (names n (suc k))) (Some (suc k + index_of x (names n (suc k)))) None →
          find is (range_with_len k (suc n)) ≡ cond (member x (names (suc n) k)) (Some (k + index_of x (names (suc n) k))) None
      go true e h = rw (e, index_hit x (f k) (names n (suc k)) e, add-zero k) refl
      go false e h =
          let q : k + suc (index_of x (names n (suc k))) ≡ suc k + index_of x (names n (suc k)) = omega arith in
          rw (e, index_miss x (f k) (names n (suc k)) e, q, add-one k) h

each-name : (b : Bytes) (n k : ℕ) → map (λ i. (slot_at b i).id) (numbers n k) ≡ map (λ y. y.id) (map (slot_at b) (numbers n k))
each-name b zero k = refl
each-name b (suc n) k = ap (λ (l : List Bytes). (slot_at b k).id ∷ l) (each-name b n (suc k))

pub find-slot : (x b : Bytes) (k : ℕ) → find (λ i. same x (slot_at b i).id) (range_with_len k (length b / slot_bytes - k)) ≡ next_slot x b k
unfolding slot_with slots_from names_from
find-slot x b k =
    let n : ℕ = length b / slot_bytes - k in
    find-names x (λ i. (slot_at b i).id) n k ∙ rw (each-name b n k) refl

pub find_component : (x s : Bytes) (a : List ℕ) (n : ℕ) → find (λ k. same x (bytes_at s (span_at a k))) (range_with_len 0 (n - 0)) ≡ found x (names_at s a n)
find_component x s a n =
    let e : n - 0 ≡ n = omega arith in
    rw (e, find-names x (λ k. bytes_at s (span_at a k)) n 0, zero-add) refl

names-length : (b : Bytes) (k n : ℕ) → length (names_from b k n) ≡ n - k
unfolding slots_from names_from
names-length b k n =
    length-map (map (slot_at b) (numbers (n - k) k)) (λ x. x.id) ∙ length-map (numbers (n - k) k) (slot_at b) ∙ numbers-length (n - k) k

-- no slot is found where none from number k on has the identifier: the search then comes to the end
pub none-next : (x b : Bytes) (k : ℕ) → None ≡ next_slot x b k → slot_with x b k ≡ max k (length b / slot_bytes)
unfolding slot_with
none-next x b k q =
    let l : length (names_from b k (length b / slot_bytes)) ≡ length b / slot_bytes - k = names-length b k (length b / slot_bytes) in
    omega (arith, none-index x _ _ q, l)

-- the slot that is found is one, and is the first
pub some-next : (x b : Bytes) (k r : ℕ) → Some r ≡ next_slot x b k → (r ≡ slot_with x b k) × (r < length b / slot_bytes)
unfolding slot_with
some-next x b k r q =
    let n : ℕ = length b / slot_bytes in
    let l : length (names_from b k n) ≡ n - k = names-length b k n in
    let (e, below) = some-index x (names_from b k n) _ r q in
    (e, omega (arith, e, below, l))

-- no component is found where none has the identifier: the search then comes to the end
pub none-component : (x s : Bytes) (a : List ℕ) (n : ℕ) → None ≡ found x (names_at s a n) → index_of x (names_at s a n) ≡ n
none-component x s a n q = none-index x _ _ q ∙ names-count s a n

-- the first slot of all, and whether there is none
pub first_slot : (x b : Bytes) → slot_with x b 0 ≡ slot_of x b
unfolding slot_with
first_slot x b = sym (find-start x b)

pub first-none : (x b : Bytes) → is_none (next_slot x b 0) ≡ eqb (slot_of x b) (length b / slot_bytes)
first-none x b =
    let l : length (names_from b 0 (length b / slot_bytes)) ≡ length b / slot_bytes - 0 = names-length b 0 (length b / slot_bytes) in
    rw (find-start x b) (go _ _ _ _ _ (index-found x (names_from b 0 (length b / slot_bytes))) l)
  where
    go : (t : Bool) (r i m n : ℕ) → cond t (i < m) (i ≡ m) → m ≡ n - 0 → is_none (cond t (Some r) None) ≡ eqb (0 + i) n
    go true r i m n h e = sym (ne_eqb _ _ (λ q. omega arith))
    go false r i m n h e = sym (eq-eqb _ _ (omega arith))
