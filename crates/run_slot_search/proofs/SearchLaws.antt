-- The slots and their identifiers one by one, and what good slots are known to be.
use Prim.Native.Nat.{ℕ, zero, suc, ◌+◌, ◌-◌, ◌*◌, ◌/◌, ◌%◌, ◌≤◌, ◌<◌}
use mathlib.Core.Path.{◌≡◌, refl, sym, ap, ◌∙◌}
use mathlib.Core.List.{List, [], ◌∷◌, map}
use mathlib.Core.Bool.{Bool, true, false, ◌&&◌, not, cond}
use native.Mathlib.Omega.{arith}
use native.Mathlib.Numerals.{add-one}
use native.Mathlib.Nat.{add-zero, zero-add}
use lib.Dec.{eqb, leb}
use lib.ListN.{length, get_or, drop, set, length-map}
use lib.Seq.{sets, take-take, get_or-set_same, get_or-set_other}
use borrow.Author.Count.{below_more}
use borrow.Author.Tests.{leb-true}
use Rattle.std.proofs.lemmas.Bool.{false≢true}
use Rattle.std.specs.Prelude.{Some, None}
use Rattle.std.specs.List.{find, list_all, list_any, range_with_len}
use Rattle.rules.specs.Bytes.{Bytes, Span, span, span_at, bytes_at, part, same, member, index_of, repeats, all_in}
use Rattle.rules.specs.Limits.{limits}
use Rattle.rules.specs.Slots.{slot_bytes, id_from, slot_at, numbers, slots_in, slot_names, slot_of, good_slot, all_good, good_slots}
use Rattle.rules.proofs.BytesLaws.{length_part}
use Rattle.rules.proofs.GotLaws.{and-true}
use Rattle.rules.proofs.SameLaws.{same_lengths}
use Rattle.run_slots.proofs.NumbersLaws.{numbers-turn, numbers-end, numbers-length, numbers-at, get_or-numbers}
use Rattle.run_slots.specs.Slot.{Holds, Short}
use Rattle.run_slot_search.specs.Search.{slots_from, names_from, names_at, slot_numbers, slot_found, Found}

-- identifiers of different lengths are not the same
module _ (b : Bytes) (k : ℕ) (short : get_or b (slot_bytes * k) 0 ≤ limits.identifier) where
  pub id-part : (slot_at b k).id ≡ part b (slot_bytes * k + id_from) (get_or b (slot_bytes * k) 0)
  unfolding slot_at
  id-part = take-take (get_or b (slot_bytes * k) 0) limits.identifier (drop (slot_bytes * k + id_from) b) short

  module _ (s : Bytes) (at n : ℕ) where
    pub named_unlike : at + n ≤ length s → Holds b k → (n ≡ get_or b (slot_bytes * k) 0 → ⊥) → same (part s at n) (slot_at b k).id ≡ false
    named_unlike f h d =
        same_lengths (part s at n) (slot_at b k).id
        (λ q. d (omega (arith, length_part s at n f, length_part b (slot_bytes * k + id_from) (get_or b (slot_bytes * k) 0) (omega arith), ap length id-part)))

    pub named_like : n ≡ get_or b (slot_bytes * k) 0 → same (part s at n) (part b (slot_bytes * k + id_from) n) ≡ same (part s at n) (slot_at b k).id
    named_like e = ap (same (part s at n)) (ap (part b (slot_bytes * k + id_from)) e ∙ sym id-part)

module _ (b : Bytes) where
  slots-turn : (k n : ℕ) → k < n → slots_from b k n ≡ slot_at b k ∷ slots_from b (k + 1) n
  unfolding slots_from
  slots-turn k n l = ap (map (slot_at b)) (numbers-turn k n l)

  slots_end : (k n : ℕ) → n ≤ k → slots_from b k n ≡ []
  unfolding slots_from
  slots_end k n l = ap (map (slot_at b)) (numbers-end k n l)

  names-turn : (k n : ℕ) → k < n → names_from b k n ≡ (slot_at b k).id ∷ names_from b (k + 1) n
  unfolding names_from
  names-turn k n l = ap (map (λ x. x.id)) (slots-turn k n l)

  names-end : (k n : ℕ) → n ≤ k → names_from b k n ≡ []
  unfolding names_from
  names-end k n l = ap (map (λ x. x.id)) (slots_end k n l)

  -- all slots, and their identifiers
  slots-all : slots_in b ≡ slots_from b 0 (length b / slot_bytes)
  unfolding slots_in slots_from
  slots-all = let e : length b / slot_bytes - 0 ≡ length b / slot_bytes = omega arith in rw e

  names-all : slot_names b ≡ names_from b 0 (length b / slot_bytes)
  unfolding names_from
  names-all = ap (map (λ x. x.id)) slots-all

  pub short-at : Short b → (n : ℕ) → slot_bytes * n ≤ length b → (k : ℕ) → k < n → get_or b (slot_bytes * k) 0 ≤ limits.identifier
  short-at h n f k l = h k (omega arith)

pub index_hit : (x y : Bytes) (ys : List Bytes) → same x y ≡ true → index_of x (y ∷ ys) ≡ 0
index_hit x y ys e = rw (index_of, e)

pub index_miss : (x y : Bytes) (ys : List Bytes) → same x y ≡ false → index_of x (y ∷ ys) ≡ suc (index_of x ys)
index_miss x y ys e = rw (index_of, e)

-- what a list has stands before its end
index_in : (x : Bytes) (ys : List Bytes) → member x ys ≡ true → index_of x ys < length ys
index_in x [] m = cc
index_in x (y ∷ ys) m = go (same x y) refl (index_in x ys)
  where
    go : (b : Bool) → same x y ≡ b → (member x ys ≡ true → index_of x ys < length ys) → index_of x (y ∷ ys) < length (y ∷ ys)
    go true e ih = omega (arith, index_hit x y ys e)
    go false e ih = omega (arith, index_miss x y ys e, ih (rw e at m))

index-out : (x : Bytes) (ys : List Bytes) → member x ys ≡ false → index_of x ys ≡ length ys
index-out x [] m = refl
index-out x (y ∷ ys) m = go (same x y) refl (index-out x ys)
  where
    go : (b : Bool) → same x y ≡ b → (member x ys ≡ false → index_of x ys ≡ length ys) → index_of x (y ∷ ys) ≡ length (y ∷ ys)
    go true e ih = absurd (let z : true ≡ false = rw e at m in false≢true (sym z))
    go false e ih = index_miss x y ys e ∙ ap suc (ih (rw e at m))

-- the search of the slots from k on, for an identifier
module _ (x : Bytes) (b : Bytes) where
  pub find-start : slot_of x b ≡ 0 + index_of x (names_from b 0 (length b / slot_bytes))
  unfolding slot_of
  find-start = ap (index_of x) (names-all b) ∙ omega arith

  module _ (k n r : ℕ) where
    pub find_hit : r ≡ k + index_of x (names_from b k n) → k < n → same x (slot_at b k).id ≡ true → r ≡ k
    find_hit q l e = omega (arith, ap (index_of x) (names-turn b k n l) ∙ index_hit x (slot_at b k).id (names_from b (k + 1) n) e)

    pub find-next : r ≡ k + index_of x (names_from b k n) → k < n → same x (slot_at b k).id ≡ false → r ≡ k + 1 + index_of x (names_from b (k + 1) n)
    find-next q l e = omega (arith, ap (index_of x) (names-turn b k n l) ∙ index_miss x (slot_at b k).id (names_from b (k + 1) n) e)

    pub find-end : r ≡ k + index_of x (names_from b k n) → n ≤ k → r ≡ k
    find-end q l = omega (arith, ap (index_of x) (names-end b k n l))

-- the searches of the code over a range of numbers, as those of lists
module _ (b : Bytes) where
  good-numbers : (n k : ℕ) → list_all (λ i. good_slot (slot_at b i)) (range_with_len k n) ≡ all_good (map (slot_at b) (numbers n k))
  good-numbers zero k = refl
  good-numbers (suc n) k = rw (add-one k, good-numbers n (suc k)) refl

  pub good-range : (n : ℕ) → list_all (λ i. good_slot (slot_at b i)) (range_with_len 0 (n - 0)) ≡ all_good (slots_from b 0 n)
  unfolding slots_from
  good-range n = good-numbers (n - 0) 0

  member-numbers : (x : Bytes) (n k : ℕ) → list_any (λ i. same x (slot_at b i).id) (range_with_len k n) ≡ member x (map (λ y. y.id) (map (slot_at b) (numbers n k)))
  member-numbers x zero k = refl
  member-numbers x (suc n) k = rw (add-one k, member-numbers x n (suc k)) refl

  pub member-range : (x : Bytes) (k n : ℕ) → list_any (λ i. same x (slot_at b i).id) (range_with_len k (n - k)) ≡ member x (names_from b k n)
  unfolding slots_from names_from
  member-range x k n = member-numbers x (n - k) k

  twice-numbers : (n m k : ℕ) → m ≡ n - k → list_any (λ i. member (slot_at b i).id (names_from b (i + 1) n)) (range_with_len k m) ≡ repeats (names_from b k n)
  twice-numbers n zero k e = rw (names-end b k n (omega arith)) refl
  twice-numbers n (suc m) k e =
      rw (names-turn b k n (omega arith), twice-numbers n m (k + 1) (omega arith)) refl

  pub twice-range : (n : ℕ) → list_any (λ i. member (slot_at b i).id (names_from b (i + 1) n)) (range_with_len 0 (n - 0)) ≡ repeats (names_from b 0 n)
  twice-range n = twice-numbers n (n - 0) 0 refl

module _ (x b : Bytes) where
  abbrev has : ℕ → Bool
  has k = same x (slot_at b k).id

  abbrev names : ℕ → ℕ → List Bytes
  names n k = map (λ y. y.id) (map (slot_at b) (numbers n k))

  find-numbers : (n k : ℕ) → find has (range_with_len k n) ≡ cond (member x (names n k)) (Some (k + index_of x (names n k))) None
  find-numbers zero k = refl
  find-numbers (suc n) k = go (has k) refl (find-numbers n (suc k))
    where
      go : (t : Bool) → has k ≡ t → find has (range_with_len (suc k) n) ≡ cond (member x (names n (suc k))) (Some (suc k + index_of x (names n (suc k)))) None →
          find has (range_with_len k (suc n)) ≡ cond (member x (names (suc n) k)) (Some (k + index_of x (names (suc n) k))) None
      go true e h = rw (e, index_hit x (slot_at b k).id (names n (suc k)) e, add-zero k) refl
      go false e h =
          let q : k + suc (index_of x (names n (suc k))) ≡ suc k + index_of x (names n (suc k)) = omega arith in
          rw (e, index_miss x (slot_at b k).id (names n (suc k)) e, q, add-one k) h

  pub find-range : find has (range_with_len 0 (length b / slot_bytes - 0)) ≡ slot_found x b
  unfolding slots_in slot_of
  find-range =
      let n : ℕ = length b / slot_bytes in
      let e : n - 0 ≡ n = omega arith in
      rw (e, find-numbers n 0, zero-add) refl

names-length : (b : Bytes) → length (slot_names b) ≡ length b / slot_bytes
unfolding slots_in
names-length b =
    length-map (map (slot_at b) (numbers (length b / slot_bytes) 0)) (λ x. x.id) ∙ length-map (numbers (length b / slot_bytes) 0) (slot_at b)
    ∙ numbers-length (length b / slot_bytes) 0

-- a slot that was not found, and one that was
found-none : (x b : Bytes) → None ≡ slot_found x b → member x (slot_names b) ≡ false
found-none x b q = go (member x (slot_names b)) q
  where
    go : (t : Bool) → None ≡ cond t (Some (slot_of x b)) None → t ≡ false
    go true e = cc
    go false e = refl

found-some : (x b : Bytes) (r : ℕ) → Some r ≡ slot_found x b → (member x (slot_names b) ≡ true) × (r ≡ slot_of x b) × (r < length b / slot_bytes)
unfolding slot_of
found-some x b r q = go (member x (slot_names b)) refl q
  where
    go : (t : Bool) → member x (slot_names b) ≡ t → Some r ≡ cond t (Some (slot_of x b)) None → (member x (slot_names b) ≡ true) × (r ≡ slot_of x b) × (r < length b / slot_bytes)
    go true m e = let is : r ≡ slot_of x b = cc in (m, is, omega (arith, index_in x (slot_names b) m, names-length b))
    go false m e = cc

-- where a slot was not found, its number is how many slots there are
pub none-found : (x b : Bytes) → None ≡ slot_found x b → slot_of x b ≡ length b / slot_bytes
unfolding slot_of
none-found x b q = index-out x (slot_names b) (found-none x b q) ∙ names-length b

pub some-found : (x b : Bytes) (r : ℕ) → Some r ≡ slot_found x b → r ≡ slot_of x b
some-found x b r q = (found-some x b r q).1

module _ (s : Bytes) (a : List ℕ) where
  -- the identifiers from number i on, before number n
  unfoldable pub left_at : ℕ → ℕ → List Bytes
  left_at i n = map (λ k. bytes_at s (span_at a k)) (numbers (n - i) i)

  pub left-turn : (i n : ℕ) → i < n → left_at i n ≡ bytes_at s (span_at a i) ∷ left_at (i + 1) n
  unfolding left_at
  left-turn i n l = ap (map (λ k. bytes_at s (span_at a k))) (numbers-turn i n l)

  pub left_end : (i n : ℕ) → n ≤ i → left_at i n ≡ []
  unfolding left_at
  left_end i n l = ap (map (λ k. bytes_at s (span_at a k))) (numbers-end i n l)

  pub left-all : (n : ℕ) → names_at s a n ≡ left_at 0 n
  unfolding left_at
  left-all n = let e : n - 0 ≡ n = omega arith in rw e

  pub name-at : (n i : ℕ) → i < n → get_or (names_at s a n) i [] ≡ bytes_at s (span_at a i)
  name-at n i l = get_or-numbers (λ j. bytes_at s (span_at a j)) [] n 0 i l ∙ ap (λ (j : ℕ). bytes_at s (span_at a j)) (omega arith)

  pub names-count : (n : ℕ) → length (names_at s a n) ≡ n
  names-count n = length-map (numbers n 0) (λ k. bytes_at s (span_at a k)) ∙ numbers-length n 0

-- after i of the n identifiers: the slots of these are assigned
pub record Sofar (s : Bytes) (a : List ℕ) (n : ℕ) (slots : Bytes) (before after : List ℕ) (i : ℕ) : Type 0 where
  pub rest : all_in (names_at s a n) (slot_names slots) ≡ all_in (left_at s a i n) (slot_names slots)
  pub number : (j : ℕ) → j < i → get_or after j 0 ≡ slot_of (bytes_at s (span_at a j)) slots
  pub there : (j : ℕ) → j < i → Holds slots (get_or after j 0)
  pub beyond : (j : ℕ) → i ≤ j → get_or after j 0 ≡ get_or before j 0
  pub written : sets before 0 (slot_numbers (names_at s a n) slots) ≡ sets after i (slot_numbers (left_at s a i n) slots)

module _ (s : Bytes) (a : List ℕ) (n : ℕ) (slots : Bytes) (before : List ℕ) where
  pub sofar_start : Sofar s a n slots before before 0
  sofar_start =
      record {
        rest = ap (λ (l : List Bytes). all_in l (slot_names slots)) (left-all s a n);
        number = λ j l. absurd (omega arith);
        there = λ j l. absurd (omega arith);
        beyond = λ j l. refl;
        written = ap (λ (l : List Bytes). sets before 0 (slot_numbers l slots)) (left-all s a n);
      }

  module _ (after : List ℕ) (i : ℕ) (h : Sofar s a n slots before after i) where
    module _ (l : i < n) where
      abbrev x : Bytes
      x = bytes_at s (span_at a i)

      turn : all_in (names_at s a n) (slot_names slots) ≡ (member x (slot_names slots) && all_in (left_at s a (i + 1) n) (slot_names slots))
      turn = h.rest ∙ ap (λ (l : List Bytes). all_in l (slot_names slots)) (left-turn s a i n l)

      -- the numbers that are still to be written, from that of identifier i on
      write : (t : Bool) → member x (slot_names slots) ≡ t →
          sets before 0 (slot_numbers (names_at s a n) slots) ≡ sets after i (cond t (slot_of x slots ∷ slot_numbers (left_at s a (i + 1) n) slots) [])
      write t e = h.written ∙ ap (λ (l : List Bytes). sets after i (slot_numbers l slots)) (left-turn s a i n l) ∙ rw e

      pub sofar_stop : None ≡ slot_found x slots → all_in (names_at s a n) (slot_names slots) ≡ false
      sofar_stop q = turn ∙ rw (found-none x slots q)

      pub sofar_kept : None ≡ slot_found x slots → after ≡ sets before 0 (slot_numbers (names_at s a n) slots)
      sofar_kept q = sym (write false (found-none x slots q))

      pub sofar_next : (r : ℕ) → Some r ≡ slot_found x slots → i < length after → Sofar s a n slots before (set after i r) (i + 1)
      sofar_next r q f =
          let (m, is, inside) = found-some x slots r q in
          let here : get_or (set after i r) i 0 ≡ r = get_or-set_same after i r 0 f in
          let other : (j : ℕ) → (j ≡ i → ⊥) → get_or (set after i r) j 0 ≡ get_or after j 0 = λ j e. get_or-set_other after i j r 0 e in
          record {
            rest = turn ∙ rw m;
            number = below_more (λ j. get_or (set after i r) j 0 ≡ slot_of (bytes_at s (span_at a j)) slots) i (λ j g. other j (λ e. omega arith) ∙ h.number j g) (here ∙ is);
            there = below_more (λ j. Holds slots (get_or (set after i r) j 0)) i (λ j g. omega (arith, other j (λ e. omega arith), h.there j g)) (omega arith);
            beyond = λ j g. other j (λ e. omega arith) ∙ h.beyond j (omega arith);
            written = write true m ∙ rw (← is, add-one i);
          }

    pub sofar_all : n ≤ i → all_in (names_at s a n) (slot_names slots) ≡ true
    sofar_all l = h.rest ∙ ap (λ (l : List Bytes). all_in l (slot_names slots)) (left_end s a i n l)

    pub sofar_done : n ≤ i → after ≡ sets before 0 (slot_numbers (names_at s a n) slots)
    sofar_done l = sym (h.written ∙ ap (λ (l : List Bytes). sets after i (slot_numbers l slots)) (left_end s a i n l))

    pub sofar_found : i ≡ n → Found (names_at s a n) slots before after
    sofar_found e =
        let c = names-count s a n in
        record {
          number = λ j l. h.number j (omega arith) ∙ ap (λ (x : Bytes). slot_of x slots) (sym (name-at s a n j (omega arith)));
          there = λ j l. h.there j (omega arith);
          beyond = λ j l. h.beyond j (omega arith);
        }

-- 85, test by test
module _ (b : Bytes) where
  abbrev count : ℕ
  count = length b / slot_bytes

  pub good_tests : good_slots b ≡ (eqb (length b % slot_bytes) 0 && leb 1 count && leb count limits.slots && all_good (slots_from b 0 count) && not (repeats (names_from b 0 count)))
  unfolding good_slots
  good_tests = rw (names-all b, slots-all b)

-- good slots have short identifiers
slot-short : (b : Bytes) (k : ℕ) → good_slot (slot_at b k) ≡ true → get_or b (slot_bytes * k) 0 ≤ limits.identifier
unfolding slot_at
slot-short b k g =
    let (u, _) = and-true (leb 1 (slot_at b k).id_length && leb (slot_at b k).id_length limits.identifier) _ g in
    let (_, v) = and-true (leb 1 (slot_at b k).id_length) (leb (slot_at b k).id_length limits.identifier) u in
    leb-true (get_or b (slot_bytes * k) 0) limits.identifier v

each-good : (b : Bytes) (cs : List ℕ) → all_good (map (slot_at b) cs) ≡ true → (i : ℕ) → i < length cs → good_slot (slot_at b (get_or cs i 0)) ≡ true
each-good b [] g i l = absurd (omega arith)
each-good b (c ∷ cs) g zero l = (and-true (good_slot (slot_at b c)) (all_good (map (slot_at b) cs)) g).0
each-good b (c ∷ cs) g (suc i) l = each-good b cs (and-true (good_slot (slot_at b c)) (all_good (map (slot_at b) cs)) g).1 i (omega arith)

pub all_short : (b : Bytes) → all_good (slots_from b 0 (length b / slot_bytes)) ≡ true → Short b
unfolding slots_from
all_short b g k l =
    let n : ℕ = length b / slot_bytes in
    let e : n - 0 ≡ n = omega arith in
    let at-k : get_or (numbers (n - 0) 0) k 0 ≡ k = numbers-at (n - 0) 0 k (omega arith) ∙ omega arith in
    slot-short b k (rw at-k at (each-good b (numbers (n - 0) 0) g k (omega (arith, numbers-length (n - 0) 0))))

pub good_parts : (b : Bytes) → good_slots b ≡ true → (1 ≤ length b / slot_bytes) × (all_good (slots_from b 0 (length b / slot_bytes)) ≡ true)
good_parts b g =
    let (q, _) = and-true _ (not (repeats (names_from b 0 (count b)))) (sym (good_tests b) ∙ g) in
    let (q', good) = and-true _ (all_good (slots_from b 0 (count b))) q in
    let (q'', _) = and-true _ (leb (count b) limits.slots) q' in
    let (_, some) = and-true (eqb (length b % slot_bytes) 0) (leb 1 (count b)) q'' in
    (leb-true 1 (count b) some, good)

pub good-short : (b : Bytes) → good_slots b ≡ true → Short b
good-short b g = all_short b (good_parts b g).1

pub good-some : (b : Bytes) → good_slots b ≡ true → slot_bytes ≤ length b
good-some b g = let l = (good_parts b g).0 in omega arith

-- the identifiers of a list of places, by an array that holds these
pub names-laid : (s : Bytes) (ids : List Span) (a : List ℕ) → ((k : ℕ) → k < length ids → span_at a k ≡ get_or ids k (span 0 0)) → names_at s a (length ids) ≡ map (bytes_at s) ids
names-laid s ids a h = from ids 0 (λ k l. rw zero-add (h k l))
  where
    from : (ps : List Span) (i : ℕ) → ((k : ℕ) → k < length ps → span_at a (i + k) ≡ get_or ps k (span 0 0)) →
        map (λ k. bytes_at s (span_at a k)) (numbers (length ps) i) ≡ map (bytes_at s) ps
    from [] i g = refl
    from (p ∷ ps) i g =
        let here : span_at a i ≡ p = rw add-zero at (g 0 (omega arith)) in
        let later = from ps (suc i) (λ k l. let e : suc i + k ≡ i + suc k = omega arith in rw e (g (suc k) (omega arith))) in
        rw (← here, later)
