-- The identifiers of a program, one after the other, by their places.
use Prim.Native.Nat.{ℕ, zero, suc, ◌+◌, ◌-◌, ◌*◌, ◌≤◌, ◌<◌}
use mathlib.Core.Path.{◌≡◌, refl, sym, ap, subst, ◌∙◌}
use mathlib.Core.List.{List, [], ◌∷◌, ◌++◌, append-nil}
use mathlib.Core.Bool.{Bool, true, false, ◌&&◌, cond}
use Rattle.std.proofs.Common as Code
use Rattle.std.proofs.Common.{Some, None}
use native.Mathlib.Omega.{arith}
use native.Mathlib.Nat.{add-zero}
use borrow.Author.Count.{below_more}
use lib.Dec.{leb, eqb}
use lib.ListN.{length, get_or, drop, replicate, set, length-drop, length-set, length-append, get_or-append}
use lib.Seq.{get_or-drop, drop-drop, ext_get_or, get_or_at, get_or-set_same, get_or-set_other}
use borrow.Author.Tests.{eqb-true, eqb-false, leb-true}
use Rattle.rules.specs.declared.answers.Refusal.{Refusal}
use Rattle.rules.specs.declared.answers.Refusal.TheVariants.{BadProgram}
use Rattle.rules.specs.Limits.{limits}
use Rattle.rules.specs.Limits as Limits
use Rattle.rules.specs.Bytes.{Bytes, Span, part, span, span_at, bytes_at}
use Rattle.rules.specs.Got.{Got, refused, got, ◌>>=◌}
use Rattle.rules.specs.ProgramFormat.{NAME, code_from, length_from, name_size}
use Rattle.rules.specs.ProgramTest.{need, bad, marked, ids_in}
use Rattle.rules.proofs.GotLaws.{and-true, passed, split₂, both, after, after_more, after_none}
use Rattle.run_slot_search.specs.Search.{names_at}
use Rattle.run_slot_search.proofs.SearchLaws.{name-at, names-count}
use Rattle.program_parameters.proofs.PartLaws.{rest_at, same_3}
use Rattle.program_parameters.specs.Entries.{next_in}
use Rattle.program_heads.specs.Heads.{mark₁, mark₂}
use Rattle.program_names.specs.Names.{name_end, places_from, NamesAre}

pub marked-at : (p : Bytes) (at c : ℕ) → at + 3 ≤ length p →
    marked c (drop at p) ≡ (eqb (get_or p at 0) mark₁ && (eqb (get_or p (at + 1) 0) mark₂ && (eqb (get_or p (at + code_from) 0) c && true)))
marked-at p at c h =
    same_3 (drop at p) mark₁ mark₂ c (omega (arith, length-drop at p)) ∙ rw (get_or-drop at p 0 0, get_or-drop at p 1 0, get_or-drop at p code_from 0, add-zero at)

-- one identifier before the others
abbrev onto : Bytes → Got (List Bytes × Bytes) → Got (List Bytes × Bytes)
onto x g = g >>= λ a. got (x ∷ a.0, a.1)

module _ (p : Bytes) (at : ℕ) where
  abbrev size : ℕ
  size = get_or p (at + length_from) 0

  abbrev tests : Bool
  tests = leb name_size (length p - at) && marked NAME (drop at p) && leb 1 size && leb size limits.identifier && leb (name_size + size) (length p - at)

  ids-turn : (k : ℕ) → ids_in (suc k) (drop at p) ≡ (need tests >>= λ _. onto (part p (at + name_size) size) (ids_in k (drop (at + name_size + size) p)))
  unfolding ids_in
  ids-turn k = rw (length-drop at p, get_or-drop at p length_from 0, drop-drop name_size at p, drop-drop size (at + name_size) p)

  abbrev one : Got (List Bytes × Bytes)
  one = ids_in 1 (drop at p)

  bad-one : tests ≡ false → None ≡ name_end p at
  bad-one e = let g : one ≡ bad = ids-turn 0 ∙ rw e in sym (ap (next_in (length p)) g)

  good-one : tests ≡ true → at + name_size + size ≤ length p → Some (at + name_size + size) ≡ name_end p at
  unfolding ids_in
  good-one e h =
      let g : one ≡ got (part p (at + name_size) size ∷ [], drop (at + name_size + size) p) = ids-turn 0 ∙ rw e in
      sym (ap (next_in (length p)) g ∙ ap Some (rest_at p (at + name_size + size) h))

  fits : tests ≡ true → at + name_size + size ≤ length p
  fits e = omega (arith, leb-true (name_size + size) (length p - at) (and-true (leb name_size (length p - at) && marked NAME (drop at p) && leb 1 size && leb size limits.identifier) _ e).1)

  -- an identifier, as the code reads it
  abbrev marks : Bool
  marks =
      eqb (get_or p at 0) mark₁ && (eqb (get_or p (at + 1) 0) mark₂ && (eqb (get_or p (at + code_from) 0) NAME
      && (leb 1 size && (leb size limits.identifier && leb (name_size + size) (length p - at)))))

  tests_are : tests ≡ (leb name_size (length p - at) && marks)
  tests_are = go (leb name_size (length p - at)) refl
    where
      turn : (a b c d e f : Bool) → ((a && (b && (c && true))) && d && e && f) ≡ (a && (b && (c && (d && (e && f)))))
      turn true true true true e f = refl
      turn true true true false e f = refl
      turn true true false d e f = refl
      turn true false c d e f = refl
      turn false b c d e f = refl

      go : (t : Bool) → leb name_size (length p - at) ≡ t → tests ≡ (leb name_size (length p - at) && marks)
      go true e = rw (e, marked-at p at NAME (omega (arith, leb-true name_size (length p - at) e))) (turn
          (eqb (get_or p at 0) mark₁) (eqb (get_or p (at + 1) 0) mark₂) (eqb (get_or p (at + code_from) 0) NAME)
          (leb 1 size) (leb size limits.identifier) (leb (name_size + size) (length p - at)))
      go false e = rw e

  pub name-read : name_end p at ≡ cond (leb name_size (length p - at) && marks) (Some (at + name_size + size)) None
  name-read = from tests refl ∙ ap (λ (b : Bool). cond b (Some (at + name_size + size)) None) tests_are
    where
      from : (t : Bool) → tests ≡ t → name_end p at ≡ cond t (Some (at + name_size + size)) None
      from true e = sym (good-one e (fits e))
      from false e = sym (bad-one e)

  -- the identifiers after it
  module _ (k : ℕ) where
    pub names_stop : None ≡ name_end p at → ids_in (suc k) (drop at p) ≡ bad
    names_stop q = go tests refl
      where
        go : (b : Bool) → tests ≡ b → ids_in (suc k) (drop at p) ≡ bad
        go true e = let n = good-one e (fits e) in cc
        go false e = ids-turn k ∙ rw e

    module _ (r : ℕ) (q : Some r ≡ name_end p at) where
      pub names-on : (at + name_size ≤ r) × (r ≤ length p) × (ids_in (suc k) (drop at p) ≡ onto (part p (at + name_size) (r - (at + name_size))) (ids_in k (drop r p)))
      names-on = go tests refl
        where
          go : (b : Bool) → tests ≡ b → (at + name_size ≤ r) × (r ≤ length p) × (ids_in (suc k) (drop at p) ≡ onto (part p (at + name_size) (r - (at + name_size))) (ids_in k (drop r p)))
          go true e =
              let f : at + name_size + size ≤ length p = fits e in
              let s = good-one e f in
              let g : r ≡ at + name_size + size = cc in
              let n : r - (at + name_size) ≡ size = omega arith in
              (omega arith, omega arith, ids-turn k ∙ rw (e, n, g))
          go false e = let n = bad-one e in cc

-- what they leave starts at a place after them
pub record Leaves (p : Bytes) (at : ℕ) (q : Bytes) : Type 0 where
  pub up : at ≤ length p - length q
  pub fits : length p - length q ≤ length p
  pub rest : q ≡ drop (length p - length q) p

pub ids_leave : (p : Bytes) (k at : ℕ) (xs : List Bytes) (q : Bytes) → at ≤ length p → ids_in k (drop at p) ≡ got (xs, q) → Leaves p at q
unfolding ids_in
ids_leave p zero at xs q h e =
    let f : drop at p ≡ q = (both e).1 in
    let m : length p - length q ≡ at = ap (λ (x : Bytes). length p - length x) (sym f) ∙ rest_at p at h in
    record { up = omega arith; fits = omega arith; rest = sym f ∙ ap (λ (x : ℕ). drop x p) (sym m) }
ids_leave p (suc k) at xs q h e =
    let (t, e₁) = passed (tests p at) BadProgram 0 _ (xs, q) (sym (ids-turn p at k) ∙ e) in
    split₂ _ (ids_in k (drop (at + name_size + size p at) p)) _ (xs, q) e₁ λ ys q' e₂ e₃.
    let l : Leaves p (at + name_size + size p at) q = ids_leave p k (at + name_size + size p at) ys q (fits p at t) (e₂ ∙ ap (λ (x : Bytes). got (ys, x)) (both e₃).1) in
    record { up = omega (arith, l.up); fits = l.fits; rest = l.rest }

-- one more place in the array
pub names_more : (s : Bytes) (a b : List ℕ) (k : ℕ) → ((j : ℕ) → j < k → span_at b j ≡ span_at a j) →
    names_at s b (k + 1) ≡ names_at s a k ++ (bytes_at s (span_at b k) ∷ [])
names_more s a b k h =
    let m : length (names_at s a k ++ (bytes_at s (span_at b k) ∷ [])) ≡ k + 1 = length-append (names_at s a k) (bytes_at s (span_at b k) ∷ []) ∙ omega (arith, names-count s a k) in
    ext_get_or [] _ _ (names-count s b (k + 1) ∙ sym m) λ i l. name-at s b (k + 1) i (omega (arith, names-count s b (k + 1))) ∙ go i (eqb i k) refl (omega (arith, names-count s b (k + 1)))
  where
    go : (i : ℕ) (t : Bool) → eqb i k ≡ t → i < k + 1 → bytes_at s (span_at b i) ≡ get_or (names_at s a k ++ (bytes_at s (span_at b k) ∷ [])) i []
    go i true e l =
        let q : length (names_at s a k) ≡ i = names-count s a k ∙ sym (eqb-true i k e) in
        rw (eqb-true i k e) (sym (get_or_at (names_at s a k) (bytes_at s (span_at b k)) [] [] k (names-count s a k)))
    go i false e l =
        let d : i < k = omega (arith, eqb-false i k e) in
        ap (bytes_at s) (h i d) ∙ sym (get_or-append (names_at s a k) (bytes_at s (span_at b k) ∷ []) [] i (omega (arith, names-count s a k)) ∙ name-at s a k i d)

abbrev Lies : Bytes → Span → Type 0
Lies p x = (x.from ≤ x.to) × (x.to ≤ length p)

-- an array that has no places yet
abbrev zeros : List ℕ
zeros = replicate Limits.places 0

module _ (p : Bytes) (m k at : ℕ) (a : List ℕ) where
  places_stop : None ≡ name_end p at → a ≡ places_from p (suc m) k at a
  unfolding places_from
  places_stop e = rw (places_from, ← e)

  places-turn : (r : ℕ) → Some r ≡ name_end p at → places_from p m (k + 1) r (set (set a (2 * k) (at + name_size)) (2 * k + 1) r) ≡ places_from p (suc m) k at a
  unfolding places_from
  places-turn r e = rw (places_from, ← e)

-- k of the n identifiers from `at` on were read, and `next` is the place after them
pub record Sofar (p : Bytes) (at n : ℕ) (places : List ℕ) (next k : ℕ) : Type 0 where
  pub all : ids_in n (drop at p) ≡ after (names_at p places k) (ids_in (n - k) (drop next p))
  pub left : places_from p (n - k) k next places ≡ places_from p n 0 at zeros
  pub here : next ≤ length p
  pub within : (j : ℕ) → j < k → Lies p (span_at places j)

module _ (p : Bytes) (at n : ℕ) (places : List ℕ) where
  -- as the code answers
  abbrev Answers : Code.Option ℕ → List ℕ → Type 0
  Answers r a = (r ≡ next_in (length p) (ids_in n (drop at p))) × NamesAre p at n (ids_in n (drop at p)) a

  pub sofar_start : places ≡ zeros → at ≤ length p → Sofar p at n places at 0
  sofar_start q h =
      let z : n - 0 ≡ n = omega arith in
      record { all = rw z (sym (after_none (ids_in n (drop at p)))); left = rw (z, q); here = h; within = λ j l. absurd (omega arith) }

  module _ (next k : ℕ) (f : Sofar p at n places next k) where
    pub sofar_end : k ≡ n → Answers (Some next) places
    unfolding ids_in places_from
    sofar_end q =
        let z : n - k ≡ 0 = omega arith in
        let g : ids_in n (drop at p) ≡ got (names_at p places n, drop next p) = f.all ∙ rw (z, q, append-nil) in
        rw g (ap Some (sym (rest_at p next f.here)), (rw z at f.left, refl, rw (← q) f.within))

    module _ (l : k < n) where
      left : n - k ≡ suc (n - (k + 1))
      left = omega arith

      rest : places_from p (suc (n - (k + 1))) k next places ≡ places_from p n 0 at zeros
      rest = ap (λ (x : ℕ). places_from p x k next places) (sym left) ∙ f.left

      pub sofar_stop : None ≡ name_end p next → Answers None places
      sofar_stop q =
          let g : ids_in n (drop at p) ≡ bad = f.all ∙ rw (left, names_stop p next (n - (k + 1)) q) in
          rw g (refl, places_stop p (n - (k + 1)) k next places q ∙ rest)

      pub sofar_next : (r : ℕ) → Some r ≡ name_end p next → 2 * k + 1 < length places → Sofar p at n (set (set places (2 * k) (next + name_size)) (2 * k + 1) r) r (k + 1)
      sofar_next r q room =
          let (u, v, g) = names-on p next (n - (k + 1)) r q in
          let inner : List ℕ = set places (2 * k) (next + name_size) in
          let new : List ℕ = set inner (2 * k + 1) r in
          let w : length inner ≡ length places = length-set places (2 * k) (next + name_size) in
          let from : get_or new (2 * k) 0 ≡ next + name_size = get_or-set_other inner (2 * k + 1) (2 * k) r 0 (λ e. omega arith) ∙ get_or-set_same places (2 * k) (next + name_size) 0 (omega arith) in
          let to : get_or new (2 * k + 1) 0 ≡ r = get_or-set_same inner (2 * k + 1) r 0 (omega arith) in
          let other : (i : ℕ) → i < 2 * k → get_or new i 0 ≡ get_or places i 0 =
          λ i h. get_or-set_other inner (2 * k + 1) i r 0 (λ e. omega arith) ∙ get_or-set_other places (2 * k) i (next + name_size) 0 (λ e. omega arith) in
          let kept : (j : ℕ) → j < k → span_at new j ≡ span_at places j = λ j h. rw (other (2 * j) (omega arith), other (2 * j + 1) (omega arith)) in
          let here : span_at new k ≡ span (next + name_size) r = rw (from, to) in
          let names : names_at p new (k + 1) ≡ names_at p places k ++ (part p (next + name_size) (r - (next + name_size)) ∷ []) = names_more p places new k kept
          ∙ ap (λ (x : Span). names_at p places k ++ (bytes_at p x ∷ [])) here in
          record {
            all = f.all ∙ rw (left, g, names) (after_more (names_at p places k) (part p (next + name_size) (r - (next + name_size))) (ids_in (n - (k + 1)) (drop r p)));
            left = places-turn p (n - (k + 1)) k next places r q ∙ rest;
            here = v;
            within =
                below_more (λ j. Lies p (span_at new j)) k (λ j h. subst (Lies p) (sym (kept j h)) (f.within j h)) (omega arith, omega arith);
          }

-- the identifiers that were accepted, and the place after them
pub record Named (p : Bytes) (at n from : ℕ) (places : List ℕ) : Type 0 where
  pub reads : ids_in n (drop at p) ≡ got (names_at p places n, drop from p)
  pub exact : places ≡ places_from p n 0 at zeros
  pub here : from ≤ length p
  pub within : (j : ℕ) → j < n → Lies p (span_at places j)

module _ (p : Bytes) (at n : ℕ) (places : List ℕ) (h : at ≤ length p) where
  pub none_named : Answers p at n places None places → (r : Refusal) × (k : ℕ) × (ids_in n (drop at p) ≡ refused r k)
  none_named f = go (ids_in n (drop at p)) refl
    where
      go : (x : Got (List Bytes × Bytes)) → ids_in n (drop at p) ≡ x → (r : Refusal) × (k : ℕ) × (ids_in n (drop at p) ≡ refused r k)
      go (refused r k) e = (r, k, e)
      go (got a) e = let z : None ≡ Some (length p - length a.1) = f.0 ∙ ap (next_in (length p)) e in cc

  pub all_named : (from : ℕ) → Answers p at n places (Some from) places → Named p at n from places
  all_named from f = go (ids_in n (drop at p)) refl
    where
      go : (x : Got (List Bytes × Bytes)) → ids_in n (drop at p) ≡ x → Named p at n from places
      go (refused r k) e = let z : Some from ≡ None = f.0 ∙ ap (next_in (length p)) e in cc
      go (got a) e =
          let l : Leaves p at a.1 = ids_leave p n at a.0 a.1 h e in
          let w : Some from ≡ Some (length p - length a.1) = f.0 ∙ ap (next_in (length p)) e in
          let q : from ≡ length p - length a.1 = cc in
          let (exact, names, within) = rw e at f.1 in
          record {
            reads = e ∙ rw (names, q) (ap (λ (x : Bytes). got (a.0, x)) l.rest);
            exact = exact;
            here = omega (arith, l.fits);
            within = within;
          }
