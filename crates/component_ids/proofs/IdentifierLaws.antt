-- Reading all identifiers and then searching them gives what the rule gives, which tests each as it is read.
use Prim.Native.Nat.{ℕ, zero, suc, ◌+◌, ◌-◌, ◌*◌, ◌≤◌, ◌<◌}
use mathlib.Core.Path.{◌≡◌, refl, sym, ap, subst, ◌∙◌}
use mathlib.Core.List.{List, [], ◌∷◌, ◌++◌, map, append_assoc, append-nil}
use mathlib.Core.Bool.{Bool, true, false, ◌||◌, not}
use native.Mathlib.Omega.{arith}
use native.Mathlib.Numerals.{add-one}
use native.Mathlib.Nat.{add-zero, zero-add}
use lib.Dec.{leb}
use lib.ListN.{length, get_or, drop, set, length-append, get_or-append}
use lib.Seq.{get_or-append_seam, drop-cons}
use borrow.Author.Tests.{le-leb, lt-leb}
use Rattle.rules.specs.declared.answers.Refusal.TheVariants.{Malformed, RepeatedIdentifier}
use Rattle.rules.specs.Limits.{limits, places}
use Rattle.rules.specs.Bytes.{Bytes, span_at, InBytes, Span, span, part, bytes_at, same, member}
use Rattle.rules.specs.Got.{Got, refused, got, need, ◌>>=◌}
use Rattle.rules.specs.Cbor.{BYTES, ARRAY, Head, after, item}
use Rattle.rules.specs.Check.{strings, identifier, identifiers, components}
use Rattle.rules.proofs.CheckLaws.{Item, item_law, strings_law}
use Rattle.rules.proofs.GotLaws.{passed, split, both}
use Rattle.rules.proofs.BytesLaws.{length_part}
use Rattle.rules.proofs.SameLaws.{same_lengths}
use Rattle.rules.specs.declared.answers.Fault.{Fault}
use Rattle.cbor_reading.specs.declared.Reading.{Reading}
use Rattle.component_ids.specs.declared.Listed.{Listed}
use Rattle.std.specs.Prelude.{Option, Some, None, Result, Ok, Err}
use Rattle.component_ids.specs.Identifiers.{flat_spans, laid, plain, Listing, onward, listing, ids_read, listed, equal, among, search_from, repeated}
use Rattle.cbor_reading.specs.Reading.{fault, ends, head_reading, place_of, reading}
use Rattle.cbor_reading.proofs.ReadingLaws.{alike, bind_assoc, item-stopped, item_went, place_of-stopped, place_of-went}

module _ (s : Bytes) where
  -- the identifiers xs after those of `before`, read to that end
  abbrev verdict : List Span → List Span → Got ℕ → Got (List Span × ℕ)
  verdict before [] end = end >>= λ q. got (before, q)
  verdict before (x ∷ xs) end =
      elim (member (bytes_at s x) (map (bytes_at s) before)) [ true ↦ refused RepeatedIdentifier x.from | false ↦ verdict (before ++ (x ∷ [])) xs end ]

  -- an identifier by its head and its strings
  abbrev rest : ℕ → ℕ → Got ℕ
  rest at next = need (leb (next - at) limits.identifier) Malformed at >>= λ _. got next

  plain-is : (e at : ℕ) → plain s e at ≡ (item ARRAY 1 limits.parts s e at >>= λ h. strings s h.num e h.next >>= rest at)
  unfolding plain identifier
  plain-is e at =
      bind_assoc (item ARRAY 1 limits.parts s e at) _ _ ∙ alike (item ARRAY 1 limits.parts s e at) _ _ λ h q.
      bind_assoc (strings s h.num e h.next) _ _ ∙ alike (strings s h.num e h.next) _ _ λ next q'.
      bind_assoc (need (leb (next - at) limits.identifier) Malformed at) _ _

  identifier-plain : (before : List Span) (e at : ℕ) →
      identifier s before e at
      ≡ (plain s e at >>= λ next. need (not (member (bytes_at s (span at next)) (map (bytes_at s) before))) RepeatedIdentifier at >>= λ _. got (span at next))
  unfolding identifier
  identifier-plain before e at =
      sym
      (ap (λ (x : Got ℕ). x >>= λ next. need (not (member (bytes_at s (span at next)) (map (bytes_at s) before))) RepeatedIdentifier at >>= λ _. got (span at next)) (plain-is e at)
      ∙ bind_assoc (item ARRAY 1 limits.parts s e at) _ _ ∙ alike (item ARRAY 1 limits.parts s e at) _ _ λ h q.
      bind_assoc (strings s h.num e h.next) _ _ ∙ alike (strings s h.num e h.next) _ _ λ next q'.
      bind_assoc (need (leb (next - at) limits.identifier) Malformed at) _ _)

  read_law : (n : ℕ) (before : List Span) (e at : ℕ) → identifiers s n before e at ≡ verdict before (listing s n e at).ids (listing s n e at).end
  unfolding identifiers listing
  read_law zero before e at = refl
  read_law (suc n) before e at =
      ap (λ (x : Got Span). x >>= λ id. identifiers s n (before ++ (id ∷ [])) e id.to) (identifier-plain before e at)
      ∙ go (plain s e at) (λ next. read_law n (before ++ (span at next ∷ [])) e next)
    where
      test : (next : ℕ) (b : Bool) → identifiers s n (before ++ (span at next ∷ [])) e next ≡ verdict (before ++ (span at next ∷ [])) (listing s n e next).ids (listing s n e next).end →
          ((need (not b) RepeatedIdentifier at >>= λ _. got (span at next)) >>= λ id. identifiers s n (before ++ (id ∷ [])) e id.to)
          ≡ (elim b as (λ _. Got (List Span × ℕ)) [ true ↦ refused RepeatedIdentifier at | false ↦ verdict (before ++ (span at next ∷ [])) (listing s n e next).ids (listing s n e next).end ])
      test next true ih = refl
      test next false ih = ih

      go : (x : Got ℕ) → ((next : ℕ) → identifiers s n (before ++ (span at next ∷ [])) e next ≡ verdict (before ++ (span at next ∷ [])) (listing s n e next).ids (listing s n e next).end) →
          ((x >>= λ next. need (not (member (bytes_at s (span at next)) (map (bytes_at s) before))) RepeatedIdentifier at >>= λ _. got (span at next))
          >>= λ id. identifiers s n (before ++ (id ∷ [])) e id.to)
          ≡ verdict before (onward at x (λ next. listing s n e next)).ids (onward at x (λ next. listing s n e next)).end
      go (refused r p) ih = refl
      go (got next) ih = test next (member (bytes_at s (span at next)) (map (bytes_at s) before)) (ih next)

abbrev none : Span
none = span 0 0

span_in : (ps : List Span) (t : List ℕ) (i : ℕ) → i < length ps → span_at (flat_spans ps ++ t) i ≡ get_or ps i none
span_in [] t i h = absurd (omega arith)
span_in (p ∷ ps) t zero h = refl
span_in (p ∷ ps) t (suc i) h =
    let a : 2 * suc i ≡ suc (suc (2 * i)) = omega arith in
    let b : 2 * suc i + 1 ≡ suc (suc (2 * i + 1)) = omega arith in
    rw (b, a) (span_in ps t i (omega arith))

pub span-laid : (ps : List Span) (a : List ℕ) (i : ℕ) → i < length ps → span_at (laid ps a) i ≡ get_or ps i none
span-laid ps a i h = span_in ps (drop (2 * length ps) a) i h

module _ (s : Bytes) (a : List ℕ) where
  -- the identifiers ys stand in the array from number i on
  abbrev Stand : List Span → ℕ → Type 0
  Stand ys i = (t : ℕ) → t < length ys → span_at a (i + t) ≡ get_or ys t none

  among_law : (j : ℕ) (ys : List Span) (i : ℕ) → Stand ys i → among s a j i (length ys) ≡ member (bytes_at s (span_at a j)) (map (bytes_at s) ys)
  unfolding among
  among_law j [] i h = refl
  among_law j (y ∷ ys) i h =
      let e : span_at a i ≡ y = rw add-zero at (h 0 (omega arith)) in
      let f : Stand ys (suc i) = λ t l. let k : suc i + t ≡ i + suc t = omega arith in rw k (h (suc t) (omega arith)) in
      rw (← e, among_law j ys (suc i) f)

  abbrev pub outcome : Option ℕ → List Span → Got ℕ → Got (List Span × ℕ)
  outcome (Some j) ids end = refused RepeatedIdentifier (get_or a (2 * j) 0)
  outcome None ids end = end >>= λ q. got (ids, q)

  search_law : (before xs : List Span) (end : Got ℕ) → Stand (before ++ xs) 0 →
      verdict s before xs end ≡ outcome (search_from s a (length before) (length xs)) (before ++ xs) end
  unfolding search_from
  search_law before [] end h = rw append-nil
  search_law before (x ∷ xs) end h =
      let j : ℕ = length before in
      let all : length (before ++ x ∷ xs) ≡ j + suc (length xs) = length-append before (x ∷ xs) in
      let here : span_at a j ≡ x = rw zero-add at (h j (omega arith)) ∙ get_or-append_seam before x xs none in
      let earlier : Stand before 0 = λ t l. h t (omega arith) ∙ get_or-append before (x ∷ xs) none t l in
      let m : among s a j 0 j ≡ member (bytes_at s x) (map (bytes_at s) before) =
      among_law j before 0 earlier ∙ ap (λ (p : Span). member (bytes_at s p) (map (bytes_at s) before)) here in
      let joined : (before ++ (x ∷ [])) ++ xs ≡ before ++ x ∷ xs = append_assoc before (x ∷ []) xs in
      let longer : length (before ++ (x ∷ [])) ≡ suc j = length-append before (x ∷ []) ∙ omega arith in
      let rest = rw (joined, longer) at (search_law (before ++ (x ∷ [])) xs end (rw joined h)) in
      pick (member (bytes_at s x) (map (bytes_at s) before)) j (before ++ x ∷ xs) end (refused RepeatedIdentifier x.from) _ _ (ap (λ (p : Span). refused RepeatedIdentifier p.from) (sym here)) rest
      ∙ ap (λ (b : Bool). outcome (elim b as (λ _. Option ℕ) [ true ↦ Some j | false ↦ search_from s a (suc j) (length xs) ]) (before ++ x ∷ xs) end) (sym m)
    where
      pick : (b : Bool) (j : ℕ) (ids : List Span) (end : Got ℕ) (u v : Got (List Span × ℕ)) (w : Option ℕ) → u ≡ outcome (Some j) ids end → v ≡ outcome w ids end →
          (elim b as (λ _. Got (List Span × ℕ)) [ true ↦ u | false ↦ v ]) ≡ outcome (elim b as (λ _. Option ℕ) [ true ↦ Some j | false ↦ w ]) ids end
      pick true j ids end u v w p q = p
      pick false j ids end u v w p q = q

-- the rule's answer, by the listing and the search of the places that it left in the array
pub identifiers_law : (s : Bytes) (n e at : ℕ) (a : List ℕ) →
    identifiers s n [] e at
    ≡ outcome s (laid (listing s n e at).ids a) (repeated s (laid (listing s n e at).ids a) (length (listing s n e at).ids)) (listing s n e at).ids (listing s n e at).end
unfolding repeated
identifiers_law s n e at a =
    read_law s n [] e at
    ∙ search_law s (laid (listing s n e at).ids a) [] (listing s n e at).ids (listing s n e at).end
    (λ t l. rw zero-add (span-laid (listing s n e at).ids a t l))

module _ (s : Bytes) (e p : ℕ) where
  pub strings-end : (n : ℕ) → n ≡ 0 → strings s n e p ≡ got p
  unfolding strings
  strings-end n z = rw z

  strings-turn : (n : ℕ) → 0 < n → strings s n e p ≡ (item BYTES 0 limits.largest s e p >>= λ h. strings s (n - 1) e (after h))
  unfolding strings
  strings-turn zero l = absurd (omega arith)
  strings-turn (suc n) l = let k : suc n - 1 ≡ n = omega arith in rw k

  -- the first of n strings, as the code read it
  module _ (n : ℕ) (l : 0 < n) where
    pub strings_stop : {f : Fault} → Err f ≡ head_reading (item BYTES 0 limits.largest s e p) → strings s n e p ≡ refused f.refusal f.at
    strings_stop q = strings-turn n l ∙ rw (item-stopped s BYTES 0 limits.largest e p _ q)

    pub strings-next : {h : Reading} → Ok h ≡ head_reading (item BYTES 0 limits.largest s e p) → strings s n e p ≡ strings s (n - 1) e (h.at + h.value)
    strings-next q = strings-turn n l ∙ rw (item_went s BYTES 0 limits.largest e p _ q)

pub same_unlike : (s : Bytes) (a n b m : ℕ) → (a + n ≤ length s) × (b + m ≤ length s) → (n ≡ m → ⊥) → same (part s a n) (part s b m) ≡ false
same_unlike s a n b m (f, g) d = same_lengths (part s a n) (part s b m) (λ q. d (omega (arith, length_part s a n f, length_part s b m g)))

module _ (s : Bytes) (e at : ℕ) where
  forward : (h : Head) (next : ℕ) → item ARRAY 1 limits.parts s e at ≡ got h → strings s h.num e h.next ≡ got next → (at < next) × (next ≤ e)
  forward h next q q' =
      let i : Item s ARRAY 1 limits.parts e at h = item_law s ARRAY 1 limits.parts e at h q in
      let (u, f) = strings_law s h.num e h.next next (omega arith) q' in
      (omega arith, f)

  plain_law : (next : ℕ) → plain s e at ≡ got next → (at < next) × (next ≤ e)
  plain_law next q₀ =
      split _ (item ARRAY 1 limits.parts s e at) _ next (sym (plain-is s e at) ∙ q₀) λ h q q₁.
      split _ (strings s h.num e h.next) _ next q₁ λ next' q' q₂.
      let (_, q₃) = passed (leb (next' - at) limits.identifier) Malformed at _ next q₂ in
      let k : next' ≡ next = cc in
      rw (← k) (forward h next' q q')

  -- an identifier by its head and its strings, as the code read them
  pub plain_stop : {f : Fault} → Err f ≡ head_reading (item ARRAY 1 limits.parts s e at) → plain s e at ≡ refused f.refusal f.at
  plain_stop q = plain-is s e at ∙ rw (item-stopped s ARRAY 1 limits.parts e at _ q)

  module _ (h : Reading) (q : Ok h ≡ head_reading (item ARRAY 1 limits.parts s e at)) where
    plain-rest : plain s e at ≡ (strings s h.value e h.at >>= rest s at)
    plain-rest = plain-is s e at ∙ rw (item_went s ARRAY 1 limits.parts e at _ q)

    pub strings-stopped : {f : Fault} → Err f ≡ place_of (strings s h.value e h.at) → plain s e at ≡ refused f.refusal f.at
    strings-stopped q' = plain-rest ∙ rw (place_of-stopped (strings s h.value e h.at) _ q')

    module _ (next : ℕ) (q' : Ok next ≡ place_of (strings s h.value e h.at)) where
      ended : strings s h.value e h.at ≡ got next
      ended = place_of-went (strings s h.value e h.at) _ q'

      pub forth : (at < next) × (next ≤ e)
      forth = forward _ next (item_went s ARRAY 1 limits.parts e at _ q) ended

      pub plain-long : limits.identifier < next - at → plain s e at ≡ refused Malformed at
      plain-long l = plain-rest ∙ rw (ended, lt-leb _ _ l)

      pub plain-good : next - at ≤ limits.identifier → plain s e at ≡ got next
      plain-good l = plain-rest ∙ rw (ended, le-leb _ _ l)

-- two numbers stored after the places ps
stored : (ps : List Span) (u v : ℕ) (t : List ℕ) (x y : ℕ) →
    set (set (flat_spans ps ++ u ∷ v ∷ t) (2 * length ps) x) (2 * length ps + 1) y ≡ flat_spans (ps ++ (span x y ∷ [])) ++ t
stored [] u v t x y = refl
stored (p ∷ ps) u v t x y =
    let a : 2 * suc (length ps) ≡ suc (suc (2 * length ps)) = omega arith in
    let b : 2 * suc (length ps) + 1 ≡ suc (suc (2 * length ps + 1)) = omega arith in
    rw (b, a) (ap (λ (l : List ℕ). p.from ∷ p.to ∷ l) (stored ps u v t x y))

laid_next : (ps : List Span) (a : List ℕ) (x y : ℕ) → 2 * length ps + 1 < length a →
    set (set (laid ps a) (2 * length ps) x) (2 * length ps + 1) y ≡ laid (ps ++ (span x y ∷ [])) a
laid_next ps a x y l =
    let n : 2 * length (ps ++ (span x y ∷ [])) ≡ suc (suc (2 * length ps)) = omega (arith, length-append ps (span x y ∷ [])) in
    rw (n, drop-cons a (2 * length ps) 0 (omega arith), drop-cons a (suc (2 * length ps)) 0 (omega arith)) (stored ps _ _ _ x y)

abbrev more : List Span → Listing → Listing
more ps l = record { ids = ps ++ l.ids; end = l.end }

-- k of n identifiers were read, and p is the place after them
pub record Sofar (s : Bytes) (n e at k p : ℕ) (a₀ a : List ℕ) : Type 0 where
  pub ids : List Span
  pub count : length ids ≡ k
  pub all : listing s n e at ≡ more ids (listing s (n - k) e p)
  pub lie : a ≡ laid ids a₀

module _ (s : Bytes) (n e at : ℕ) where
  pub listing_start : (a : List ℕ) → Sofar s n e at 0 at a a
  listing_start a = let k : n - 0 ≡ n = omega arith in record { ids = []; count = refl; all = rw k; lie = refl }

  listing-turn : (p m : ℕ) → 0 < m → listing s m e p ≡ onward p (plain s e p) (λ next. listing s (m - 1) e next)
  unfolding listing
  listing-turn p zero l = absurd (omega arith)
  listing-turn p (suc m) l = let k : suc m - 1 ≡ m = omega arith in rw k

  listing_none : (p m : ℕ) → m ≡ 0 → listing s m e p ≡ record { ids = []; end = got p }
  unfolding listing
  listing_none p m z = rw z

  -- as the code answers
  abbrev Answers : Listed → List ℕ → List ℕ → Type 0
  Answers r a₀ a = (r ≡ listed (listing s n e at)) × (a ≡ laid (listing s n e at).ids a₀)

  module _ (k p : ℕ) (a₀ a : List ℕ) (f : Sofar s n e at k p a₀ a) where
    pub listing-end : k ≡ n → Answers (record { count = n; end = Ok p }) a₀ a
    listing-end q =
        let g : listing s n e at ≡ record { ids = f.ids; end = got p } =
        f.all ∙ ap (more f.ids) (listing_none p (n - k) (omega arith)) ∙ rw append-nil in
        rw g (rw (f.count, q), f.lie)

    module _ (l : k < n) where
      pub listing_stop : {d : Fault} → Err d ≡ place_of (plain s e p) → Answers (record { count = k; end = Err d }) a₀ a
      listing_stop {d} q =
          let u : plain s e p ≡ refused d.refusal d.at = place_of-stopped (plain s e p) _ q in
          let w : listing s (n - k) e p ≡ record { ids = []; end = refused d.refusal d.at } = listing-turn p (n - k) (omega arith) ∙ rw u in
          let g : listing s n e at ≡ record { ids = f.ids; end = refused d.refusal d.at } = f.all ∙ ap (more f.ids) w ∙ rw append-nil in
          rw g (rw f.count, f.lie)

      pub listing-next : {next : ℕ} → Ok next ≡ place_of (plain s e p) → length a₀ ≡ places → n ≤ limits.components →
          Sofar s n e at (k + 1) next a₀ (set (set a (2 * k) p) (2 * k + 1) next)
      listing-next {next} q w b =
          let i : n - k - 1 ≡ n - (k + 1) = omega arith in
          let d : listing s (n - k) e p ≡ onward p (got next) (λ x. listing s (n - (k + 1)) e x) = listing-turn p (n - k) (omega arith) ∙ rw (place_of-went (plain s e p) _ q, i) in
          record {
            ids = f.ids ++ (span p next ∷ []);
            count = length-append f.ids (span p next ∷ []) ∙ omega (arith, f.count);
            all = f.all ∙ ap (more f.ids) d ∙ rw append_assoc;
            lie = rw (f.lie, ← f.count) (laid_next f.ids a₀ p next (omega (arith, f.count)));
          }

-- every place of the listing lies before the end
listing_in : (s : Bytes) (n e at : ℕ) → at ≤ e → (i : ℕ) → i < length (listing s n e at).ids →
    ((get_or (listing s n e at).ids i none).from ≤ (get_or (listing s n e at).ids i none).to) × ((get_or (listing s n e at).ids i none).to ≤ e)
unfolding listing
listing_in s zero e at h i l = absurd (omega arith)
listing_in s (suc n) e at h i l = go (plain s e at) refl (λ next b. listing_in s n e next b) i l
  where
    go : (x : Got ℕ) → plain s e at ≡ x →
        ((next : ℕ) → next ≤ e → (j : ℕ) → j < length (listing s n e next).ids →
        ((get_or (listing s n e next).ids j none).from ≤ (get_or (listing s n e next).ids j none).to) × ((get_or (listing s n e next).ids j none).to ≤ e)) →
        (j : ℕ) → j < length (onward at x (λ next. listing s n e next)).ids →
        ((get_or (onward at x (λ next. listing s n e next)).ids j none).from ≤ (get_or (onward at x (λ next. listing s n e next)).ids j none).to)
        × ((get_or (onward at x (λ next. listing s n e next)).ids j none).to ≤ e)
    go (refused r p) q ih j l = absurd (omega arith)
    go (got next) q ih zero l = let (u, f) = plain_law s e at next q in (omega arith, f)
    go (got next) q ih (suc j) l = ih next (plain_law s e at next q).1 j (omega arith)

in_bytes_lem : (s : Bytes) (n e at : ℕ) (a : List ℕ) → at ≤ e → e ≤ length s → InBytes (laid (listing s n e at).ids a) (length (listing s n e at).ids) (length s)
in_bytes_lem s n e at a h g i l =
    let (u, f) = listing_in s n e at h i l in
    subst (λ (p : Span). (p.from ≤ p.to) × (p.to ≤ length s)) (sym (span-laid (listing s n e at).ids a i l)) (u, omega arith)

module _ (s : Bytes) (a : List ℕ) where
  down : (n i : ℕ) → i < n → n - i ≡ suc (n - (i + 1))
  down n i h = omega arith

  pub among-start : (j : ℕ) → among s a j 0 j ≡ among s a j 0 (j - 0)
  among-start j = let z : j - 0 ≡ j = omega arith in rw z

  pub search_start : (n : ℕ) → repeated s a n ≡ search_from s a 0 (n - 0)
  unfolding repeated
  search_start n = let z : n - 0 ≡ n = omega arith in rw z

  module _ (j i : ℕ) where
    pub among-end : j ≤ i → among s a j i (j - i) ≡ false
    unfolding among
    among-end h = let z : j - i ≡ 0 = omega arith in rw z

    among-turn : i < j → among s a j i (j - i) ≡ (equal s a j i || among s a j (i + 1) (j - (i + 1)))
    unfolding among
    among-turn h = rw (down j i h, add-one i)

    pub among-found : i < j → equal s a j i ≡ true → among s a j i (j - i) ≡ true
    among-found h e = among-turn h ∙ rw e

    pub among_next : i < j → equal s a j i ≡ false → among s a j i (j - i) ≡ among s a j (i + 1) (j - (i + 1))
    among_next h e = among-turn h ∙ rw e

  search_is : (j k : ℕ) (b : Bool) → among s a j 0 j ≡ b → search_from s a j (suc k) ≡ (elim b as (λ _. Option ℕ) [ true ↦ Some j | false ↦ search_from s a (suc j) k ])
  unfolding search_from
  search_is j k b e = ap (λ (x : Bool). elim x as (λ _. Option ℕ) [ true ↦ Some j | false ↦ search_from s a (suc j) k ]) e

  module _ (n j : ℕ) where
    pub search_end : n ≤ j → search_from s a j (n - j) ≡ None
    unfolding search_from
    search_end h = let z : n - j ≡ 0 = omega arith in rw z

    pub search_found : j < n → among s a j 0 j ≡ true → search_from s a j (n - j) ≡ Some j
    search_found h e = rw (down n j h) (search_is j (n - (j + 1)) true e)

    pub search_next : j < n → among s a j 0 j ≡ false → search_from s a j (n - j) ≡ search_from s a (j + 1) (n - (j + 1))
    search_next h e = rw (down n j h, add-one j) (search_is j (n - suc j) false e)

  search_in : (j k i : ℕ) → search_from s a j k ≡ Some i → i < j + k
  unfolding search_from
  search_in j zero i q = let z : ◌≡◌ {A = ℕ} 0 1 = cc in absurd (omega arith)
  search_in j (suc k) i q = go (among s a j 0 j) (search_in (suc j) k i) q
    where
      go : (b : Bool) → (search_from s a (suc j) k ≡ Some i → i < suc j + k) → (elim b as (λ _. Option ℕ) [ true ↦ Some j | false ↦ search_from s a (suc j) k ]) ≡ Some i → i < j + suc k
      go true ih q = let e : j ≡ i = cc in omega arith
      go false ih q = omega (arith, ih q)

  pub repeated_in : (n i : ℕ) → repeated s a n ≡ Some i → i < n
  unfolding repeated
  repeated_in n i q = omega (arith, search_in 0 n i q)

-- no more than were asked for
listing-count : (s : Bytes) (n e at : ℕ) → length (listing s n e at).ids ≤ n
unfolding listing
listing-count s zero e at = omega arith
listing-count s (suc n) e at = go (plain s e at) (λ next. listing-count s n e next)
  where
    go : (x : Got ℕ) → ((next : ℕ) → length (listing s n e next).ids ≤ n) → length (onward at x (λ next. listing s n e next)).ids ≤ suc n
    go (refused r p) ih = omega arith
    go (got next) ih = omega (arith, ih next)

outcome-ids : (s : Bytes) (a : List ℕ) (w : Option ℕ) (ids : List Span) (end : Got ℕ) (ids' : List Span) (p : ℕ) → outcome s a w ids end ≡ got (ids', p) → ids' ≡ ids
outcome-ids s a (Some j) ids end ids' p g = let z : ◌≡◌ {A = ℕ} 0 1 = cc in absurd (omega arith)
outcome-ids s a None ids end ids' p g = split _ end _ (ids', p) g λ q qe g'. sym (both g').0

-- of an accepted component list, these are its identifiers
pub read_all : (s : Bytes) (e at : ℕ) (ids : List Span) (p : ℕ) → components s e at ≡ got (ids, p) → ids_read s e at ≡ ids
unfolding components ids_read
read_all s e at ids p g =
    split _ (item ARRAY 1 limits.components s e at) _ (ids, p) g λ h q g'.
    let l = listing s h.num e h.next in
    let a = laid l.ids [] in
    rw q (sym (outcome-ids s a (repeated s a (length l.ids)) l.ids l.end ids p (sym (identifiers_law s h.num e h.next []) ∙ g')))

-- and they lie in the bytes
pub ids-inside : (s : Bytes) (e at : ℕ) (ids : List Span) (p : ℕ) (a : List ℕ) → e ≤ length s → components s e at ≡ got (ids, p) →
    InBytes (laid ids a) (length ids) (length s)
unfolding components ids_read
ids-inside s e at ids p a f g =
    split _ (item ARRAY 1 limits.components s e at) _ (ids, p) g λ h q g'.
    let i : Item s ARRAY 1 limits.components e at h = item_law s ARRAY 1 limits.components e at h q in
    let w : (listing s h.num e h.next).ids ≡ ids = rw q at (read_all s e at ids p g) in
    subst (λ (x : List Span). InBytes (laid x a) (length x) (length s)) w (in_bytes_lem s h.num e h.next a (omega (arith, i.mid, i.fits)) f)

-- the component list by its head, as the code read it
module _ (s : Bytes) (e at : ℕ) where
  -- what is promised of it, and of the array b that was a
  abbrev Outcome : Result Reading Fault → List ℕ → List ℕ → Type 0
  Outcome r a b = (r ≡ reading length (components s e at)) × (b ≡ laid (ids_read s e at) a)

  pub components_stop : {f : Fault} → Err f ≡ head_reading (item ARRAY 1 limits.components s e at) → (a : List ℕ) → Outcome (Err f) a a
  unfolding components ids_read
  components_stop q a = let g = item-stopped s ARRAY 1 limits.components e at _ q in (rw g, rw g)

  module _ (h : Reading) (q : Ok h ≡ head_reading (item ARRAY 1 limits.components s e at)) where
    pub components-head : (h.value ≤ limits.components) × (h.at ≤ e)
    components-head = let i = item_law s ARRAY 1 limits.components e at _ (item_went s ARRAY 1 limits.components e at _ q) in (i.high, omega (arith, i.mid, i.fits))

    components-rest : (components s e at ≡ identifiers s h.value [] e h.at) × (ids_read s e at ≡ (listing s h.value e h.at).ids)
    unfolding components ids_read
    components-rest = let g = item_went s ARRAY 1 limits.components e at _ q in (rw g, rw g)

    -- its identifiers, in the array b that was a
    module _ (a b : List ℕ) (r : Listed) (l : (r ≡ listed (listing s h.value e h.at)) × (b ≡ laid (listing s h.value e h.at).ids a)) where
      kept : b ≡ laid (ids_read s e at) a
      kept = rw components-rest.1 l.1

      pub components-places : e ≤ length s → (r.count ≤ limits.components) × InBytes b r.count (length s)
      components-places f = rw (l.0, l.1) (omega (arith, listing-count s h.value e h.at, components-head.0), in_bytes_lem s h.value e h.at a components-head.1 f)

      module _ (w : Option ℕ) (f : w ≡ repeated s b r.count) where
        components-is : components s e at ≡ outcome s b w (listing s h.value e h.at).ids (listing s h.value e h.at).end
        components-is = components-rest.0 ∙ identifiers_law s h.value e h.at a ∙ rw (f, l.0, l.1)

        pub repeated-below : (j : ℕ) → w ≡ Some j → j < r.count
        repeated-below j g = repeated_in s b r.count j (sym f ∙ g)

        pub components-repeated : (j : ℕ) → w ≡ Some j → Outcome (fault RepeatedIdentifier (get_or b (2 * j) 0)) a b
        components-repeated j g =
            let k : components s e at ≡ refused RepeatedIdentifier (get_or b (2 * j) 0) = components-is ∙ rw g in
            (ap (reading length) (sym k), kept)

        module _ (g : w ≡ None) where
          components-new : components s e at ≡ ((listing s h.value e h.at).end >>= λ p. got ((listing s h.value e h.at).ids, p))
          components-new = components-is ∙ rw g

          pub components-refused : {d : Fault} → r.end ≡ Err d → Outcome (Err d) a b
          components-refused z =
              let x = place_of-stopped (listing s h.value e h.at).end _ (sym z ∙ ap (λ (y : Listed). y.end) l.0) in
              (rw (components-new, x), kept)

          pub components-good : {next : ℕ} → r.end ≡ Ok next → Outcome (ends next r.count) a b
          components-good z =
              let x = place_of-went (listing s h.value e h.at).end _ (sym z ∙ ap (λ (y : Listed). y.end) l.0) in
              (rw (components-new, x, l.0), kept)
