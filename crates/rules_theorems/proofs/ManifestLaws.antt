-- What holds of an accepted manifest.
use Prim.Native.Nat.{ℕ, zero, suc, ◌+◌, ◌-◌, ◌*◌, ◌≤◌, ◌<◌}
use mathlib.Core.Path.{◌≡◌, refl, ap, ◌∙◌, subst}
use mathlib.Core.List.{List, [], ◌∷◌, ◌++◌, map, map-append}
use mathlib.Core.Bool.{Bool, true, false, not, cond}
use native.Mathlib.Omega.{arith}
use native.Mathlib.Nat.{mul-add, mul_left_comm, mul-le-mul_left, mul-le-mul_right}
use lib.Dec.{leb, eqb}
use lib.ListN.{length, length-append, length-map}
use borrow.Author.Tests.{leb-true, not-true, ne_eqb, lt-leb}
use Rattle.rules.specs.declared.answers.Refusal.TheVariants.{Malformed, RepeatedIdentifier}
use Rattle.rules.specs.Limits.{limits}
use Rattle.rules.specs.Bytes.{Bytes, Span, span, bytes_at, same, member, repeats}
use Rattle.rules.specs.Got.{got}
use Rattle.rules.specs.Cbor.{NUMBER, ARRAY, MAP, item}
use Rattle.rules.specs.Manifest.{Seq, count, Section, count_all, Manifest, names}
use Rattle.rules.specs.Check.{common_weight, key, in_bytes, strings, identifier, identifiers, components, sequence_at, section_at, common_seq, common_at, version_at, numbered_at, front_at, sections_at, manifest_at, check}
use Rattle.rules.specs.Check as Check
use Rattle.rules.specs.ProgramSize.{arg_size}
use Rattle.rules.specs.Commands.{COMMON, PAYLOAD_FETCH, RUN}
use Rattle.rules.proofs.GotLaws.{passed, both, split, split₂, or-false}
use Rattle.rules.proofs.CheckLaws.{Item, item_law, number_law, key_law, in_bytes_law, strings_law}
use Rattle.rules.proofs.ManifestParts.{common_parts, common_in_lem, manifest_parts, held}
use Rattle.rules_theorems.proofs.OpLaws.{argument_growth}
use Rattle.rules_theorems.proofs.RoundTrip.{GoodIds}
use Rattle.rules.proofs.BytesLaws.{length_part}
use Rattle.rules.proofs.SameLaws.{same_sym}
use Rattle.rules_theorems.proofs.TreeLaws.{GoodSeq, Tree, seq_tree}

member-append : (x id : Bytes) (xs : List Bytes) → member x xs ≡ false → same x id ≡ false → member x (xs ++ (id ∷ [])) ≡ false
member-append x id [] h e = rw e
member-append x id (y ∷ ys) h e = let (a, b) = or-false (same x y) (member x ys) h in rw (a, member-append x id ys b e)

repeats-append : (xs : List Bytes) (id : Bytes) → repeats xs ≡ false → member id xs ≡ false → repeats (xs ++ (id ∷ [])) ≡ false
repeats-append [] id h e = refl
repeats-append (x ∷ xs) id h e =
    let (a, b) = or-false (member x xs) (repeats xs) h in
    let (c, d) = or-false (same id x) (member id xs) e in
    rw (member-append x id xs a (same_sym x id ∙ c), repeats-append xs id b d)

ids-append : (xs : List Bytes) (id : Bytes) → GoodIds xs → 1 ≤ length id → length id ≤ limits.identifier → GoodIds (xs ++ (id ∷ []))
ids-append [] id g a b = (a, b, tt)
ids-append (x ∷ xs) id g a b = (g.0, g.1, ids-append xs id g.2 a b)

module _ (s : Bytes) where
  record Identifier (before : List Span) (e at : ℕ) (id : Span) : Type 0 where
    up : at < id.to
    fits : id.to ≤ e
    some_bytes : 1 ≤ length (bytes_at s id)
    short : length (bytes_at s id) ≤ limits.identifier
    new : member (bytes_at s id) (map (bytes_at s) before) ≡ false

  identifier_law : (before : List Span) (e at : ℕ) (id : Span) → e ≤ length s → identifier s before e at ≡ got id → Identifier before e at id
  unfolding identifier
  identifier_law before e at id l q₀ =
      split _ (item ARRAY 1 limits.parts s e at) _ id q₀ λ h qh q₁.
      split _ (strings s h.num e h.next) _ id q₁ λ next qn q₂.
      let (a, q₃) = passed (leb (next - at) limits.identifier) Malformed at _ id q₂ in
      let (b, q₄) = passed (not (member (bytes_at s (span at next)) (map (bytes_at s) before))) RepeatedIdentifier at _ id q₃ in
      let i : Item s ARRAY 1 limits.parts e at h = item_law s ARRAY 1 limits.parts e at h qh in
      let (u, f) = strings_law s h.num e h.next next (omega arith) qn in
      let ei : span at next ≡ id = cc in
      let n : next - at ≤ limits.identifier = leb-true _ _ a in
      let j : length (bytes_at s (span at next)) ≡ next - at = length_part s at (next - at) (omega arith) in
      subst (λ (x : Span). Identifier before e at x) ei
      (record { up = omega arith; fits = omega arith; some_bytes = omega arith; short = omega arith; new = not-true _ b })

  -- identifiers that are good and distinct
  record Distinct (ids : List Span) : Type 0 where
    pub good : GoodIds (map (bytes_at s) ids)
    pub once : repeats (map (bytes_at s) ids) ≡ false

  one_more_lem : (ids : List Span) (id : Span) → Distinct ids → 1 ≤ length (bytes_at s id) → length (bytes_at s id) ≤ limits.identifier →
      member (bytes_at s id) (map (bytes_at s) ids) ≡ false → Distinct (ids ++ (id ∷ []))
  one_more_lem ids id d a b m =
      record {
        good = rw (map-append (bytes_at s) ids (id ∷ [])) (ids-append (map (bytes_at s) ids) (bytes_at s id) d.good a b);
        once = rw (map-append (bytes_at s) ids (id ∷ [])) (repeats-append (map (bytes_at s) ids) (bytes_at s id) d.once m);
      }

  identifiers_law : (k : ℕ) (before : List Span) (e at : ℕ) (ids : List Span) (q : ℕ) → e ≤ length s → at ≤ e → Distinct before →
      identifiers s k before e at ≡ got (ids, q) → (at ≤ q) × (q ≤ e) × Distinct ids × (length ids ≡ length before + k)
  unfolding identifiers
  identifiers_law zero before e at ids q l u d q₀ =
      let (ei, eq) = both q₀ in
      rw (← ei, ← eq) (omega arith, u, d, omega arith)
  identifiers_law (suc k) before e at ids q l u d q₀ =
      split _ (identifier s before e at) _ (ids, q) q₀ λ id qi q₁.
      let i = identifier_law before e at id l qi in
      let (a, b, d', n) =
      identifiers_law k (before ++ (id ∷ [])) e id.to ids q l i.fits (one_more_lem before id d i.some_bytes i.short i.new) q₁ in
      let j : length (before ++ (id ∷ [])) ≡ length before + 1 = length-append before (id ∷ []) in
      (omega (arith, i.up), b, d', omega arith)

  components_law : (e at : ℕ) (ids : List Span) (q : ℕ) → e ≤ length s → components s e at ≡ got (ids, q) →
      (at ≤ q) × (q ≤ e) × Distinct ids × (1 ≤ length ids) × (length ids ≤ limits.components)
  unfolding components
  components_law e at ids q l q₀ =
      split _ (item ARRAY 1 limits.components s e at) _ (ids, q) q₀ λ h qh q₁.
      let i : Item s ARRAY 1 limits.components e at h = item_law s ARRAY 1 limits.components e at h qh in
      let (a, b, d, n) = identifiers_law h.num [] e h.next ids q l (omega arith) (record { good = tt; once = refl }) q₁ in
      (omega arith, b, d, omega arith, omega arith)

-- argument bytes of a list of sections
abbrev pub arg_size_in : List Section → ℕ
arg_size_in [] = 0
arg_size_in (x ∷ xs) = arg_size x.seq + arg_size_in xs

abbrev pub GoodSections : ℕ → List Section → Type 0
GoodSections n [] = Unit {0}
GoodSections n (x ∷ xs) = GoodSeq x.seq n x.key × GoodSections n xs

-- how many sections there are beside common's own sequence
abbrev pub others : List Section → ℕ
others [] = 0
others (x ∷ xs) = cond (eqb x.key COMMON) 0 1 + others xs

-- f of every sequence, that of common w times
abbrev pub weighed : (Seq → ℕ) → ℕ → List Section → ℕ
weighed f w [] = 0
weighed f w (x ∷ xs) = cond (eqb x.key COMMON) w 1 * f x.seq + weighed f w xs

-- 02, T-01: the weight of a command of common, and the sum that number 74 speaks of
abbrev pub weight_of : Manifest → ℕ
weight_of m = common_weight (3 + others m.sections)

abbrev pub weighted_sum : Manifest → ℕ
weighted_sum m = weighed count (weight_of m) m.sections

pub record Sound (s : Bytes) (m : Manifest) : Type 0 where
  pub number : m.number ≤ limits.largest
  pub ids : GoodIds (names s m)
  pub distinct : repeats (names s m) ≡ false
  pub some-ids : (1 ≤ length (names s m)) × (length (names s m) ≤ limits.components)
  pub sections : GoodSections (length (names s m)) m.sections
  pub few : weighted_sum m ≤ limits.commands
  pub light : weighed arg_size (weight_of m) m.sections ≤ 5 * limits.envelope + argument_growth * weighted_sum m

-- sections of which all, or none, are common's own sequence
abbrev Are : Bool → List Section → Type 0
Are b [] = Unit {0}
Are b (x ∷ xs) = (eqb x.key COMMON ≡ b) × Are b xs

others_are : (ys : List Section) → Are false ys → others ys ≡ length ys
others_are [] h = refl
others_are (y ∷ ys) h = rw h.0 (omega (arith, others_are ys h.1))

others-append : (xs ys : List Section) → Are true xs → others (xs ++ ys) ≡ others ys
others-append [] ys h = refl
others-append (x ∷ xs) ys h = rw h.0 (omega (arith, others-append xs ys h.1))

weighed_are : (w : ℕ) (ys : List Section) → Are false ys → (weighed count w ys ≡ count_all ys) × (weighed arg_size w ys ≡ arg_size_in ys)
weighed_are w [] h = (refl, refl)
weighed_are w (y ∷ ys) h = let r = weighed_are w ys h.1 in rw h.0 (omega (arith, r.0), omega (arith, r.1))

weighed-append : (w : ℕ) (xs ys : List Section) → Are true xs →
    (weighed count w (xs ++ ys) ≡ w * count_all xs + weighed count w ys) × (weighed arg_size w (xs ++ ys) ≡ w * arg_size_in xs + weighed arg_size w ys)
weighed-append w [] ys h = (omega arith, omega arith)
weighed-append w (x ∷ xs) ys h =
    let r = weighed-append w xs ys h.1 in
    rw h.0
    (omega (arith, r.0, mul-add w (count x.seq) (count_all xs)), omega (arith, r.1, mul-add w (arg_size x.seq) (arg_size_in xs)))

-- the weight of common's commands is at least 1 and at least the number of sections, and a manifest has at most 5 of these
pub weight_law : (n : ℕ) → (1 ≤ common_weight (3 + n)) × (n ≤ common_weight (3 + n)) × (n ≤ 5 → common_weight (3 + n) ≤ 5)
weight_law zero = (omega arith, omega arith, λ h. omega arith)
weight_law (suc n) = rw (lt-leb (3 + suc n) 3 (omega arith)) (omega arith, omega arith, λ h. omega arith)

sections-append : (n : ℕ) (xs ys : List Section) → GoodSections n xs → GoodSections n ys → GoodSections n (xs ++ ys)
sections-append n [] ys g h = h
sections-append n (x ∷ xs) ys g h = (g.0, sections-append n xs ys g.1 h)

-- what is light stays so when it is repeated up to 5 times
repeat_law : (v a l c : ℕ) → v ≤ 5 → a ≤ l + argument_growth * c → v * a ≤ 5 * l + argument_growth * (v * c)
repeat_law v a l c five h =
    let x : v * a ≤ v * (l + argument_growth * c) = mul-le-mul_left v h in
    let y : v * l ≤ 5 * l = mul-le-mul_right l five in
    omega (arith, mul-add v l (argument_growth * c), mul_left_comm v argument_growth c)

module _ (s : Bytes) (small : length s < 65536) where
  section_law : (n k w m e at : ℕ) (x : Section) (q : ℕ) → e ≤ length s → section_at s n k w m e at ≡ got (x, q) →
      Tree w m e at q (count x.seq) (arg_size x.seq) (GoodSeq x.seq n x.key × (x.key ≡ k))
  unfolding section_at
  section_law n k w m e at x q l q₀ =
      split₂ _ (in_bytes s (sequence_at s n k w limits.depth m) e at) _ (x, q) q₀ λ a p qa q₁.
      let i = in_bytes_law s (sequence_at s n k w limits.depth m) e at a p qa in
      let t = seq_tree s n k w small limits.depth m p.to p.from a p.to (omega (arith, i.fits)) i.mid i.reads in
      let (ex, eq) = both q₁ in
      rw (← ex, ← eq)
      (record { up = omega (arith, i.up, t.up); fits = i.fits; few = t.few; light = omega (arith, i.up, t.light); good = (t.good, refl) })

  abbrev Listed : Bool → ℕ → ℕ → ℕ → ℕ → List Section → ℕ → ℕ → Type 0
  Listed b w m e at xs q n = Tree w m e at q (count_all xs) (arg_size_in xs) (GoodSections n xs × Are b xs)

  sections_law : (n k low m e at : ℕ) (xs : List Section) (q : ℕ) → 8 ≤ low → e ≤ length s → at ≤ e → sections_at s n k low m e at ≡ got (xs, q) →
      Listed false 1 m e at xs q n × (length xs ≡ k)
  unfolding sections_at
  sections_law n zero low m e at xs q b l u q₀ =
      let (ex, eq) = both q₀ in
      rw (← ex, ← eq) (record { up = omega arith; fits = u; few = λ h. omega arith; light = omega arith; good = (tt, tt) }, refl)
  sections_law n (suc k) low m e at xs q b l u q₀ =
      split _ (item NUMBER low RUN s e at) _ (xs, q) q₀ λ h qh q₁.
      split₂ _ (section_at s n h.num 1 m e h.next) _ (xs, q) q₁ λ x p qa q₂.
      split₂ _ (sections_at s n k (h.num + 1) (m + count x.seq) e p) _ (xs, q) q₂ λ rest p' qs q₃.
      let i : Item s NUMBER low RUN e at h = item_law s NUMBER low RUN e at h qh in
      let t = section_law n h.num 1 m e h.next x p l qa in
      let (t', len) = sections_law n k (h.num + 1) (m + count x.seq) e p rest p' (omega arith) l t.fits qs in
      let other : eqb x.key COMMON ≡ false = ne_eqb x.key COMMON (λ z. omega (arith, t.good.1)) in
      let (ex, eq) = both q₃ in
      rw (← ex, ← eq) (
        record {
          up = omega (arith, t.up, t'.up);
          fits = t'.fits;
          few = λ z. omega (arith, t'.few (omega (arith, t.few z)));
          light = omega (arith, t.light, t'.light);
          good = ((t.good.0, t'.good.0), (other, t'.good.1));
        },
        omega arith,
      )

  common_seq_law : (n w k e at : ℕ) (xs : List Section) (q : ℕ) → e ≤ length s → at ≤ e → common_seq s n w k e at ≡ got (xs, q) → Listed true w 0 e at xs q n
  unfolding common_seq
  common_seq_law n w zero e at xs q l u q₀ =
      let (ex, eq) = both q₀ in
      rw (← ex, ← eq) (record { up = omega arith; fits = u; few = λ h. omega arith; light = omega arith; good = (tt, tt) })
  common_seq_law n w (suc k) e at xs q l u q₀ =
      split _ (key s 4 e at) _ (xs, q) q₀ λ p qp q₁.
      split₂ _ (section_at s n COMMON w 0 e p) _ (xs, q) q₁ λ x next qx q₂.
      let (y, z) = key_law s 4 e at p qp in
      let t = section_law n COMMON w 0 e p x next l qx in
      let (ex, eq) = both q₂ in
      rw (← ex, ← eq)
      (record {
        up = omega (arith, t.up);
        fits = t.fits;
        few = λ h. omega (arith, t.few h, mul-add w (count x.seq) 0);
        light = omega (arith, t.light);
        good = ((t.good.0, tt), (rw t.good.1, tt));
      })

  common_law : (v e at : ℕ) (r : List Span × List Section) (q : ℕ) → e ≤ length s → common_at s v e at ≡ got (r, q) →
      Listed true v 0 e at r.1 q (length r.0) × Distinct s r.0 × (1 ≤ length r.0) × (length r.0 ≤ limits.components)
  common_law v e at r q l q₀ =
      let x = common_parts s v e at r q q₀ in
      let j = in_bytes_law s (components s) e x.list r.0 x.place x.ids in
      let (u₂, f₂, d, n₁, n₂) = components_law s x.place.to x.place.from r.0 x.place.to (omega (arith, j.fits)) j.reads in
      let t = common_seq_law (length r.0) v x.left e x.place.to r.1 q l j.fits x.sequence in (
        record {
          up = omega (arith, t.up, j.up, x.up);
          fits = t.fits;
          few = t.few;
          light = omega (arith, t.light, j.up, x.up);
          good = t.good;
        },
        d,
        n₁,
        n₂,
      )

  -- the map has 3 to 8 entries, and the sequence number is one that an item holds
  front_law : (e at k n q : ℕ) → front_at s e at ≡ got ((k, n), q) → (3 ≤ k) × (k ≤ 8) × (n ≤ limits.largest)
  unfolding front_at numbered_at
  front_law e at k n q q₀ =
      split _ (item MAP 3 8 s e at) _ ((k, n), q) q₀ λ h qh q₁.
      split _ (version_at s e h.next) _ ((k, n), q) q₁ λ p qp q₂.
      split₂ _ (numbered_at s e p) _ ((k, n), q) q₂ λ number next qn q₃.
      split _ (key s 2 e p) _ (number, next) qn λ p₁ qk q₄.
      split₂ _ (Check.number s e p₁) _ (number, next) q₄ λ read p₂ qr q₅.
      split _ (key s COMMON e p₂) _ (number, next) q₅ λ p₃ qc q₆.
      let i : Item s MAP 3 8 e at h = item_law s MAP 3 8 e at h qh in
      let (_, _, big) = number_law s e p₁ read p₂ qr in
      let (er, _) = both q₆ in
      let (ek, _) = both q₃ in
      let ec : h.num ≡ k = ap (λ (z : ℕ × ℕ). z.0) ek in
      let en : number ≡ n = ap (λ (z : ℕ × ℕ). z.1) ek in
      (omega (arith, i.low, ec), omega (arith, i.high, ec), omega (arith, big, er, en))

  manifest_law : (e at : ℕ) (m : Manifest) (q : ℕ) → length s ≤ limits.envelope → e ≤ length s → manifest_at s e at ≡ got (m, q) → Sound s m
  manifest_law e at m q big l q₀ =
      let x = manifest_parts s e at m q q₀ in
      let c = x.common in
      let w = x.place in
      let v : ℕ = common_weight x.entries in
      let (low, high, big-n) = front_law e at x.entries x.number x.start x.front in
      let j = common_in_lem s v e x.start c w x.held in
      let (t, d, n₁, n₂) = common_law v w.to w.from c w.to (omega (arith, j.fits)) j.reads in
      let (t', several) = sections_law (length c.0) (x.entries - 3) PAYLOAD_FETCH (v * count_all c.1) e w.to x.sections q (omega arith) l j.fits x.follow in
      let num : 3 + others (c.1 ++ x.sections) ≡ x.entries =
      omega (arith, low, others-append c.1 x.sections t.good.1, others_are x.sections t'.good.1) in
      let (ca, wa) = weighed-append v c.1 x.sections t.good.1 in
      let (cb, wb) = weighed_are v x.sections t'.good.1 in
      let sum : v * count_all c.1 + count_all x.sections ≤ limits.commands = omega (arith, t'.few (omega (arith, t.few (omega arith)))) in
      let five : v ≤ 5 = rw num at ((weight_law (others (c.1 ++ x.sections))).2 (omega (arith, high))) in
      let repeated : v * arg_size_in c.1 ≤ 5 * (w.to - w.from) + argument_growth * (v * count_all c.1) =
      repeat_law v (arg_size_in c.1) (w.to - w.from) (count_all c.1) five (omega (arith, t.light)) in
      let len : length (map (bytes_at s) c.0) ≡ length c.0 = length-map c.0 (bytes_at s) in
      rw x.is
      (record {
        number = big-n;
        ids = d.good;
        distinct = d.once;
        some-ids = (omega arith, omega arith);
        sections = rw len (sections-append (length c.0) c.1 x.sections t.good.0 t'.good.0);
        few = rw num (omega arith);
        light = rw num (omega (arith, j.mid, t'.light, t'.fits));
      })

pub sound : (s : Bytes) (m : Manifest) → check s ≡ got m → Sound s m
sound s m q = let h = held s m q in manifest_law s (omega arith) h.to h.from m h.to h.short h.fits h.reads
