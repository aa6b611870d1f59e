-- The sections of a checked manifest, one after the other, and where their places stand in the array.
use Prim.Native.Nat.{ℕ, zero, suc, ◌+◌, ◌-◌, ◌*◌, ◌≤◌, ◌<◌}
use mathlib.Core.Path.{◌≡◌, refl, ap, ◌∙◌}
use mathlib.Core.List.{List, [], ◌∷◌, ◌++◌}
use native.Mathlib.Omega.{arith}
use native.Mathlib.Nat.{eq-or-lt_of_le}
use mathlib.Core.Logic.{◌⊎◌, inl, inr}
use lib.ListN.{length, get_or, set, replicate, length-set, length-replicate}
use lib.Seq.{get_or-set_same, get_or-set_other}
use borrow.Author.Tests.{ne_eqb}
use Rattle.rules.specs.Limits.{limits, section_count, section_places}
use Rattle.rules.specs.Bytes.{Bytes}
use Rattle.rules.specs.Got.{got}
use Rattle.rules.specs.Cbor.{NUMBER, item}
use Rattle.rules.specs.Commands.{COMMON, PAYLOAD_FETCH, RUN, section_key, section_no}
use Rattle.rules.specs.Manifest.{count, Section, count_all, Manifest}
use Rattle.rules.specs.Check.{common_weight, key, in_bytes, sequence_at, section_at, common_seq, sections_at, check}
use Rattle.rules.proofs.GotLaws.{both, split, split₂}
use Rattle.rules.proofs.CheckLaws.{item_law, in_bytes_law}
use Rattle.check_manifest.specs.Sections.{placed_one, placed}
use Rattle.run_slots.proofs.ParamsLaws.{zeros}
use Rattle.rules.proofs.ManifestParts.{common_parts, common_in_lem, manifest_parts, held}
use Rattle.rules_theorems.proofs.Reread.{reread}

-- a section as check reads it after any commands that leave it room, where each of its own weighs 1; its number is at least `least`
pub record SectionRead (s : Bytes) (n least : ℕ) (x : Section) : Type 0 where
  pub reads : (m : ℕ) → m + count x.seq ≤ limits.commands →
      sequence_at s n x.key 1 limits.depth m x.place.to x.place.from ≡ got (x.seq, x.place.to)
  pub some_bytes : 0 < x.place.to
  pub fits : x.place.to ≤ length s
  pub low : least ≤ section_no x.key
  pub high : section_no x.key < section_count
  pub named : x.key ≡ section_key (section_no x.key)

-- sections whose numbers ascend from `low` on
abbrev pub ReadAll : Bytes → ℕ → ℕ → List Section → Type 0
ReadAll s n low [] = Unit {0}
ReadAll s n low (x ∷ xs) = SectionRead s n low x × ReadAll s n (section_no x.key + 1) xs

-- its number is at least any that it is not below
at_least : (s : Bytes) (n least least' : ℕ) (x : Section) → SectionRead s n least x → least' ≤ section_no x.key → SectionRead s n least' x
at_least s n least least' x r h =
    record { reads = r.reads; some_bytes = r.some_bytes; fits = r.fits; low = h; high = r.high; named = r.named }

lower : (s : Bytes) (n low low' : ℕ) (xs : List Section) → low' ≤ low → ReadAll s n low xs → ReadAll s n low' xs
lower s n low low' [] h r = tt
lower s n low low' (x ∷ xs) h r = (at_least s n low low' x r.0 (omega (arith, r.0.low)), r.1)

module _ (s : Bytes) where
  -- a section under its key, before its number is known
  record Sequenced (n k e : ℕ) (x : Section) : Type 0 where
    key : x.key ≡ k
    reads : (m : ℕ) → m + count x.seq ≤ limits.commands → sequence_at s n k 1 limits.depth m x.place.to x.place.from ≡ got (x.seq, x.place.to)
    some_bytes : 0 < x.place.to
    fits : x.place.to ≤ e

  section-reads : (n k w m e at : ℕ) (x : Section) (q : ℕ) → section_at s n k w m e at ≡ got (x, q) → Sequenced n k e x
  unfolding section_at
  section-reads n k w m e at x q q₀ =
      split₂ _ (in_bytes s (sequence_at s n k w limits.depth m) e at) _ (x, q) q₀ λ a p qa q₁.
      let i = in_bytes_law s (sequence_at s n k w limits.depth m) e at a p qa in
      let (ex, eq) = both q₁ in
      rw (← ex)
      (record {
        key = refl;
        reads = λ m' room. reread s n k w 1 limits.depth m m' p.to p.from a p.to (omega arith) i.reads;
        some_bytes = omega (arith, i.up, i.mid);
        fits = i.fits;
      })

  numbered : (n k e : ℕ) (x : Section) (low : ℕ) → e ≤ length s → Sequenced n k e x → low ≤ section_no k → section_no k < section_count → k ≡ section_key (section_no k) →
      SectionRead s n low x
  numbered n k e x low l r a b c =
      record {
        reads = rw r.key r.reads;
        some_bytes = r.some_bytes;
        fits = omega (arith, r.fits);
        low = rw r.key a;
        high = rw r.key b;
        named = rw r.key c;
      }

  number_of : (k : ℕ) → PAYLOAD_FETCH ≤ k → section_no k ≡ k - (PAYLOAD_FETCH - 1)
  number_of k h = rw (ne_eqb k COMMON (λ e. omega arith))

  key_of : (k : ℕ) → PAYLOAD_FETCH ≤ k → k ≡ section_key (section_no k)
  key_of k h = rw (number_of k h, ne_eqb (k - (PAYLOAD_FETCH - 1)) 0 (λ e. omega arith)) (omega arith)

  sections-read : (n k low m e at : ℕ) (xs : List Section) (q : ℕ) → e ≤ length s → PAYLOAD_FETCH ≤ low → sections_at s n k low m e at ≡ got (xs, q) → ReadAll s n (low - (PAYLOAD_FETCH - 1)) xs
  unfolding sections_at
  sections-read n zero low m e at xs q l h q₀ = let (ex, _) = both q₀ in rw (← ex) tt
  sections-read n (suc k) low m e at xs q l h q₀ =
      split _ (item NUMBER low RUN s e at) _ (xs, q) q₀ λ i qi q₁.
      split₂ _ (section_at s n i.num 1 m e i.next) _ (xs, q) q₁ λ x p qx q₂.
      split₂ _ (sections_at s n k (i.num + 1) (m + count x.seq) e p) _ (xs, q) q₂ λ ys p' qs q₃.
      let j = item_law s NUMBER low RUN e at i qi in
      let r = section-reads n i.num 1 m e i.next x p qx in
      let b : PAYLOAD_FETCH ≤ i.num = omega (arith, j.low) in
      let f : section_no i.num ≡ i.num - (PAYLOAD_FETCH - 1) = number_of i.num b in
      let g : section_no x.key + 1 ≡ i.num + 1 - (PAYLOAD_FETCH - 1) = ap (λ (z : ℕ). section_no z + 1) r.key ∙ omega arith in
      let t = sections-read n k (i.num + 1) (m + count x.seq) e p ys p' l (omega arith) qs in
      let (ex, _) = both q₃ in
      rw (← ex, g) (numbered n i.num e x (low - (PAYLOAD_FETCH - 1)) l r (omega (arith, j.low)) (omega (arith, j.high)) (key_of i.num b), t)

  -- common's sequence, if there is one, before the sections
  common-read : (n w k e at : ℕ) (xs ys : List Section) (q : ℕ) → e ≤ length s → common_seq s n w k e at ≡ got (xs, q) → ReadAll s n 1 ys →
      ReadAll s n 0 (xs ++ ys)
  unfolding common_seq
  common-read n w zero e at xs ys q l q₀ h = let (ex, _) = both q₀ in rw (← ex) (lower s n 1 0 ys (omega arith) h)
  common-read n w (suc k) e at xs ys q l q₀ h =
      split _ (key s 4 e at) _ (xs, q) q₀ λ p qp q₁.
      split₂ _ (section_at s n COMMON w 0 e p) _ (xs, q) q₁ λ x next qx q₂.
      let r = section-reads n COMMON w 0 e p x next qx in
      let (ex, _) = both q₂ in
      let g : section_no x.key + 1 ≡ 1 = ap (λ (z : ℕ). section_no z + 1) r.key in
      rw (← ex, g) (numbered n COMMON e x 0 l r (omega arith) (omega arith) refl, h)

pub sections_of_lem : (s : Bytes) (m : Manifest) → check s ≡ got m → ReadAll s (length m.ids) 0 m.sections
sections_of_lem s m q =
    let h = held s m q in
    let x = manifest_parts s h.to h.from m h.to h.reads in
    let c = x.common in
    let w = x.place in
    let v : ℕ = common_weight x.entries in
    let j = common_in_lem s v h.to x.start c w x.held in
    let y = common_parts s v w.to w.from c w.to j.reads in
    let t =
    sections-read s (length c.0) (x.entries - 3) PAYLOAD_FETCH (v * count_all c.1) h.to w.to x.sections h.to h.fits (omega arith) x.follow in
    let inside : w.to ≤ length s = omega (arith, j.fits, h.fits) in
    rw x.is (common-read s (length c.0) v y.left w.to y.place.to c.1 x.sections w.to inside y.sequence t)

-- what is left of the sections from number k on, in the array of places
pub record Rest (s : Bytes) (n : ℕ) (places : List ℕ) (k : ℕ) (rest : List Section) : Type 0 where
  pub array : List ℕ
  pub size : length array ≡ section_places
  pub empty : (i : ℕ) → 2 * k ≤ i → get_or array i 0 ≡ 0
  pub stands : places ≡ placed rest array
  pub read : ReadAll s n k rest

module _ (s : Bytes) (n : ℕ) where
  size-one : (x : Section) (a : List ℕ) → length (placed_one x a) ≡ length a
  size-one x a = length-set (set a (2 * section_no x.key) x.place.from) (2 * section_no x.key + 1) x.place.to ∙ length-set a (2 * section_no x.key) x.place.from

  -- numbers before those of the sections, and those after one of them
  kept-one : (x : Section) (a : List ℕ) (i : ℕ) → (i < 2 * section_no x.key) ⊎ (2 * section_no x.key + 1 < i) → get_or (placed_one x a) i 0 ≡ get_or a i 0
  kept-one x a i (inl h) =
      get_or-set_other (set a (2 * section_no x.key) x.place.from) (2 * section_no x.key + 1) i x.place.to 0 (λ e. omega arith)
      ∙ get_or-set_other a (2 * section_no x.key) i x.place.from 0 (λ e. omega arith)
  kept-one x a i (inr h) =
      get_or-set_other (set a (2 * section_no x.key) x.place.from) (2 * section_no x.key + 1) i x.place.to 0 (λ e. omega arith)
      ∙ get_or-set_other a (2 * section_no x.key) i x.place.from 0 (λ e. omega arith)

  kept : (xs : List Section) (low : ℕ) (a : List ℕ) (i : ℕ) → ReadAll s n low xs → i < 2 * low → get_or (placed xs a) i 0 ≡ get_or a i 0
  kept [] low a i r h = refl
  kept (x ∷ xs) low a i r h =
      let f : i < 2 * section_no x.key = omega (arith, r.0.low) in
      kept xs (section_no x.key + 1) (placed_one x a) i r.1 (omega arith) ∙ kept-one x a i (inl f)

  -- the places of the first section
  module _ (x : Section) (xs : List Section) (low : ℕ) (a : List ℕ) (l : length a ≡ section_places) (r : ReadAll s n low (x ∷ xs)) where
    first-from : get_or (placed (x ∷ xs) a) (2 * section_no x.key) 0 ≡ x.place.from
    first-from =
        kept xs (section_no x.key + 1) (placed_one x a) (2 * section_no x.key) r.1 (omega arith)
        ∙ get_or-set_other (set a (2 * section_no x.key) x.place.from) (2 * section_no x.key + 1) (2 * section_no x.key) x.place.to 0 (λ e. omega arith)
        ∙ get_or-set_same a (2 * section_no x.key) x.place.from 0 (omega (arith, r.0.high))

    first_to : get_or (placed (x ∷ xs) a) (2 * section_no x.key + 1) 0 ≡ x.place.to
    first_to =
        kept xs (section_no x.key + 1) (placed_one x a) (2 * section_no x.key + 1) r.1 (omega arith)
        ∙ get_or-set_same (set a (2 * section_no x.key) x.place.from) (2 * section_no x.key + 1) x.place.to 0
        (omega (arith, r.0.high, length-set a (2 * section_no x.key) x.place.from))

  pub rest-start : (places : List ℕ) (m : Manifest) → length m.ids ≡ n → check s ≡ got m → places ≡ placed m.sections (replicate section_places 0) → Rest s n places 0 m.sections
  rest-start places m e q h =
      record {
        array = replicate section_places 0;
        size = length-replicate {A = ℕ} section_places 0;
        empty = λ i l. zeros section_places i;
        stands = h;
        read = rw e at (sections_of_lem s m q);
      }

  pub rest_end : (places : List ℕ) (k : ℕ) (rest : List Section) → section_count ≤ k → Rest s n places k rest → rest ≡ []
  rest_end places k [] h r = refl
  rest_end places k (x ∷ xs) h r = absurd (omega (arith, r.read.0.low, r.read.0.high))

  module _ (places : List ℕ) (k : ℕ) where
    -- no section has that number
    pub rest-none : (rest : List Section) → get_or places (2 * k + 1) 0 ≡ 0 → Rest s n places k rest → Rest s n places (k + 1) rest
    rest-none [] e r = record { array = r.array; size = r.size; empty = λ i l. r.empty i (omega arith); stands = r.stands; read = tt }
    rest-none (x ∷ xs) e r =
        record {
          array = r.array;
          size = r.size;
          empty = λ i l. r.empty i (omega arith);
          stands = r.stands;
          read = (at_least s n k (k + 1) x r.read.0 (other (eq-or-lt_of_le r.read.0.low)), r.read.1);
        }
      where
        other : (k ≡ section_no x.key) ⊎ (k < section_no x.key) → k + 1 ≤ section_no x.key
        other (inl q) =
            let f : get_or places (2 * section_no x.key + 1) 0 ≡ x.place.to = ap (λ (l : List ℕ). get_or l (2 * section_no x.key + 1) 0) r.stands
            ∙ first_to x xs k r.array r.size r.read in
            let g : get_or places (2 * section_no x.key + 1) 0 ≡ 0 = rw q at e in
            absurd (omega (arith, r.read.0.some_bytes))
        other (inr l) = omega arith

    -- the section of that number, and what is left after it
    pub record Here (rest : List Section) : Type 0 where
      pub section : Section
      pub others : List Section
      pub all : rest ≡ section ∷ others
      pub from : get_or places (2 * k) 0 ≡ section.place.from
      pub key : section.key ≡ section_key k
      pub read : SectionRead s n k section
      pub left : Rest s n places (k + 1) others

    pub rest_some : (rest : List Section) → k < section_count → (get_or places (2 * k + 1) 0 ≡ 0 → ⊥) → Rest s n places k rest → Here rest
    rest_some [] h d r = absurd (d (ap (λ (l : List ℕ). get_or l (2 * k + 1) 0) r.stands ∙ r.empty (2 * k + 1) (omega arith)))
    rest_some (x ∷ xs) h d r = go (eq-or-lt_of_le r.read.0.low)
      where
        go : (k ≡ section_no x.key) ⊎ (k < section_no x.key) → Here (x ∷ xs)
        go (inr l) =
            absurd
            (d
            (ap (λ (l : List ℕ). get_or l (2 * k + 1) 0) r.stands
            ∙ kept (x ∷ xs) (section_no x.key) r.array (2 * k + 1) (at_least s n k _ x r.read.0 (omega arith), r.read.1) (omega arith)
            ∙ r.empty (2 * k + 1) (omega arith)))
        go (inl q) =
            record {
              section = x;
              others = xs;
              all = refl;
              from = rw q (ap (λ (l : List ℕ). get_or l (2 * section_no x.key) 0) r.stands ∙ first-from x xs k r.array r.size r.read);
              key = rw q r.read.0.named;
              read = r.read.0;
              left =
                  record {
                    array = placed_one x r.array;
                    size = size-one x r.array ∙ r.size;
                    empty = λ i l. kept-one x r.array i (inr (omega arith)) ∙ r.empty i (omega arith);
                    stands = r.stands;
                    read = rw q r.read.1;
                  };
            }
