-- Sections, and where their places are kept.
use Prim.Native.Nat.{ℕ, zero, suc, ◌+◌, ◌-◌, ◌*◌, ◌≤◌, ◌<◌}
use mathlib.Core.Path.{◌≡◌, refl, sym, ap, ◌∙◌}
use mathlib.Core.List.{List, [], ◌∷◌}
use native.Mathlib.Omega.{arith}
use native.Mathlib.Nat.{add-zero, add_assoc, mul-zero}
use lib.ListN.{set}
use Rattle.std.specs.Prelude.{Result, Ok, Err}
use Rattle.rules.specs.declared.answers.Fault.{Fault}
use Rattle.rules.specs.declared.answers.Refusal.TheVariants.{NotCbor}
use Rattle.rules.specs.Limits.{limits, section_count}
use Rattle.rules.specs.Bytes.{Bytes, span}
use Rattle.rules.specs.Got.{Got, refused, got, ◌>>=◌}
use Rattle.rules.specs.Cbor.{NUMBER, BYTES, item}
use Rattle.rules.specs.Commands.{COMMON, PAYLOAD_FETCH, RUN, section_no}
use Rattle.rules.specs.Manifest.{Seq, count, Section, count_all}
use Rattle.rules.specs.Check.{Read, key, sequence_at, section_at, sections_at, common_seq}
use Rattle.cbor_reading.specs.declared.Reading.{Reading}
use Rattle.cbor_reading.specs.Reading.{ends, reading}
use Rattle.check_command.specs.Command as Q
use Rattle.check_manifest.specs.Sections.{placed_one, Placed}
use Rattle.cbor_reading.proofs.ReadingLaws.{reading_went}
use Rattle.check_manifest.proofs.InBytesLaws.{in_stop, in_bad, in_over, in_got}

-- what is promised of a reading, and of the places that it left
abbrev pub Promise : {A : Type 0} → (A → ℕ) → (A → List Section) → Got (A × ℕ) → Result Reading Fault → List ℕ → List ℕ → Type 0
Promise f g x r before after = (r ≡ reading f x) × Placed g x before after

-- a refusal promises nothing of the places
pub stopped_promise : {A : Type 0} (f : A → ℕ) (g : A → List Section) (x : Got (A × ℕ)) (d : Fault) (b a : List ℕ) → x ≡ refused d.refusal d.at → Promise f g x (Err d) b a
stopped_promise f g x d b a y = (rw y, rw y tt)

module _ (s : Bytes) (n k wt m e at : ℕ) where
  abbrev sequence : Read Seq
  sequence = sequence_at s n k wt limits.depth m

  pub section_stop : (d : Fault) → item BYTES 0 limits.largest s e at ≡ refused d.refusal d.at → section_at s n k wt m e at ≡ refused d.refusal d.at
  unfolding section_at
  section_stop d x = rw (in_stop s sequence e at d x)

  module _ (v p : ℕ) (q : item BYTES 0 limits.largest s e at ≡ got (record { kind = BYTES; num = v; next = p })) where
    pub section-bad : (d : Fault) → sequence_at s n k wt limits.depth m (p + v) p ≡ refused d.refusal d.at → section_at s n k wt m e at ≡ refused d.refusal d.at
    unfolding section_at
    section-bad d x = rw (in_bad s sequence e at v p q d x)

    module _ (a : Seq) (next : ℕ) (w : sequence_at s n k wt limits.depth m (p + v) p ≡ got (a, next)) where
      pub section-left_over : (next ≡ p + v → ⊥) → section_at s n k wt m e at ≡ refused NotCbor next
      unfolding section_at
      section-left_over o = rw (in_over s sequence e at v p q a next w o)

      section-got : next ≡ p + v → section_at s n k wt m e at ≡ got (record { key = k; place = span p (p + v); seq = a }, p + v)
      unfolding section_at
      section-got o = rw (in_got s sequence e at v p q a next w o)

    -- accepted: the reading of its sequence, and its place in the array
    pub section_promise : (r : Reading) → Ok r ≡ reading (λ a. m + wt * count a) (sequence_at s n k wt limits.depth m (p + v) p) → r.at ≡ p + v →
        (b : List ℕ) (i : ℕ) → i ≡ section_no k →
        Promise (λ x. m + wt * count x.seq) (λ x. x ∷ []) (section_at s n k wt m e at) (Ok r) b (set (set b (2 * i) p) (2 * i + 1) (p + v))
    section_promise r y o b i u =
        let (a, w, c) = reading_went (λ a. m + wt * count a) (sequence_at s n k wt limits.depth m (p + v) p) r y in
        rw (section-got a r.at w o, u) ((λ j. Ok (record { at = o j; value = c j })), refl)

-- keys from 8 to 12 are those of sections
pub key-section : (k low : ℕ) → PAYLOAD_FETCH ≤ low → low ≤ k → k ≤ RUN → Q.Section k
key-section k low l a b = let e : k ≡ PAYLOAD_FETCH + (k - PAYLOAD_FETCH) = omega arith in rw e (go (k - PAYLOAD_FETCH) (omega arith))
  where
    go : (i : ℕ) → suc i < section_count → Q.Section (PAYLOAD_FETCH + i)
    go zero h = refl
    go (suc zero) h = refl
    go (suc (suc zero)) h = refl
    go (suc (suc (suc zero))) h = refl
    go (suc (suc (suc (suc zero)))) h = refl
    go (suc (suc (suc (suc (suc i))))) h = absurd (omega arith)

-- all the sections from the entry are those that are left from now: in the reading, and in the places
pub record Left (m m' : ℕ) (all rest : Got (List Section × ℕ)) (before now : List ℕ) : Type 0 where
  pub reads : reading (λ xs. m + count_all xs) all ≡ reading (λ xs. m' + count_all xs) rest
  pub places : (a : List ℕ) → Placed (λ xs. xs) rest now a → Placed (λ xs. xs) all before a

pub all_left : (m : ℕ) (x : Got (List Section × ℕ)) (b : List ℕ) → Left m m x x b b
all_left m x b = record { reads = refl; places = λ a h. h }

pub left-stopped : (m m' : ℕ) (all rest : Got (List Section × ℕ)) (b now a : List ℕ) (d : Fault) → Left m m' all rest b now → rest ≡ refused d.refusal d.at →
    Promise (λ xs. m + count_all xs) (λ xs. xs) all (Err d) b a
left-stopped m m' all rest b now a d l x =
    let (p, q) = stopped_promise (λ xs. m' + count_all xs) (λ xs. xs) rest d now a x in
    (p ∙ sym l.reads, l.places a q)

module _ (s : Bytes) (n k low m e at : ℕ) where
  pub sections-none : k ≡ 0 → (m₀ : ℕ) (all : Got (List Section × ℕ)) (b now : List ℕ) → Left m₀ m all (sections_at s n k low m e at) b now →
      Promise (λ xs. m₀ + count_all xs) (λ xs. xs) all (ends at m) b now
  unfolding sections_at
  sections-none z m₀ all b now l = ((rw (z, add-zero)) ∙ sym l.reads, l.places now (rw z refl))

  module _ (j : ℕ) (h : k ≡ suc j) where
    pub sections_stop : (d : Fault) → item NUMBER low RUN s e at ≡ refused d.refusal d.at → sections_at s n k low m e at ≡ refused d.refusal d.at
    unfolding sections_at
    sections_stop d x = rw (h, x)

    module _ (name p : ℕ) (q : item NUMBER low RUN s e at ≡ got (record { kind = NUMBER; num = name; next = p })) where
      pub sections-bad : (d : Fault) → section_at s n name 1 m e p ≡ refused d.refusal d.at → sections_at s n k low m e at ≡ refused d.refusal d.at
      unfolding sections_at
      sections-bad d x = rw (h, q, x)

      -- one more
      pub sections-more : (r : Reading) (b a : List ℕ) → Promise (λ x. m + 1 * count x.seq) (λ x. x ∷ []) (section_at s n name 1 m e p) (Ok r) b a →
          (m₀ : ℕ) (all : Got (List Section × ℕ)) (b₀ : List ℕ) → Left m₀ m all (sections_at s n k low m e at) b₀ b →
          Left m₀ r.value all (sections_at s n j (name + 1) r.value e r.at) b₀ a
      unfolding sections_at
      sections-more r b a (y, w) m₀ all b₀ l =
          let (x, g, v) = reading_went (λ x. m + 1 * count x.seq) (section_at s n name 1 m e p) r y in
          go x g (omega (arith, v)) (rw g at w)
        where
          step : (x : Section) (t : Got (List Section × ℕ)) →
              reading (λ xs. m + count_all xs) (t >>= λ u. got (x ∷ u.0, u.1)) ≡ reading (λ xs. m + count x.seq + count_all xs) t
          step x (refused k q) = refl
          step x (got u) = ap (λ (c : ℕ). ends u.1 c) (sym (add_assoc m (count x.seq) (count_all u.0)))

          keep : (x : Section) (t : Got (List Section × ℕ)) (c : List ℕ) → Placed (λ xs. xs) t (placed_one x b) c → Placed (λ xs. xs) (t >>= λ u. got (x ∷ u.0, u.1)) b c
          keep x (refused k q) c i = tt
          keep x (got u) c i = i

          go : (x : Section) → section_at s n name 1 m e p ≡ got (x, r.at) → r.value ≡ m + count x.seq → a ≡ placed_one x b →
              Left m₀ r.value all (sections_at s n j (name + 1) r.value e r.at) b₀ a
          go x g v i =
              let f : sections_at s n k low m e at ≡ (sections_at s n j (name + 1) (m + count x.seq) e r.at >>= λ u. got (x ∷ u.0, u.1)) = rw (h, q, g) in
              rw (v, i)
              (record {
                reads = l.reads ∙ ap (λ (y : Got (List Section × ℕ)). reading (λ xs. m + count_all xs) y) f ∙ step x (sections_at s n j (name + 1) (m + count x.seq) e r.at);
                places = λ c u. l.places c (rw f (keep x (sections_at s n j (name + 1) (m + count x.seq) e r.at) c u));
              })

-- common's own sequence
module _ (s : Bytes) (n wt k e at : ℕ) where
  pub common-none : k ≡ 0 → (b : List ℕ) → Promise (λ xs. wt * count_all xs) (λ xs. xs) (common_seq s n wt k e at) (ends at 0) b b
  unfolding common_seq
  common-none z b = (rw (z, mul-zero), rw z refl)

  module _ (j : ℕ) (h : k ≡ suc j) where
    pub common_stop : (d : Fault) → key s 4 e at ≡ refused d.refusal d.at → (b a : List ℕ) → Promise (λ xs. wt * count_all xs) (λ xs. xs) (common_seq s n wt k e at) (Err d) b a
    unfolding common_seq
    common_stop d x b a = rw (h, x) (refl, tt)

    pub common-more : (p : ℕ) → key s 4 e at ≡ got p → (r : Result Reading Fault) (b a : List ℕ) →
        Promise (λ x. 0 + wt * count x.seq) (λ x. x ∷ []) (section_at s n COMMON wt 0 e p) r b a → Promise (λ xs. wt * count_all xs) (λ xs. xs) (common_seq s n wt k e at) r b a
    unfolding common_seq
    common-more p q r b a y = rw (h, q) (go (section_at s n COMMON wt 0 e p) y)
      where
        go : (t : Got (Section × ℕ)) → Promise (λ x. 0 + wt * count x.seq) (λ x. x ∷ []) t r b a → Promise (λ xs. wt * count_all xs) (λ xs. xs) (t >>= λ u. got (u.0 ∷ [], u.1)) r b a
        go (refused k w) y = y
        go (got u) y = (y.0 ∙ ap (λ (c : ℕ). ends u.1 c) (omega arith), y.1)
