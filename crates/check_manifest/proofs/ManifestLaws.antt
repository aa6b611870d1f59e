-- The manifest, one part after the other.
use Prim.Native.Nat.{ℕ, ◌+◌, ◌-◌, ◌*◌, ◌≤◌}
use mathlib.Core.Path.{◌≡◌, refl, sym, ap, ◌∙◌}
use mathlib.Core.List.{List, [], ◌∷◌, ◌++◌}
use native.Mathlib.Omega.{arith}
use lib.ListN.{length, replicate}
use Rattle.std.specs.Prelude.{Ok, Err}
use Rattle.rules.specs.declared.answers.Fault.{Fault}
use Rattle.rules.specs.Limits.{places, section_places}
use Rattle.rules.specs.Bytes.{Bytes, Span, span}
use Rattle.rules.specs.Got.{Got, got}
use Rattle.rules.specs.Cbor.{MAP, item}
use Rattle.rules.proofs.GotLaws.{both, split}
use Rattle.rules.proofs.CheckLaws.{item_law}
use Rattle.rules.proofs.ManifestParts.{manifest_parts}
use Rattle.component_ids.specs.Identifiers.{laid}
use Rattle.rules.specs.Commands.{PAYLOAD_FETCH}
use Rattle.rules.specs.Manifest.{Section, count_all, Manifest}
use Rattle.rules.specs.Check.{common_weight, sections_at, manifest_at, version_at, numbered_at, front_at, common_in}
use Rattle.cbor_reading.specs.declared.Reading.{Reading}
use Rattle.check_manifest.specs.declared.Front.{Front}
use Rattle.check_manifest.specs.declared.Common.{Common}
use Rattle.check_manifest.specs.declared.Body.{Body}
use Rattle.check_manifest.specs.Sections.{placed}
use Rattle.check_manifest.specs.Body.{front_of, common_of, body_of}
use Rattle.cbor_reading.proofs.ReadingLaws.{result-stopped, result_went, reading-stopped, reading_went}
use Rattle.cbor_reading.specs.Reading.{reading}
use Rattle.check_manifest.proofs.SectionLaws.{Promise}
use Rattle.check_manifest.proofs.CommonLaws.{CommonPromise}

placed-append : (xs ys : List Section) (a : List ℕ) → placed (xs ++ ys) a ≡ placed ys (placed xs a)
placed-append [] ys a = refl
placed-append (x ∷ xs) ys a = placed-append xs ys _

-- the start and common: each is known by its numbers
front-is : (x : Got ((ℕ × ℕ) × ℕ)) (f : Front) → Ok f ≡ front_of x → x ≡ got ((f.entries, f.number), f.at)
front-is x f e =
    let (a, y, g) = result_went _ x f e in
    y ∙ ap (λ (z : Front). got ((z.entries, z.number), z.at)) (sym g)

common-is : (wt : ℕ) (x : Got ((List Span × List Section) × Span)) (c : Common) → Ok c ≡ common_of wt x →
    (ids : List Span) × (xs : List Section) × (x ≡ got ((ids, xs), span c.from c.to)) × (c.components ≡ length ids) × (c.commands ≡ wt * count_all xs)
common-is wt x c e =
    let (a, y, g) = result_went _ x c e in
    (a.0.0, a.0.1, y ∙ ap (λ (z : Common). got (a.0, span z.from z.to)) (sym g), ap (λ (z : Common). z.components) g, ap (λ (z : Common). z.commands) g)

-- the start stopped
pub manifest_no_front : (s : Bytes) (e at : ℕ) (d : Fault) → Err d ≡ front_of (front_at s e at) → Err d ≡ body_of (manifest_at s e at)
unfolding manifest_at
manifest_no_front s e at d q = rw (result-stopped _ (front_at s e at) d q)

module _ (s : Bytes) (e at : ℕ) (f : Front) (q : Ok f ≡ front_of (front_at s e at)) (wt : ℕ) (is : wt ≡ common_weight f.entries) where
  -- common stopped
  pub manifest_no_common : (d : Fault) → Err d ≡ common_of wt (common_in s wt e f.at) → Err d ≡ body_of (manifest_at s e at)
  unfolding manifest_at
  manifest_no_common d y = rw (front-is (front_at s e at) f q, ← is, result-stopped _ (common_in s wt e f.at) d y)

  module _ (c : Common) (i b : List ℕ) (y : CommonPromise wt (common_in s wt e f.at) (Ok c) (replicate places 0) i (replicate section_places 0) b) where
    abbrev rest : Got (List Section × ℕ)
    rest = sections_at s c.components (f.entries - 3) PAYLOAD_FETCH c.commands e c.to

    -- the sections stopped
    pub manifest-bad : (d : Fault) → Err d ≡ reading (λ xs. c.commands + count_all xs) rest → Err d ≡ body_of (manifest_at s e at)
    unfolding manifest_at
    manifest-bad d w =
        let (ids, xs, g, u, v) = common-is wt (common_in s wt e f.at) c y.0 in
        rw (front-is (front_at s e at) f q, ← is, g, ← u, ← v, reading-stopped (λ xs. c.commands + count_all xs) rest d w)

    module _ (r : Reading) (b' : List ℕ) (w : Promise (λ xs. c.commands + count_all xs) (λ xs. xs) rest (Ok r) b b') where
      abbrev accepted : Body
      accepted = record { at = r.at; number = f.number; components = c.components; from = c.from; to = c.to; ids = i; sections = b' }

      -- all is accepted
      pub manifest-good : Ok accepted ≡ body_of (manifest_at s e at)
      unfolding manifest_at
      manifest-good =
          let (ids, xs, g, u, v) = common-is wt (common_in s wt e f.at) c y.0 in
          let (ys, t, _) = reading_went (λ xs. c.commands + count_all xs) rest r w.0 in
          go ids xs ys g u v t (rw g at y.1) (rw t at w.1)
        where
          go : (ids : List Span) (xs ys : List Section) → common_in s wt e f.at ≡ got ((ids, xs), span c.from c.to) → c.components ≡ length ids → c.commands ≡ wt * count_all xs →
              rest ≡ got (ys, r.at) →
              (i ≡ laid ids (replicate places 0)) × (b ≡ placed xs (replicate section_places 0)) → b' ≡ placed ys b → Ok accepted ≡ body_of (manifest_at s e at)
          go ids xs ys g u v t (k, l) o =
              let all : manifest_at s e at ≡ got (record { part = span at r.at; number = f.number; ids = ids; common = span c.from c.to; sections = xs ++ ys }, r.at) =
              rw (front-is (front_at s e at) f q, ← is, g, ← u, ← v, t) in
              let all_placed : b' ≡ placed (xs ++ ys) (replicate section_places 0) = o ∙ ap (placed ys) l ∙ sym (placed-append xs ys (replicate section_places 0)) in
              rw all
              (λ j. Ok (record { at = r.at; number = f.number; components = u j; from = c.from; to = c.to; ids = k j; sections = all_placed j }))

-- a manifest has 3 to 8 entries
pub front-entries : (s : Bytes) (e at : ℕ) (f : Front) → Ok f ≡ front_of (front_at s e at) → (3 ≤ f.entries) × (f.entries ≤ 8)
unfolding front_at
front-entries s e at f q =
    let x : front_at s e at ≡ got ((f.entries, f.number), f.at) = front-is (front_at s e at) f q in
    split _ (item MAP 3 8 s e at) _ ((f.entries, f.number), f.at) x λ m qm x₁.
    split _ (version_at s e m.next) _ ((f.entries, f.number), f.at) x₁ λ p qp x₂.
    split _ (numbered_at s e p) _ ((f.entries, f.number), f.at) x₂ λ n qn x₃.
    let i = item_law s MAP 3 8 e at m qm in
    let (pair, _) = both x₃ in
    let k : m.num ≡ f.entries = ap (λ (z : ℕ × ℕ). z.0) pair in
    (omega (arith, i.low), omega (arith, i.high))

-- the manifest's part starts where it was read, and ends where the reading did
pub manifest-part : (s : Bytes) (e at : ℕ) (m : Manifest) (q : ℕ) → manifest_at s e at ≡ got (m, q) → m.part ≡ span at q
manifest-part s e at m q x = ap (λ (z : Manifest). z.part) (manifest_parts s e at m q x).is
