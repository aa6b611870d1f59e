-- The parts of an accepted envelope, each as check read it: the manifest in it, and the manifest's start, common and sections.
use Prim.Native.Nat.{ℕ, ◌-◌, ◌*◌, ◌≤◌, ◌<◌}
use mathlib.Core.Path.{◌≡◌, refl, subst}
use mathlib.Core.List.{List, ◌++◌}
use native.Mathlib.Omega.{arith}
use lib.Dec.{leb, eqb}
use lib.ListN.{length}
use borrow.Author.Tests.{leb-true}
use Rattle.rules.specs.declared.answers.Refusal.TheVariants.{EnvelopeTooLong, NotCbor}
use Rattle.rules.specs.Limits.{limits}
use Rattle.rules.specs.Bytes.{Bytes, Span, span}
use Rattle.rules.specs.Got.{got}
use Rattle.rules.specs.Cbor.{MAP, item}
use Rattle.rules.specs.Commands.{PAYLOAD_FETCH}
use Rattle.rules.specs.Manifest.{Section, count_all, Manifest}
use Rattle.rules.specs.Check.{common_weight, key, in_bytes, components, common_seq, common_at, common_in, sections_at, front_at, manifest_at, outer_at, check}
use Rattle.rules.proofs.GotLaws.{passed, both, split, split₂}
use Rattle.rules.proofs.CheckLaws.{Inside, item_law, key_law, in_bytes_law}

-- common, whose commands weigh v each, read from `at` to `next`: the byte string of its components, and its sequence
pub record CommonParts (s : Bytes) (v e at : ℕ) (c : List Span × List Section) (next : ℕ) : Type 0 where
  pub list : ℕ
  pub up : at < list
  pub place : Span
  pub ids : in_bytes s (components s) e list ≡ got (c.0, place)
  pub left : ℕ
  pub sequence : common_seq s (length c.0) v left e place.to ≡ got (c.1, next)

pub common_parts : (s : Bytes) (v e at : ℕ) (c : List Span × List Section) (next : ℕ) → common_at s v e at ≡ got (c, next) → CommonParts s v e at c next
unfolding common_at
common_parts s v e at c next q =
    split _ (item MAP 1 2 s e at) _ (c, next) q λ h qh q₁.
    split _ (key s 2 e h.next) _ (c, next) q₁ λ p qp q₂.
    split₂ _ (in_bytes s (components s) e p) _ (c, next) q₂ λ ids w qi q₃.
    split₂ _ (common_seq s (length ids) v (h.num - 1) e w.to) _ (c, next) q₃ λ xs n qs q₄.
    let i = item_law s MAP 1 2 e at h qh in
    let k = key_law s 2 e h.next p qp in
    let (ec, en) = both q₄ in
    rw (← ec, ← en) (record { list = p; up = omega (arith, i.up, k.0); place = w; ids = qi; left = h.num - 1; sequence = qs })

pub common_in_lem : (s : Bytes) (v e at : ℕ) (c : List Span × List Section) (p : Span) → common_in s v e at ≡ got (c, p) → Inside s (common_at s v) e at c p
unfolding common_in
common_in_lem s v e at c p q = in_bytes_law s (common_at s v) e at c p q

-- a manifest that was read from `at` to `next`, in a container that ends at e
pub record Parts (s : Bytes) (e at : ℕ) (m : Manifest) (next : ℕ) : Type 0 where
  pub entries : ℕ
  pub number : ℕ
  pub start : ℕ
  pub front : front_at s e at ≡ got ((entries, number), start)
  pub common : List Span × List Section
  pub place : Span
  pub held : common_in s (common_weight entries) e start ≡ got (common, place)
  pub sections : List Section
  pub follow : sections_at s (length common.0) (entries - 3) PAYLOAD_FETCH (common_weight entries * count_all common.1) e place.to ≡ got (sections, next)
  pub is : m ≡ record { part = span at next; number = number; ids = common.0; common = place; sections = common.1 ++ sections }

pub manifest_parts : (s : Bytes) (e at : ℕ) (m : Manifest) (next : ℕ) → manifest_at s e at ≡ got (m, next) → Parts s e at m next
unfolding manifest_at
manifest_parts s e at m next q =
    split₂ _ (front_at s e at) _ (m, next) q λ f p qf q₁.
    split₂ _ (common_in s (common_weight f.0) e p) _ (m, next) q₁ λ c w qc q₂.
    split₂ _ (sections_at s (length c.0) (f.0 - 3) PAYLOAD_FETCH (common_weight f.0 * count_all c.1) e w.to) _ (m, next) q₂ λ ys n qs q₃.
    let (em, en) = both q₃ in
    rw (← em, ← en)
    (record { entries = f.0; number = f.1; start = p; front = qf; common = c; place = w; held = qc; sections = ys; follow = qs; is = refl })

-- the manifest in an accepted envelope
pub record Held (s : Bytes) (m : Manifest) : Type 0 where
  pub from : ℕ
  pub to : ℕ
  pub up : from ≤ to
  pub fits : to ≤ length s
  pub short : length s ≤ limits.envelope
  pub reads : manifest_at s to from ≡ got (m, to)

pub held : (s : Bytes) (m : Manifest) → check s ≡ got m → Held s m
unfolding check
held s m q =
    let (big, q₁) = passed (leb (length s) limits.envelope) EnvelopeTooLong 0 _ m q in
    split _ (outer_at s (length s)) _ m q₁ λ p qp q₂.
    split₂ _ (in_bytes s (manifest_at s) (length s) p) _ m q₂ λ m' w qm q₃.
    let (_, q₄) = passed (eqb w.to (length s)) NotCbor w.to _ m q₃ in
    let j = in_bytes_law s (manifest_at s) (length s) p m' w qm in
    let em : m' ≡ m = cc in
    let reads : manifest_at s w.to w.from ≡ got (m, w.to) = subst (λ (x : Manifest). manifest_at s w.to w.from ≡ got (x, w.to)) em j.reads in
    record { from = w.from; to = w.to; up = j.mid; fits = j.fits; short = leb-true _ _ big; reads = reads }
