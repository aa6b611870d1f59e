-- What an accepted item, number, key or byte string tells of its place.
use Prim.Native.Nat.{ℕ, zero, suc, ◌+◌, ◌≤◌, ◌<◌}
use mathlib.Core.Path.{◌≡◌, refl, subst}
use mathlib.Core.Bool.{Bool, true, false, ◌&&◌, ◌||◌, cond}
use mathlib.Core.Logic.{◌⊎◌, inl, inr}
use native.Mathlib.Omega.{arith}
use lib.Dec.{ltb, leb, eqb}
use lib.ListN.{get_or}
use borrow.Author.Tests.{leb-true, eqb-true}
use Rattle.rules.specs.Base.{Malformed, NotCbor}
use Rattle.rules.specs.Limits.{limits}
use Rattle.rules.specs.Bytes.{Bytes, Span}
use Rattle.rules.specs.Got.{got}
use Rattle.rules.specs.Cbor.{NUMBER, BYTES, TEXT, Head, head, known, more, least, value, after, whole, item, one_of}
use Rattle.rules.specs.Check.{Read, number, key, in_bytes, strings}
use Rattle.rules.proofs.GotLaws.{bound, and-true, passed, both, split, split₂}

pub text-after : (h : Head) → h.kind ≡ TEXT → after h ≡ h.next + h.num
text-after h e = rw e

pub bytes_after : (h : Head) → h.kind ≡ BYTES → after h ≡ h.next + h.num
bytes_after h e = rw e

module _ (s : Bytes) where
  pub head_bounds : (e at : ℕ) (h : Head) → head s e at ≡ got h → (at < h.next) × (h.next ≤ e)
  unfolding head
  head_bounds e at h q₀ =
      let (a, q₁) = passed (ltb at e) NotCbor at _ h q₀ in
      let (k, q₂) = passed (known (get_or s at 0)) NotCbor at _ h q₁ in
      let (f, q₃) = passed (leb (at + 1 + more (get_or s at 0)) e) NotCbor at _ h q₂ in
      let (v, q₄) = passed (leb (least (more (get_or s at 0))) (value s at)) NotCbor at _ h q₃ in
      let n : h.next ≡ at + 1 + more (get_or s at 0) = cc in
      let l : at + 1 + more (get_or s at 0) ≤ e = leb-true _ _ f in
      (omega arith, omega arith)

  after_le : (h : Head) → h.next ≤ after h
  after_le h = go (eqb h.kind BYTES || eqb h.kind TEXT)
    where
      go : (b : Bool) → h.next ≤ cond b (h.next + h.num) h.next
      go true = omega arith
      go false = omega arith

  pub record Item (kind lo hi e at : ℕ) (h : Head) : Type 0 where
    pub is : h.kind ≡ kind
    pub low : lo ≤ h.num
    pub high : h.num ≤ hi
    pub up : at < h.next
    pub mid : h.next ≤ after h
    pub fits : after h ≤ e

  pub whole_law : (e at : ℕ) (h : Head) → whole s e at ≡ got h → (at < h.next) × (h.next ≤ after h) × (after h ≤ e)
  unfolding whole
  whole_law e at h q₀ =
      split _ (head s e at) _ h q₀ λ h' qh q₁.
      let (a, q₂) = passed (leb (after h') e) NotCbor at _ h q₁ in
      let same : h' ≡ h = cc in
      rw (← same) ((head_bounds e at h' qh).0, after_le h', leb-true _ _ a)

  pub item_law : (kind lo hi e at : ℕ) (h : Head) → item kind lo hi s e at ≡ got h → Item kind lo hi e at h
  unfolding item
  item_law kind lo hi e at h q₀ =
      split _ (whole s e at) _ h q₀ λ h' qh q₁.
      let (k, q₂) = passed (eqb h'.kind kind) Malformed at _ h q₁ in
      let (r, q₃) = passed (leb lo h'.num && leb h'.num hi) Malformed at _ h q₂ in
      let (r₁, r₂) = and-true (leb lo h'.num) (leb h'.num hi) r in
      let (u, m, f) = whole_law e at h' qh in
      let same : h' ≡ h = cc in
      subst (λ (x : Head). Item kind lo hi e at x) same
      (record { is = eqb-true _ _ k; low = leb-true _ _ r₁; high = leb-true _ _ r₂; up = u; mid = m; fits = f })

  pub one_of_law : (kind kind' e at : ℕ) (h : Head) → one_of kind kind' s e at ≡ got h → (at < h.next) × (h.next ≤ after h) × (after h ≤ e)
  unfolding one_of
  one_of_law kind kind' e at h q₀ =
      split _ (whole s e at) _ h q₀ λ h' qh q₁.
      let (_, q₂) = passed (eqb h'.kind kind || eqb h'.kind kind') Malformed at _ h q₁ in
      let same : h' ≡ h = cc in
      rw same at (whole_law e at h' qh)

  pub one_of-kind : (kind kind' e at : ℕ) (h : Head) → one_of kind kind' s e at ≡ got h → (h.kind ≡ kind) ⊎ (h.kind ≡ kind')
  unfolding one_of
  one_of-kind kind kind' e at h q₀ =
      split _ (whole s e at) _ h q₀ λ h' qh q₁.
      let (t, q₂) = passed (eqb h'.kind kind || eqb h'.kind kind') Malformed at _ h q₁ in
      let same : h' ≡ h = cc in
      rw same at (go h'.kind (eqb h'.kind kind) refl t)
    where
      go : (n : ℕ) (b : Bool) → eqb n kind ≡ b → (b || eqb n kind') ≡ true → (n ≡ kind) ⊎ (n ≡ kind')
      go n true e t = inl (eqb-true n kind e)
      go n false e t = inr (eqb-true n kind' t)

  -- a reading that went forward, and not past the end
  pub number_law : (e at k q : ℕ) → number s e at ≡ got (k, q) → (at < q) × (q ≤ e) × (k ≤ limits.largest)
  unfolding number
  number_law e at k q q₀ =
      let (h, qh, q₁) = bound (item NUMBER 0 limits.largest s e at) _ (k, q) q₀ in
      let i : Item NUMBER 0 limits.largest e at h = item_law NUMBER 0 limits.largest e at h qh in
      let (ek, eq) = both q₁ in
      (omega arith, omega arith, omega arith)

  pub key_law : (k e at q : ℕ) → key s k e at ≡ got q → (at < q) × (q ≤ e)
  unfolding key
  key_law k e at q q₀ =
      split _ (item NUMBER k k s e at) _ q q₀ λ h qh q₁.
      let i : Item NUMBER k k e at h = item_law NUMBER k k e at h qh in
      let eq : h.next ≡ q = cc in
      (omega arith, omega arith)

  -- what stands in a byte string was read from its first byte to its end
  pub record Inside {A : Type 0} (read : Read A) (e at : ℕ) (a : A) (p : Span) : Type 0 where
    pub reads : read p.to p.from ≡ got (a, p.to)
    pub up : at < p.from
    pub mid : p.from ≤ p.to
    pub fits : p.to ≤ e

  pub in_bytes_law : {A : Type 0} (read : Read A) (e at : ℕ) (a : A) (p : Span) → in_bytes s read e at ≡ got (a, p) → Inside read e at a p
  unfolding in_bytes
  in_bytes_law {A} read e at a p q₀ =
      split _ (item BYTES 0 limits.largest s e at) _ (a, p) q₀ λ h qh q₁.
      split₂ _ (read (after h) h.next) _ (a, p) q₁ λ b next qr q₂.
      let i : Item BYTES 0 limits.largest e at h = item_law BYTES 0 limits.largest e at h qh in
      let (t, q₃) = passed (eqb next (after h)) NotCbor next _ (a, p) q₂ in
      let (ea, ep) = both q₃ in
      let l : next ≡ after h = eqb-true _ _ t in
      rw (← ea, ← ep) (record { reads = rw (← l) at qr; up = i.up; mid = omega (arith, i.mid); fits = omega (arith, i.fits) })

  pub strings_law : (k e at q : ℕ) → at ≤ e → strings s k e at ≡ got q → (at ≤ q) × (q ≤ e)
  unfolding strings
  strings_law zero e at q u q₀ = let eq : at ≡ q = cc in (omega arith, omega arith)
  strings_law (suc k) e at q u q₀ =
      split _ (item BYTES 0 limits.largest s e at) _ q q₀ λ h qh q₁.
      let i : Item BYTES 0 limits.largest e at h = item_law BYTES 0 limits.largest e at h qh in
      let (a, b) = strings_law k e (after h) q i.fits q₁ in
      (omega arith, b)
