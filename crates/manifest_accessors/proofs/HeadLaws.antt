-- What the head of an accepted item tells of the bytes at its place.
use Prim.Native.Nat.{ℕ, zero, suc, ◌+◌, ◌-◌, ◌/◌, ◌%◌, ◌≤◌, ◌<◌}
use mathlib.Core.Path.{◌≡◌, refl, ◌∙◌}
use mathlib.Core.Bool.{Bool, true, false, ◌&&◌, ◌||◌, cond}
use native.Mathlib.Omega.{arith}
use lib.Dec.{ltb, leb, eqb}
use lib.ListN.{length, get_or}
use borrow.Author.Tests.{lt-ltb, le-leb, lt-leb, ne_eqb, ltb-true, ltb-false, leb-true}
use Rattle.rules.specs.declared.answers.Refusal.TheVariants.{NotCbor, Malformed}
use Rattle.rules.specs.Limits.{limits}
use Rattle.rules.specs.Bytes.{Bytes, num, part, two_at, four_at}
use Rattle.rules.specs.Got.{Got, got}
use Rattle.rules.specs.Cbor.{NUMBER, BYTES, Head, head, known, more, least, value, kind_of, after, whole, item, one_of}
use Rattle.rules.specs.Check.{number, strings}
use Rattle.rules.proofs.GotLaws.{passed, both, split}
use Rattle.rules.proofs.BytesLaws.{num_1, num_2, num_4}
use Rattle.rules.proofs.CheckLaws.{item_law, bytes_after}
use Rattle.manifest_accessors.specs.Heads.{HeadAt}

module _ (s : Bytes) (e at : ℕ) (h : Head) where
  pub record HeadStands : Type 0 where
    pub first : at < e
    pub stands : known (get_or s at 0) ≡ true
    pub fits : at + 1 + more (get_or s at 0) ≤ e
    pub kind : h.kind ≡ kind_of (get_or s at 0)
    pub num : h.num ≡ value s at
    pub next : h.next ≡ at + 1 + more (get_or s at 0)

  pub head_at : head s e at ≡ got h → HeadStands
  unfolding head
  head_at q₀ =
      let (a, q₁) = passed (ltb at e) NotCbor at _ h q₀ in
      let (k, q₂) = passed (known (get_or s at 0)) NotCbor at _ h q₁ in
      let (f, q₃) = passed (leb (at + 1 + more (get_or s at 0)) e) NotCbor at _ h q₂ in
      let (v, q₄) = passed (leb (least (more (get_or s at 0))) (value s at)) NotCbor at _ h q₃ in
      record { first = ltb-true _ _ a; stands = k; fits = leb-true _ _ f; kind = cc; num = cc; next = cc }

  pub whole-head : whole s e at ≡ got h → head s e at ≡ got h
  unfolding whole
  whole-head q₀ =
      split _ (head s e at) _ h q₀ λ h' qh q₁.
      let (a, q₂) = passed (leb (after h') e) NotCbor at _ h q₁ in
      let same : h' ≡ h = cc in
      rw same at qh

  pub item-whole : (kind lo hi : ℕ) → item kind lo hi s e at ≡ got h → whole s e at ≡ got h
  unfolding item
  item-whole kind lo hi q₀ =
      split _ (whole s e at) _ h q₀ λ h' qh q₁.
      let (k, q₂) = passed (eqb h'.kind kind) Malformed at _ h q₁ in
      let (r, q₃) = passed (leb lo h'.num && leb h'.num hi) Malformed at _ h q₂ in
      let same : h' ≡ h = cc in
      rw same at qh

  pub one_of-whole : (kind kind' : ℕ) → one_of kind kind' s e at ≡ got h → whole s e at ≡ got h
  unfolding one_of
  one_of-whole kind kind' q₀ =
      split _ (whole s e at) _ h q₀ λ h' qh q₁.
      let (k, q₂) = passed (eqb h'.kind kind || eqb h'.kind kind') Malformed at _ h q₁ in
      let same : h' ≡ h = cc in
      rw same at qh

-- the first byte of a head: a kind of at most 5, or false, true or nil
flagged : (b : ℕ) → known b ≡ true → 0xe0 ≤ b → (0xf4 ≤ b) × (b < 0xf7)
flagged b k l = go (leb 0xf4 b) refl k
  where
    go : (t : Bool) → leb 0xf4 b ≡ t → cond t (ltb b 0xf7) (cond (leb 0xc0 b) false (cond (ltb 26 (b % 32)) false (cond (ltb b 0x20) true (leb 0x40 b)))) ≡ true →
        (0xf4 ≤ b) × (b < 0xf7)
    go true q k = (leb-true _ _ q, ltb-true _ _ k)
    go false q k = let z : ◌≡◌ {A = Bool} false true = rw (le-leb 0xc0 b (omega arith)) at k in let y : ◌≡◌ {A = ℕ} 0 1 = cc in absurd (omega arith)

-- false, true or nil
pub flag_at : (s : Bytes) (e at : ℕ) (h : Head) → whole s e at ≡ got h → 20 ≤ h.kind → (at < e) × (h.next ≡ at + 1) × (get_or s at 0 ≡ 0xe0 + h.kind)
flag_at s e at h q l = let a = head_at s e at h (whole-head s e at h q) in
    let g = go (get_or s at 0) (ltb (get_or s at 0) 0xe0) refl (a.stands, a.kind, a.next) in
    (a.first, g.0, g.1)
  where
    go : (b : ℕ) (t : Bool) → ltb b 0xe0 ≡ t → (known b ≡ true) × (h.kind ≡ cond t (b / 32) (b % 32)) ×
        (h.next ≡ at + 1 + cond (t && leb 24 (b % 32)) (cond (eqb (b % 32) 24) 1 (cond (eqb (b % 32) 25) 2 4)) 0) → (h.next ≡ at + 1) × (b ≡ 0xe0 + h.kind)
    go b true e (k, i, n) = absurd (omega (arith, ltb-true b 0xe0 e))
    go b false e (k, i, n) = let f = flagged b k (ltb-false _ _ e) in (omega arith, omega arith)

first_plain : (b kind : ℕ) → known b ≡ true → kind ≡ kind_of b → kind ≤ 5 → b < 0xe0
first_plain b kind k q l = go (ltb b 0xe0) refl q
  where
    go : (t : Bool) → ltb b 0xe0 ≡ t → kind ≡ cond t (b / 32) (b % 32) → b < 0xe0
    go true e q = ltb-true _ _ e
    go false e q = let f = flagged b k (ltb-false _ _ e) in absurd (omega arith)

pub item-plain : (s : Bytes) (kind lo hi e at : ℕ) (h : Head) → kind ≤ 5 → item kind lo hi s e at ≡ got h → get_or s at 0 < 0xe0
item-plain s kind lo hi e at h k q =
    let a = head_at s e at h (whole-head s e at h (item-whole s e at h kind lo hi q)) in
    let i = item_law s kind lo hi e at h q in
    first_plain (get_or s at 0) h.kind a.stands a.kind (omega (arith, i.is))

abbrev pub item-headed : (s : Bytes) (kind lo hi e at : ℕ) (h : Head) → e ≤ length s → kind ≤ 5 → item kind lo hi s e at ≡ got h → HeadAt s at
item-headed s kind lo hi e at h f k q =
    record { e = e; fits = f; head = h; reads = whole-head s e at h (item-whole s e at h kind lo hi q); plain = item-plain s kind lo hi e at h k q }

pub number-item : (s : Bytes) (e at k to : ℕ) → number s e at ≡ got (k, to) →
    item NUMBER 0 limits.largest s e at ≡ got (record { kind = NUMBER; num = k; next = to })
unfolding number
number-item s e at k to q₀ =
    split _ (item NUMBER 0 limits.largest s e at) _ (k, to) q₀ λ h qh q₁.
    let i = item_law s NUMBER 0 limits.largest e at h qh in
    let (ek, eq) = both q₁ in
    let same : h ≡ record { kind = NUMBER; num = k; next = to } = rw (← ek, ← eq, ← i.is) in
    qh ∙ (rw same)

abbrev pub number-headed : (s : Bytes) (e at k to : ℕ) → e ≤ length s → number s e at ≡ got (k, to) → HeadAt s at
number-headed s e at k to f q = item-headed s NUMBER 0 limits.largest e at (record { kind = NUMBER; num = k; next = to }) f (omega arith) (number-item s e at k to q)

-- a head by the count of the bytes after its first
module _ (s : Bytes) (at : ℕ) (x : HeadAt s at) where
  pub headed-at : HeadStands s x.e at x.head
  headed-at = head_at s x.e at x.head x.reads

  pub headed-first : at < length s
  headed-first = omega (arith, x.fits, headed-at.first)

  module _ (w : ℕ) (m : more (get_or s at 0) ≡ w) where
    wide-next : (x.head.next ≡ at + 1 + w) × (at + 1 + w ≤ length s)
    wide-next = (omega (arith, headed-at.next), omega (arith, headed-at.fits, x.fits))

    wide-num : 0 < w → x.head.num ≡ num (part s (at + 1) w)
    wide-num l = headed-at.num ∙ (rw (m, ne_eqb w 0 (λ z. omega arith)))

  pub headed-short : get_or s at 0 % 32 < 24 → (x.head.num ≡ get_or s at 0 % 32) × (x.head.next ≡ at + 1)
  headed-short l =
      let m : more (get_or s at 0) ≡ 0 = rw (lt-ltb (get_or s at 0) 0xe0 x.plain, lt-leb 24 (get_or s at 0 % 32) l) in
      (headed-at.num ∙ (rw (m, lt-ltb (get_or s at 0) 0xe0 x.plain)), omega (arith, (wide-next 0 m).0))

  pub headed_1 : get_or s at 0 % 32 ≡ 24 → (x.head.num ≡ get_or s (at + 1) 0) × (x.head.next ≡ at + 2) × (at + 2 ≤ length s)
  headed_1 l =
      let m : more (get_or s at 0) ≡ 1 = rw (lt-ltb (get_or s at 0) 0xe0 x.plain, l) in
      let (n, f) = wide-next 1 m in
      (wide-num 1 m (omega arith) ∙ num_1 s (at + 1) (omega arith), omega arith, omega arith)

  pub headed_2 : get_or s at 0 % 32 ≡ 25 → (x.head.num ≡ two_at s (at + 1)) × (x.head.next ≡ at + 3) × (at + 3 ≤ length s)
  headed_2 l =
      let m : more (get_or s at 0) ≡ 2 = rw (lt-ltb (get_or s at 0) 0xe0 x.plain, l) in
      let (n, f) = wide-next 2 m in
      (wide-num 2 m (omega arith) ∙ num_2 s (at + 1) (omega arith), omega arith, omega arith)

  pub headed_4 : (get_or s at 0 % 32 < 24 → ⊥) → (get_or s at 0 % 32 ≡ 24 → ⊥) → (get_or s at 0 % 32 ≡ 25 → ⊥) →
      (x.head.num ≡ four_at s (at + 1)) × (x.head.next ≡ at + 5) × (at + 5 ≤ length s)
  headed_4 a b c =
      let m : more (get_or s at 0) ≡ 4 =
      rw (lt-ltb (get_or s at 0) 0xe0 x.plain, le-leb 24 (get_or s at 0 % 32) (omega arith), ne_eqb (get_or s at 0 % 32) 24 b, ne_eqb (get_or s at 0 % 32) 25 c) in
      let (n, f) = wide-next 4 m in
      (wide-num 4 m (omega arith) ∙ num_4 s (at + 1) (omega arith), omega arith, omega arith)

-- byte strings, one after the other
module _ (s : Bytes) (k e at to : ℕ) (f : e ≤ length s) (l : 0 < k) (q : strings s k e at ≡ got to) where
  pub strings-item : (h : Head) × (item BYTES 0 limits.largest s e at ≡ got h) × (strings s (k - 1) e (h.next + h.num) ≡ got to)
  unfolding strings
  strings-item = go k (omega arith) q
    where
      go : (j : ℕ) → 0 < j → strings s j e at ≡ got to → (h : Head) × (item BYTES 0 limits.largest s e at ≡ got h) × (strings s (j - 1) e (h.next + h.num) ≡ got to)
      go zero l q = absurd (omega arith)
      go (suc j) l q = split _ (item BYTES 0 limits.largest s e at) _ to q λ h qh q₁.
          let z : suc j - 1 ≡ j = omega arith in
          (h, qh, rw (z, ← bytes_after h (item_law s BYTES 0 limits.largest e at h qh).is) q₁)

  abbrev pub strings-first : HeadAt s at
  strings-first = item-headed s BYTES 0 limits.largest e at strings-item.0 f (omega arith) strings-item.1

  pub strings-fit : strings-first.head.next + strings-first.head.num ≤ length s
  strings-fit =
      let i = item_law s BYTES 0 limits.largest e at strings-item.0 strings-item.1 in
      omega (arith, i.fits, bytes_after strings-item.0 i.is)

  pub strings-more : strings s (k - 1) e (strings-first.head.next + strings-first.head.num) ≡ got to
  strings-more = strings-item.2

pub strings-none : (s : Bytes) (k e at to : ℕ) → k ≡ 0 → strings s k e at ≡ got to → at ≡ to
unfolding strings
strings-none s k e at to z q = let r : ◌≡◌ {A = Got ℕ} (got at) (got to) = rw z at q in cc
