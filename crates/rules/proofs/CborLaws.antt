-- What the first byte of a head says, and the ways in which `head` and `item` answer, one law for each.
use Prim.Native.Nat.{ℕ, ◌+◌, ◌/◌, ◌%◌, ◌≤◌, ◌<◌}
use mathlib.Core.Path.{◌≡◌, refl, sym, ◌∙◌}
use mathlib.Core.Bool.{Bool, true, false, ◌&&◌, cond}
use mathlib.Core.Logic.{◌⊎◌, inl, inr}
use native.Mathlib.Omega.{arith}
use lib.Dec.{ltb, leb, eqb}
use lib.ListN.{length, get_or}
use borrow.Author.Tests.{lt-ltb, le-ltb, le-leb, lt-leb, eq-eqb, ne_eqb, ltb-false, leb-true, leb-false}
use Rattle.rules.specs.Base.{Refusal, NotCbor, Malformed}
use Rattle.rules.specs.Bytes.{Bytes, num, part, two_at, four_at}
use Rattle.rules.specs.Got.{Got, refused, got}
use Rattle.rules.specs.Cbor.{BYTES, TEXT, Head, head, known, more, least, value, kind_of, after, whole, item, one_of}
use Rattle.rules.proofs.BytesLaws.{num_1, num_2, num_4}

module _ (b : ℕ) where
  known-item : b < 0xc0 → (b / 32 ≡ 1 → ⊥) → b % 32 ≤ 26 → known b ≡ true
  known-item u n w = rw (lt-leb 0xf4 b (omega arith), lt-leb 0xc0 b u, le-ltb 26 (b % 32) w) (go (ltb b 0x20) refl)
    where
      go : (t : Bool) → ltb b 0x20 ≡ t → cond t true (leb 0x40 b) ≡ true
      go true q = refl
      go false q = le-leb 0x40 b (omega (arith, ltb-false b 0x20 q))

  unknown_negative : b / 32 ≡ 1 → known b ≡ false
  unknown_negative n = rw (lt-leb 0xf4 b (omega arith), lt-leb 0xc0 b (omega arith)) (go (ltb 26 (b % 32)))
    where
      go : (t : Bool) → cond t false (cond (ltb b 0x20) true (leb 0x40 b)) ≡ false
      go true = refl
      go false = rw (le-ltb b 0x20 (omega arith), lt-leb 0x40 b (omega arith))

  unknown_high : 0xc0 ≤ b → (0xf4 ≤ b → b < 0xf7 → ⊥) → known b ≡ false
  unknown_high l n = go (leb 0xf4 b) refl
    where
      go : (t : Bool) → leb 0xf4 b ≡ t → known b ≡ false
      go true q = rw (q, le-ltb b 0xf7 (omega (arith, n (leb-true 0xf4 b q))))
      go false q = rw (q, le-leb 0xc0 b l)

  more-none : b % 32 < 24 → more b ≡ 0
  more-none h = go (ltb b 0xe0)
    where
      go : (t : Bool) → ◌≡◌ {A = ℕ} (cond (t && leb 24 (b % 32)) (cond (eqb (b % 32) 24) 1 (cond (eqb (b % 32) 25) 2 4)) 0) 0
      go true = rw (lt-leb 24 (b % 32) h)
      go false = refl

-- b is the first byte of a head of that kind, and w bytes follow it
pub record First (b kind w : ℕ) : Type 0 where
  pub stands : known b ≡ true
  pub width : more b ≡ w
  pub is : kind_of b ≡ kind

module _ (b kind : ℕ) where
  -- a number, string, array or map, with its number in the byte
  first_short : (kind ≡ 1 → ⊥) → (b / 32 ≡ kind) × (kind < 6) × (b % 32 < 24) → First b kind 0
  first_short n (k, u, l) =
      record {
        stands = known-item b (omega arith) (λ q. n (omega arith)) (omega arith);
        width = more-none b l;
        is = rw (lt-ltb b 0xe0 (omega arith)) k;
      }

  -- false, true, nil
  first_flag : (0xf4 ≤ b) × (b < 0xf7) × (b % 32 ≡ kind) → First b kind 0
  first_flag (l, u, k) =
      record { stands = rw (le-leb 0xf4 b l, lt-ltb b 0xf7 u); width = more-none b (omega arith); is = rw (le-ltb b 0xe0 (omega arith)) k }

  -- a number, string, array or map, with its number in the bytes that follow: at i = 24, 25, 26 their count computes to 1, 2, 4
  pub first-long : (i : ℕ) → (kind ≡ 1 → ⊥) → (b / 32 ≡ kind) × (kind < 6) × (b % 32 ≡ i) × (24 ≤ i) × (i ≤ 26) →
      First b kind (cond (eqb i 24) 1 (cond (eqb i 25) 2 4))
  first-long i n (k, u, q, l, h) =
      record {
        stands = known-item b (omega arith) (λ o. n (omega arith)) (omega arith);
        width = rw (lt-ltb b 0xe0 (omega arith), q, le-leb 24 i l);
        is = rw (lt-ltb b 0xe0 (omega arith)) k;
      }

-- a head of that kind and number starts at `at`, and w bytes follow its first
pub record Starts (s : Bytes) (at kind n w : ℕ) : Type 0 where
  pub first : First (get_or s at 0) kind w
  pub says : value s at ≡ n

module _ (s : Bytes) (at kind n : ℕ) where
  starts : (w : ℕ) → First (get_or s at 0) kind w → 0 < w → num (part s (at + 1) w) ≡ n → Starts s at kind n w
  starts w f p v = record { first = f; says = rw (f.width, ne_eqb w 0 (λ z. omega arith)) v }

  pub starts_1 : First (get_or s at 0) kind 1 → (at + 1 < length s) × (get_or s (at + 1) 0 ≡ n) → Starts s at kind n 1
  starts_1 f (l, q) = starts 1 f (omega arith) (num_1 s (at + 1) (omega arith) ∙ q)

  pub starts_2 : First (get_or s at 0) kind 2 → (at + 2 < length s) × (two_at s (at + 1) ≡ n) → Starts s at kind n 2
  starts_2 f (l, q) = starts 2 f (omega arith) (num_2 s (at + 1) (omega arith) ∙ q)

  pub starts_4 : First (get_or s at 0) kind 4 → (at + 4 < length s) × (four_at s (at + 1) ≡ n) → Starts s at kind n 4
  starts_4 f (l, q) = starts 4 f (omega arith) (num_4 s (at + 1) (omega arith) ∙ q)

module _ (s : Bytes) (e at : ℕ) where
  pub head_past : e ≤ at → head s e at ≡ refused NotCbor at
  unfolding head
  head_past h = rw (le-ltb at e h)

  head_unknown : at < e → known (get_or s at 0) ≡ false → head s e at ≡ refused NotCbor at
  unfolding head
  head_unknown h k = rw (lt-ltb at e h, k)

  pub head_negative : (at < e) × (get_or s at 0 / 32 ≡ 1) → head s e at ≡ refused NotCbor at
  head_negative (h, n) = head_unknown h (unknown_negative (get_or s at 0) n)

  -- its number has 8 bytes, or its length is not given
  pub head-wide : (at < e) × (get_or s at 0 < 0xc0) × (26 < get_or s at 0 % 32) → head s e at ≡ refused NotCbor at
  head-wide (h, u, w) = head_unknown h (rw (lt-leb 0xf4 (get_or s at 0) (omega arith), lt-leb 0xc0 (get_or s at 0) u, lt-ltb 26 (get_or s at 0 % 32) w))

  -- a tag, another simple value, a float
  pub head-high : (at < e) × (0xc0 ≤ get_or s at 0) → (0xf4 ≤ get_or s at 0 → get_or s at 0 < 0xf7 → ⊥) → head s e at ≡ refused NotCbor at
  head-high (h, l) n = head_unknown h (unknown_high (get_or s at 0) l n)

  pub head-cut : (w : ℕ) → First (get_or s at 0) (get_or s at 0 / 32) w → (at < e) × (e < at + 1 + w) → head s e at ≡ refused NotCbor at
  unfolding head
  head-cut w f (h, c) = rw (lt-ltb at e h, f.stands, f.width, lt-leb _ _ c)

  module _ (kind n w next : ℕ) (f : Starts s at kind n w) (q : at + 1 + w ≡ next) (c : next ≤ e) where
    pub head-long : n < least w → head s e at ≡ refused NotCbor at
    unfolding head
    head-long l = rw (lt-ltb at e (omega arith), f.first.stands, f.says, f.first.width, q, le-leb _ _ c, lt-leb _ _ l)

    pub head-got : least w ≤ n → head s e at ≡ got (record { kind = kind; num = n; next = next })
    unfolding head
    head-got l = rw (lt-ltb at e (omega arith), f.first.stands, f.says, f.first.is, f.first.width, q, le-leb _ _ c, le-leb _ _ l)

    -- both: an answer that is right of a number too small for its bytes, and of any other
    pub head-whole : (r : Got Head) → (n < least w → r ≡ refused NotCbor at) →
        (least w ≤ n → r ≡ got (record { kind = kind; num = n; next = next })) → r ≡ head s e at
    head-whole r a b = go (leb (least w) n) refl
      where
        go : (t : Bool) → leb (least w) n ≡ t → r ≡ head s e at
        go true y = b (leb-true _ _ y) ∙ sym (head-got (leb-true _ _ y))
        go false y = a (leb-false _ _ y) ∙ sym (head-long (leb-false _ _ y))

  -- of one byte
  pub head-short : (kind n next : ℕ) → (kind ≡ 1 → ⊥) → (at < e) × (get_or s at 0 / 32 ≡ kind) × (kind < 6) × (get_or s at 0 % 32 ≡ n) × (n < 24) × (at + 1 ≡ next) →
      head s e at ≡ got (record { kind = kind; num = n; next = next })
  head-short kind n next o (h, k, u, q, l, x) =
      let f : First (get_or s at 0) kind 0 = first_short (get_or s at 0) kind o (omega arith) in
      head-got kind n 0 next (record { first = f; says = rw (f.width, lt-ltb (get_or s at 0) 0xe0 (omega arith)) q }) (omega arith) (omega arith) (omega arith)

  pub head_flag : (kind next : ℕ) → (at < e) × (0xf4 ≤ get_or s at 0) × (get_or s at 0 < 0xf7) × (get_or s at 0 % 32 ≡ kind) × (at + 1 ≡ next) →
      head s e at ≡ got (record { kind = kind; num = 0; next = next })
  head_flag kind next (h, l, u, k, x) =
      let f : First (get_or s at 0) kind 0 = first_flag (get_or s at 0) kind (l, u, k) in
      head-got kind 0 0 next (record { first = f; says = rw (f.width, le-ltb (get_or s at 0) 0xe0 (omega arith)) }) (omega arith) (omega arith) (omega arith)

pub after-string : (h : Head) → (h.kind ≡ BYTES) ⊎ (h.kind ≡ TEXT) → after h ≡ h.next + h.num
after-string h (inl q) = rw q
after-string h (inr q) = rw q

pub after-other : (h : Head) → (h.kind ≡ BYTES → ⊥) → (h.kind ≡ TEXT → ⊥) → after h ≡ h.next
after-other h b t = rw (ne_eqb _ _ b, ne_eqb _ _ t)

module _ (s : Bytes) (e at : ℕ) where
  pub whole-refused : (r : Refusal) (p : ℕ) → head s e at ≡ refused r p → whole s e at ≡ refused r p
  unfolding whole
  whole-refused r p q = rw q

  module _ (h : Head) (q : head s e at ≡ got h) where
    pub whole_past : e < after h → whole s e at ≡ refused NotCbor at
    unfolding whole
    whole_past f = rw (q, lt-leb _ _ f)

    pub whole-got : after h ≤ e → whole s e at ≡ got h
    unfolding whole
    whole-got f = rw (q, le-leb _ _ f)

module _ (s : Bytes) (e at kind lo hi : ℕ) where
  pub item_refused : (r : Refusal) (p : ℕ) → whole s e at ≡ refused r p → item kind lo hi s e at ≡ refused r p
  unfolding item
  item_refused r p q = rw q

  module _ (h : Head) (q : whole s e at ≡ got h) where
    pub item-other : (h.kind ≡ kind → ⊥) → item kind lo hi s e at ≡ refused Malformed at
    unfolding item
    item-other k = rw (q, ne_eqb _ _ k)

    pub item-low : h.kind ≡ kind → h.num < lo → item kind lo hi s e at ≡ refused Malformed at
    unfolding item
    item-low k l = rw (q, eq-eqb _ _ k, lt-leb _ _ l)

    pub item-high : h.kind ≡ kind → lo ≤ h.num → hi < h.num → item kind lo hi s e at ≡ refused Malformed at
    unfolding item
    item-high k l u = rw (q, eq-eqb _ _ k, le-leb _ _ l, lt-leb _ _ u)

    pub item-got : h.kind ≡ kind → lo ≤ h.num → h.num ≤ hi → item kind lo hi s e at ≡ got h
    unfolding item
    item-got k l u = rw (q, eq-eqb _ _ k, le-leb _ _ l, le-leb _ _ u)

module _ (s : Bytes) (e at kind kind' : ℕ) where
  pub one_of-refused : (r : Refusal) (p : ℕ) → whole s e at ≡ refused r p → one_of kind kind' s e at ≡ refused r p
  unfolding one_of
  one_of-refused r p q = rw q

  module _ (h : Head) (q : whole s e at ≡ got h) where
    pub one_of-other : (h.kind ≡ kind → ⊥) → (h.kind ≡ kind' → ⊥) → one_of kind kind' s e at ≡ refused Malformed at
    unfolding one_of
    one_of-other k k' = rw (q, ne_eqb _ _ k, ne_eqb _ _ k')

    pub one_of-first : h.kind ≡ kind → one_of kind kind' s e at ≡ got h
    unfolding one_of
    one_of-first k = rw (q, eq-eqb _ _ k)

    pub one_of_second : (h.kind ≡ kind → ⊥) → h.kind ≡ kind' → one_of kind kind' s e at ≡ got h
    unfolding one_of
    one_of_second k k' = rw (q, ne_eqb _ _ k, eq-eqb _ _ k')
