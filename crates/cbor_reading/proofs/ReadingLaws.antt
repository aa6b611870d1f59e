-- A reading that stopped, and one that went on.
use Rattle.std.specs.Prelude.{Result, Ok, Err, IsErrAnd}
use Rattle.std.proofs.lemmas.Result.{err_from_is_err_and}
use Rattle.rules.specs.declared.answers.Fault.{Fault}
use Prim.Native.Nat.{ℕ, zero, suc, ◌+◌, ◌-◌, ◌≤◌, ◌<◌}
use mathlib.Core.Path.{◌≡◌, refl, sym, ap, ◌∙◌}
use mathlib.Core.Logic.{◌⊎◌, inl, inr}
use native.Mathlib.Omega.{arith}
use Rattle.rules.specs.Bytes.{Bytes}
use Rattle.rules.specs.Cbor.{BYTES, TEXT, Head, item}
use Rattle.rules.specs.Check.{number}
use Rattle.rules.proofs.CheckLaws.{item_law, bytes_after, text-after}
use Rattle.rules.specs.Got.{Got, refused, got, ◌>>=◌}
use Rattle.cbor_reading.specs.declared.Reading.{Reading}
use Rattle.cbor_reading.specs.Reading.{result_of, view, head_reading, place_reading, place_of, reading}

-- two that go on alike where the first gave a value
pub alike : {A B : Type 0} (x : Got A) (f g : A → Got B) → ((a : A) → x ≡ got a → f a ≡ g a) → (x >>= f) ≡ (x >>= g)
alike (refused r p) f g h = refl
alike (got a) f g h = h a refl

pub bind_assoc : {A B C : Type 0} (x : Got A) (f : A → Got B) (g : B → Got C) → ((x >>= f) >>= g) ≡ (x >>= λ a. f a >>= g)
bind_assoc (refused r p) f g = refl
bind_assoc (got a) f g = refl

-- what `?` hands up
pub handed : {T : Type 0} (r : Result T Fault) (f : Fault) → IsErrAnd r (λ g. g ≡ f) → r ≡ Err f
handed r f h = let e = err_from_is_err_and r h in e.1 ∙ ap Err e.2

-- what stopped is that refusal, and what did not gave a value
module _ {A B : Type 0} (f : A → B) where
  pub result-stopped : (x : Got A) (d : Fault) → Err d ≡ result_of f x → x ≡ refused d.refusal d.at
  result-stopped (refused k q) d e = let g : d ≡ record { refusal = k; at = q } = cc in rw g
  result-stopped (got a) d e = absurd cc

  pub result_went : (x : Got A) (b : B) → Ok b ≡ result_of f x → (a : A) × (x ≡ got a) × (b ≡ f a)
  result_went (refused k q) b e = absurd cc
  result_went (got a) b e = let g : b ≡ f a = cc in (a, refl, g)

module _ {A : Type 0} (p v : A → ℕ) (x : Got A) where
  -- a reading that stopped is a refusal
  pub stop_of : (f : Fault) → Err f ≡ view p v x → x ≡ refused f.refusal f.at
  stop_of f e = go x e
    where
      go : (y : Got A) → Err f ≡ view p v y → y ≡ refused f.refusal f.at
      go (refused k q) h =
          let e : record { refusal = k; at = q } ≡ f = cc in
          ap (λ (g : Fault). refused g.refusal g.at) e
      go (got a) h = absurd cc

  -- and stops all that would follow
  pub stopped : {B : Type 0} (p' v' : B → ℕ) (g : A → Got B) (f : Fault) → Err f ≡ view p v x → Err f ≡ view p' v' (x >>= g)
  stopped p' v' g f e = rw (stop_of f e)

  -- what did not stop gave a value
  pub went : (r : Reading) → Ok r ≡ view p v x → (a : A) × (x ≡ got a) × (r.at ≡ p a) × (r.value ≡ v a)
  went r e = go x e
    where
      go : (y : Got A) → Ok r ≡ view p v y → (a : A) × (y ≡ got a) × (r.at ≡ p a) × (r.value ≡ v a)
      go (refused k q) h = absurd cc
      go (got a) h = let e : r ≡ record { at = p a; value = v a } = cc in (a, refl, ap (λ (z : Reading). z.at) e, ap (λ (z : Reading). z.value) e)

module _ (s : Bytes) (kind lo hi e at : ℕ) where
  pub item-stopped : (f : Fault) → Err f ≡ head_reading (item kind lo hi s e at) → item kind lo hi s e at ≡ refused f.refusal f.at
  item-stopped = stop_of (λ h. h.next) (λ h. h.num) (item kind lo hi s e at)

  -- one that went on is known by its place and its number
  pub item_went : (r : Reading) → Ok r ≡ head_reading (item kind lo hi s e at) → item kind lo hi s e at ≡ got (record { kind = kind; num = r.value; next = r.at })
  item_went r q =
      let (a, x, p, v) = went (λ h. h.next) (λ h. h.num) (item kind lo hi s e at) r q in
      let k : a.kind ≡ kind = (item_law s kind lo hi e at a x).is in
      x ∙ (λ j. got (record { kind = k j; num = sym v j; next = sym p j }))

module _ (s : Bytes) (e at : ℕ) where
  pub number-stopped : (f : Fault) → Err f ≡ reading (λ k. k) (number s e at) → number s e at ≡ refused f.refusal f.at
  number-stopped = stop_of (λ a. a.1) (λ a. a.0) (number s e at)

  pub number_went : (r : Reading) → Ok r ≡ reading (λ k. k) (number s e at) → number s e at ≡ got (r.value, r.at)
  number_went r q = let (a, x, p, v) = went (λ a. a.1) (λ a. a.0) (number s e at) r q in x ∙ (λ j. got (sym v j, sym p j))

module _ (x : Got ℕ) where
  pub place-stopped : (f : Fault) → Err f ≡ place_reading x → x ≡ refused f.refusal f.at
  place-stopped = stop_of (λ p. p) (λ p. 0) x

  pub place_went : (r : Reading) → Ok r ≡ place_reading x → x ≡ got r.at
  place_went r q = let (a, y, p, v) = went (λ p. p) (λ p. 0) x r q in y ∙ ap got (sym p)

  pub place_of-stopped : (f : Fault) → Err f ≡ place_of x → x ≡ refused f.refusal f.at
  place_of-stopped = result-stopped (λ p. p) x

  pub place_of-went : (p : ℕ) → Ok p ≡ place_of x → x ≡ got p
  place_of-went p e = let (q, y, h) = result_went (λ p. p) x p e in y ∙ ap got (sym h)

-- of something and the place after it: one that stopped, and one that went on
module _ {A : Type 0} (f : A → ℕ) (x : Got (A × ℕ)) where
  pub reading-stopped : (g : Fault) → Err g ≡ reading f x → x ≡ refused g.refusal g.at
  reading-stopped = stop_of (λ a. a.1) (λ a. f a.0) x

  pub reading_went : (r : Reading) → Ok r ≡ reading f x → (a : A) × (x ≡ got (a, r.at)) × (r.value ≡ f a)
  reading_went r q =
      let (a, y, p, v) = went (λ a. a.1) (λ a. f a.0) x r q in
      (a.0, y ∙ (λ j. got (a.0, sym p j)), v)

-- a string lies in its container
pub string-fits : (s : Bytes) (kind lo hi e at : ℕ) (h : Head) → (kind ≡ BYTES) ⊎ (kind ≡ TEXT) → item kind lo hi s e at ≡ got h → h.next + h.num ≤ e
string-fits s kind lo hi e at h (inl k) q = let i = item_law s kind lo hi e at h q in omega (arith, i.fits, bytes_after h (i.is ∙ k))
string-fits s kind lo hi e at h (inr k) q = let i = item_law s kind lo hi e at h q in omega (arith, i.fits, text-after h (i.is ∙ k))

-- a count that is not 0
pub pos : (n : ℕ) → 0 < n → n ≡ suc (n - 1)
pos n h = omega arith

-- of n turns, after i of them
pub rest : (n i : ℕ) → i < n → n - i ≡ suc (n - (i + 1))
rest n i h = omega arith

pub above : (n : ℕ) → (n ≡ 0 → ⊥) → n ≡ suc (n - 1)
above zero h = absurd (h refl)
above (suc n) h = omega arith
