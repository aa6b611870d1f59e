-- What an image that is put into a slot leaves as it was: every other slot, and of its own slot the identifier and the capacity.
use Prim.Native.Nat.{ℕ, suc, ◌+◌, ◌-◌, ◌*◌, ◌/◌, ◌≤◌, ◌<◌}
use mathlib.Core.Path.{◌≡◌, refl, ap, ◌∙◌}
use mathlib.Core.List.{List, [], ◌∷◌, map}
use native.Mathlib.Omega.{arith}
use native.Mathlib.Nat.{add-suc, add-zero, eq-or-lt_of_le}
use mathlib.Core.Bool.{Bool, true, false}
use mathlib.Core.Logic.{◌⊎◌, inl, inr}
use lib.Dec.{ltb}
use borrow.Author.Tests.{ltb-true, ltb-false}
use lib.ListN.{length, get_or, set, take, drop}
use lib.Seq.{take-set-le, drop-set-lt, drop-set-add, length-sets, get_or-drop, get_or-take, take-take, drop-drop}
use Rattle.rules.specs.Bytes.{Bytes, part, put}
use Rattle.rules.specs.Slots.{slot_bytes, answer_bytes, image_from, slot_at, put_image, slots_in, slot_names, numbers, slot_of, id_from}
use Rattle.rules.specs.Limits.{limits}

take_put : (n : ℕ) (s : Bytes) (i : ℕ) (x : Bytes) → n ≤ i → take n (put s i x) ≡ take n s
take_put n s i [] h = refl
take_put n s i (a ∷ x) h = take_put n (set s i a) (suc i) x (omega arith) ∙ take-set-le n s i a h

drop_put_add : (n : ℕ) (s : Bytes) (i : ℕ) (x : Bytes) → drop n (put s (n + i) x) ≡ put (drop n s) i x
drop_put_add n s i [] = refl
drop_put_add n s i (a ∷ x) = rw (← add-suc n i, drop_put_add n (set s (n + i) a) (suc i) x, drop-set-add n s i a)

pub drop_put_past : (n : ℕ) (s : Bytes) (i : ℕ) (x : Bytes) → i + length x ≤ n → drop n (put s i x) ≡ drop n s
drop_put_past n s i [] h = refl
drop_put_past n s i (a ∷ x) h = drop_put_past n (set s i a) (suc i) x (omega arith) ∙ drop-set-lt n s i a (omega arith)

-- a part that ends before what is put, and one that starts after it
pub part-before : (s : Bytes) (i : ℕ) (x : Bytes) (at n : ℕ) → at + n ≤ i → part (put s i x) at n ≡ part s at n
part-before s i x at n h =
    let e : i ≡ at + (i - at) = omega arith in
    ap (λ (k : ℕ). part (put s k x) at n) e ∙ ap (take n) (drop_put_add at s (i - at) x) ∙ take_put n (drop at s) (i - at) x (omega arith)

pub part-after : (s : Bytes) (i : ℕ) (x : Bytes) (at n : ℕ) → i + length x ≤ at → part (put s i x) at n ≡ part s at n
part-after s i x at n h = ap (take n) (drop_put_past at s i x h)

-- an identifier lies before the image
abbrev named : Bytes → Bytes
named p = take (get_or p 0 0) (part p id_from limits.identifier)

part_of : (l : Bytes) → part (take image_from l) id_from limits.identifier ≡ part l id_from limits.identifier
part_of [] = refl
part_of (x ∷ l) = take-take limits.identifier (image_from - id_from) l (omega arith)

id-is : (b : Bytes) (c : ℕ) → (slot_at b c).id ≡ named (part b (slot_bytes * c) image_from)
unfolding slot_at
id-is b c =
    let first : get_or (part b (slot_bytes * c) image_from) 0 0 ≡ get_or b (slot_bytes * c) 0 =
    get_or-take image_from (drop (slot_bytes * c) b) 0 0 (omega arith) ∙ rw add-zero at (get_or-drop (slot_bytes * c) b 0 0) in
    let rest : part (part b (slot_bytes * c) image_from) id_from limits.identifier ≡ part b (slot_bytes * c + id_from) limits.identifier =
    part_of (drop (slot_bytes * c) b) ∙ ap (take limits.identifier) (drop-drop id_from (slot_bytes * c) b) in
    rw (first, rest)

-- slots that differ in their images alone have the same identifiers
pub names_same : (a b : Bytes) → length a ≡ length b → ((c : ℕ) → part a (slot_bytes * c) image_from ≡ part b (slot_bytes * c) image_from) → slot_names a ≡ slot_names b
unfolding slots_in
names_same a b e same = rw e (each (numbers (length b / slot_bytes) 0))
  where
    each : (cs : List ℕ) → map (λ y. y.id) (map (slot_at a) cs) ≡ map (λ y. y.id) (map (slot_at b) cs)
    each [] = refl
    each (c ∷ cs) = rw (id-is a c, same c, ← id-is b c, each cs)

-- a stretch of slot c, up to its byte `to`, that an image in slot k does not reach
abbrev Apart : ℕ → ℕ → ℕ → Type 0
Apart k c to = (to ≤ slot_bytes) × (c ≡ k → to ≤ image_from)

-- it lies before or after an image of x bytes
abbrev Sides : ℕ → ℕ → ℕ → ℕ → ℕ → Type 0
Sides k c at n x = (slot_bytes * c + at + n ≤ slot_bytes * k + image_from) ⊎ (slot_bytes * k + image_from + x ≤ slot_bytes * c + at)

sides : (k c at n x : ℕ) → Apart k c (at + n) → x ≤ answer_bytes → Sides k c at n x
sides k c at n x h short = go (ltb k c) refl
  where
    coercible : (c ≡ k) ⊎ (c < k) → Sides k c at n x
    coercible (inl e) = let m : at + n ≤ image_from = h.1 e in inl (omega arith)
    coercible (inr l) = inl (omega (arith, h.0))

    go : (p : Bool) → ltb k c ≡ p → Sides k c at n x
    go true e = let l : k < c = ltb-true k c e in inr (omega arith)
    go false e = coercible (eq-or-lt_of_le (ltb-false k c e))

module _ (b : Bytes) (k : ℕ) (x : Bytes) (short : length x ≤ answer_bytes) where
  pub slot-part : (c at n : ℕ) → Apart k c (at + n) → part (put_image b k x) (slot_bytes * c + at) n ≡ part b (slot_bytes * c + at) n
  unfolding put_image
  slot-part c at n h = go (sides k c at n (length x) h short)
    where
      go : Sides k c at n (length x) → part (put b (slot_bytes * k + image_from) x) (slot_bytes * c + at) n ≡ part b (slot_bytes * c + at) n
      go (inl l) = part-before b (slot_bytes * k + image_from) x (slot_bytes * c + at) n l
      go (inr l) = part-after b (slot_bytes * k + image_from) x (slot_bytes * c + at) n l

  -- another slot keeps all its bytes; the slot itself those before its image
  pub other-kept : (c : ℕ) → (c ≡ k → ⊥) → part (put_image b k x) (slot_bytes * c) slot_bytes ≡ part b (slot_bytes * c) slot_bytes
  other-kept c h = rw add-zero at (slot-part c 0 slot_bytes (omega arith, λ e. absurd (h e)))

  pub fixed_kept : (c : ℕ) → part (put_image b k x) (slot_bytes * c) image_from ≡ part b (slot_bytes * c) image_from
  fixed_kept c = rw add-zero at (slot-part c 0 image_from (omega arith, λ e. omega arith))

  pub length-kept : length (put_image b k x) ≡ length b
  unfolding put_image
  length-kept = length-sets b (slot_bytes * k + image_from) x

  pub names-kept : slot_names (put_image b k x) ≡ slot_names b
  names-kept = names_same (put_image b k x) b length-kept fixed_kept

  pub number-kept : (id : Bytes) → slot_of id (put_image b k x) ≡ slot_of id b
  unfolding slot_of
  number-kept id = rw names-kept
