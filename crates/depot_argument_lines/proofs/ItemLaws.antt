-- Items one after the other, and what is written of them.
use Prim.Native.Nat.{ℕ, zero, suc, ◌+◌, ◌-◌, ◌≤◌, ◌<◌}
use mathlib.Core.Path.{◌≡◌, refl, sym, ◌∙◌}
use mathlib.Core.List.{[], ◌++◌}
use Rattle.std.specs.Prelude.{Some, None}
use mathlib.Core.Bool.{Bool, true, false}
use lib.Dec.{leb}
use lib.ListN.{length, take, drop}
use lib.Seq.{sets, length-sets}
use native.Mathlib.Omega.{arith}
use borrow.Author.Tests.{leb-true, leb-false, lt-ltb, le-ltb, eq-eqb, ne_eqb}
use Rattle.rules.proofs.BytesLaws.{part-rest}
use Rattle.text.specs.Text.{Bytes, Wrote, least}
use Rattle.text.proofs.TextLaws.{wrote_none, wrote_then, wrote-length}
use Rattle.depot_argument_lines.specs.Items.{size_in, sized, items_text}

pub size-short : (s : Bytes) (head more : ℕ) → length s < head → size_in s head more ≡ 0
unfolding size_in
size-short s head more h = rw (lt-ltb (length s) head h)

pub size_past : (s : Bytes) (head more : ℕ) → head ≤ length s → length s < head + more → size_in s head more ≡ 0
unfolding size_in
size_past s head more h l = rw (le-ltb (length s) head h, lt-ltb (length s) (head + more) l)

pub size-whole : (s : Bytes) (head more : ℕ) → head + more ≤ length s → size_in s head more ≡ head + more
unfolding size_in
size-whole s head more h =
    let l : head ≤ length s = omega arith in
    rw (le-ltb (length s) head l, le-ltb (length s) (head + more) h)

-- an item that has a size lies in the bytes
pub size_lies : {k : ℕ} (s : Bytes) (head more : ℕ) → k ≡ size_in s head more → (k ≡ 0 → ⊥) → head + more ≤ length s
size_lies s head more k h = go (leb (head + more) (length s)) refl
  where
    short : length s < head + more → ⊥
    short l = first (leb head (length s)) refl
      where
        first : (t : Bool) → leb head (length s) ≡ t → ⊥
        first true e = h (k ∙ size_past s head more (leb-true _ _ e) l)
        first false e = h (k ∙ size-short s head more (leb-false _ _ e))

    go : (t : Bool) → leb (head + more) (length s) ≡ t → head + more ≤ length s
    go true e = leb-true _ _ e
    go false e = absurd (short (leb-false _ _ e))

-- a size that was answered
pub sized_none : (m : ℕ) → None ≡ sized m → m ≡ 0
unfolding sized
sized_none zero e = refl
sized_none (suc m) e = cc

pub sized-some : (k m : ℕ) → Some k ≡ sized m → k ≡ m
unfolding sized
sized-some k zero e = cc
sized-some k (suc m) e = cc

pub sized_positive : (k m : ℕ) → Some k ≡ sized m → k ≡ 0 → ⊥
unfolding sized
sized_positive k zero e z = cc
sized_positive k (suc m) e z = let q : k ≡ suc m = cc in omega arith

pub sized-of : (k m : ℕ) → m ≡ k → 0 < k → Some k ≡ sized m
unfolding sized
sized-of zero m e h = absurd (none h)
  where
    none : 0 < 0 → ⊥
    none l = omega arith
sized-of (suc k) m e h = rw e

pub sized-zero : (m : ℕ) → m ≡ 0 → None ≡ sized m
unfolding sized
sized-zero m e = rw e

-- the part of the bytes from a place on
pub from-drop : (s : Bytes) (k m : ℕ) → k ≡ m → take (length s - k) (drop k s) ≡ drop m s
from-drop s k m e = rw e (part-rest s m)

-- whatever writes `left` from here on writes `whole` from the start
pub record Leads (whole : Bytes) (at : ℕ) (room₀ left : Bytes) (to : ℕ) (room : Bytes) : Type 0 where
  pub by : (r : ℕ) (room' : Bytes) → Wrote left to room r room' → Wrote whole at room₀ r room'

pub leads-length : {whole : Bytes} {at : ℕ} {room₀ left : Bytes} {to : ℕ} {room : Bytes} → Leads whole at room₀ left to room → length room ≡ length room₀
leads-length {left = left} {to = to} {room = room} l =
    sym (length-sets room to left)
    ∙ wrote-length (l.by (to + least (length left) (length room - to)) (sets room to left) (record { filled = refl; next = refl }))

pub leads-more : {whole : Bytes} {at : ℕ} {room₀ left : Bytes} {to : ℕ} {room t left' : Bytes} {to' : ℕ} {room' : Bytes} → Leads whole at room₀ left to room →
    left ≡ t ++ left' → Wrote t to room to' room' → Leads whole at room₀ left' to' room'
leads-more l e w = record { by = λ r room'' h. l.by r room'' (rw e (wrote_then w h)) }

pub leads-all : {whole : Bytes} {at : ℕ} {room₀ left : Bytes} {to : ℕ} {room t : Bytes} {r : ℕ} {room' : Bytes} → Leads whole at room₀ left to room → left ≡ t →
    Wrote t to room r room' → Wrote whole at room₀ r room'
leads-all {r = r} {room' = room'} l e w = l.by r room' (rw e w)

-- the texts of n items of `count` were written; `rest` follows the items
pub record Going (size : Bytes → ℕ) (text : ℕ → Bytes → Bytes) (missing : Bytes → Bytes) (count : ℕ) (s : Bytes) (at : ℕ) (room₀ : Bytes) (n : ℕ) (rest : Bytes) (to : ℕ) (room : Bytes) : Type 0 where
  pub within : n ≤ count
  pub leads : Leads (items_text size text missing count 0 s) at room₀ (items_text size text missing (count - n) n rest) to room

module _ (size : Bytes → ℕ) (text : ℕ → Bytes → Bytes) (missing : Bytes → Bytes) where
  items_none : (k n : ℕ) (s : Bytes) → k ≡ 0 → items_text size text missing k n s ≡ []
  unfolding items_text
  items_none k n s e = rw e

  items_missing : (k n : ℕ) (s : Bytes) → 0 < k → size s ≡ 0 → items_text size text missing k n s ≡ missing s
  unfolding items_text
  items_missing zero n s h e = absurd (none h)
    where
      none : 0 < 0 → ⊥
      none l = omega arith
  items_missing (suc k) n s h e = rw (eq-eqb (size s) 0 e)

  items_more : (k n : ℕ) (s : Bytes) → (size s ≡ 0 → ⊥) → items_text size text missing (suc k) n s ≡ text n s ++ items_text size text missing k (n + 1) (drop (size s) s)
  unfolding items_text
  items_more k n s e = rw (ne_eqb (size s) 0 e)

pub going_start : (size : Bytes → ℕ) (text : ℕ → Bytes → Bytes) (missing : Bytes → Bytes) (count : ℕ) (s : Bytes) (at : ℕ) (room : Bytes) →
    Going size text missing count s at room 0 s at room
going_start size text missing count s at room =
    let e : count - 0 ≡ count = omega arith in
    record { within = omega arith; leads = record { by = λ r room' w. rw e at w } }

module _ {size : Bytes → ℕ} {text : ℕ → Bytes → Bytes} {missing : Bytes → Bytes} {count : ℕ} {s : Bytes} {at : ℕ} {room₀ : Bytes} {n : ℕ} {rest : Bytes}
    {to : ℕ} {room : Bytes} (g : Going size text missing count s at room₀ n rest to room) where
  pub going-length : length room ≡ length room₀
  going-length = leads-length g.leads

  -- one item more, of size k
  pub going_more : {k to' : ℕ} {room' : Bytes} → n < count → k ≡ size rest → (k ≡ 0 → ⊥) → Wrote (text n rest) to room to' room' →
      Going size text missing count s at room₀ (n + 1) (take (length rest - k) (drop k rest)) to' room'
  going_more {k} h e z w =
      let left : count - n ≡ suc (count - (n + 1)) = omega arith in
      record {
        within = omega arith;
        leads = leads-more g.leads (rw (left, from-drop rest k (size rest) e) (items_more size text missing (count - (n + 1)) n rest (λ y. z (e ∙ y)))) w;
      }

  -- none where one should stand
  pub going_missing : {k r : ℕ} {room' : Bytes} → n < count → k ≡ size rest → k ≡ 0 → Wrote (missing rest) to room r room' →
      Wrote (items_text size text missing count 0 s) at room₀ r room'
  going_missing h e z w = leads-all g.leads (items_missing size text missing (count - n) n rest (omega arith) (sym e ∙ z)) w

  -- all of them
  pub going_end : count ≤ n → Wrote (items_text size text missing count 0 s) at room₀ to room
  going_end h = leads-all g.leads (items_none size text missing (count - n) n rest (omega arith)) (wrote_none to room)
