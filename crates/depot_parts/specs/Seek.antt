-- The walk to a place, over any bytes: which entry of a part holds it. An item that is not there whole has no kind and ends with its
-- container. Check reads depth first and refuses at the first fault, so what ends before the place is whole. What ends at the place may
-- still lack an item there: then the place is that item's, and else it is that of what comes next.
use Rattle.std.specs.Prelude.{ℕ, zero, suc, ◌-◌, ◌/◌, Bool, true, false, cond, Option, Some, None, eqb, ltb, leb}
use Rattle.rules.specs.Bytes.{Bytes}
use Rattle.rules.specs.Cbor.{NUMBER, BYTES, ARRAY, MAP}
use Rattle.depot_items.specs.declared.Item.{Item}
use Rattle.depot_items.specs.Items.{NO_ITEM, item_at, item_of}
use Rattle.depot_parts.specs.declared.parts.Part.{Part}
use Rattle.depot_parts.specs.declared.parts.Shape.{Shape}
use Rattle.depot_parts.specs.declared.seek.Spot.{Spot}
use Rattle.depot_parts.specs.declared.seek.Found.{Found}
use Rattle.depot_parts.specs.Parts.{LEAF, shape_of, child_of}

-- no bytes at a place, for a key or a string that is not written
abbrev pub empty : ℕ → ℕ → ℕ → Item
empty kind e at = record { kind = kind; num = 0; next = at; after = e }

-- the place is in a head that should be of this kind, or there is none
unfoldable pub at_head : ℕ → ℕ → Item → Bool
at_head place kind i = cond (eqb i.kind kind) (ltb place i.next) true

-- the first where no entry was found, and else what the second says of it
abbrev pub if_found : {X : Type 0} → X → (Found → X) → Option Found → X
if_found none some None = none
if_found none some (Some f) = some f

-- how many entries: a code with its argument is two items
unfoldable pub entries : Shape → ℕ → ℕ
entries h num = cond (eqb h.kind ARRAY) (cond h.keyed (num / 2) num) num

module _ (s : Bytes) where
  -- the place after k items
  unfoldable pub items_end : ℕ → ℕ → ℕ → ℕ
  items_end zero e at = at
  items_end (suc k) e at = cond (leb e at) at (items_end k e (item_at s e at).after)

  -- and after one with what it holds: the items of an array, the keys and values of a map
  unfoldable pub item_end : ℕ → ℕ → ℕ
  item_end e at =
      let i = item_at s e at in
      cond (eqb i.kind ARRAY) (items_end i.num e i.next)
      (cond (eqb i.kind MAP) (items_end i.num e (items_end i.num e i.next))
      i.after)

  -- the key of the entry at `at`, before its value
  unfoldable pub key_at : Bool → ℕ → ℕ → Item
  key_at keyed e at = cond keyed (item_of s e at NUMBER) (empty NUMBER at at)

  unfoldable pub entry_end : Bool → ℕ → ℕ → ℕ
  entry_end keyed e at = item_end e (key_at keyed e at).next

  -- the byte string around a part
  unfoldable pub box_at : Bool → ℕ → ℕ → Item
  box_at boxed e at = cond boxed (item_of s e at BYTES) (empty BYTES e at)

  module _ (place : ℕ) where
    -- the first of k entries that does not end before the place: how many are left with it, and where it starts
    unfoldable pub seek : Bool → ℕ → ℕ → ℕ → Spot
    seek keyed e zero at = record { left = 0; at = at }
    seek keyed e (suc k) at =
        cond (leb place (entry_end keyed e at)) (record { left = suc k; at = at }) (seek keyed e k (entry_end keyed e at))

    -- that entry in the part at `at`, none where the place is before all entries. `end` is where the part ends, `count` how many entries it has
    unfoldable pub find : Part → ℕ → ℕ → Option Found
    find p e at =
        let h = shape_of p in
        let b = box_at h.boxed e at in
        let i = item_of s b.after b.next h.kind in
        cond (at_head place h.kind i) None
        (Some (record { end = b.after; count = entries h i.num; spot = seek h.keyed b.after (entries h i.num) i.next }))

    -- the part at `at`, which ends at the place, lacks an item there
    unfoldable pub short : ℕ → Part → ℕ → ℕ → Bool
    short zero p e at = false
    short (suc d) p e at =
        let key = λ (f : Found). key_at (shape_of p).keyed f.end f.spot.at in
        cond (eqb (shape_of p).kind LEAF) (eqb (item_at s e at).kind NO_ITEM)
        (if_found true
        (λ f. cond (eqb f.spot.left 0) false
        (cond (ltb 1 f.spot.left) true
        (cond (at_head place NUMBER (key f)) true
        (short d (child_of p (key f).num) f.end (key f).next))))
        (find p e at))

    -- the entry at `at` holds the place
    unfoldable pub holds : ℕ → Part → ℕ → ℕ → Bool
    holds d p e at =
        let k = key_at (shape_of p).keyed e at in
        cond (ltb place (entry_end (shape_of p).keyed e at)) true
        (cond (at_head place NUMBER k) true
        (short d (child_of p k.num) e k.next))

    -- it, or the one after it
    unfoldable pub settle : ℕ → Part → ℕ → Spot → Spot
    settle d p e x =
        cond (holds d p e x.at) x (record { left = x.left - 1; at = entry_end (shape_of p).keyed e x.at })
