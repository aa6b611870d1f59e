-- The walk to a place, one step of each.
use Prim.Native.Nat.{ℕ, zero, suc, ◌-◌, ◌≤◌, ◌<◌}
use mathlib.Core.Path.{◌≡◌, refl}
use mathlib.Core.Logic.{◌⊎◌, inl, inr}
use Rattle.std.specs.Prelude.{Some, None}
use mathlib.Core.Bool.{Bool, true, false}
use lib.Dec.{eqb}
use borrow.Author.Tests.{le-leb, lt-leb, lt-ltb, le-ltb, eq-eqb, ne_eqb}
use native.Mathlib.Omega.{arith}
use Rattle.rules.specs.Bytes.{Bytes}
use Rattle.rules.specs.Cbor.{NUMBER}
use Rattle.cbor_reading.proofs.ReadingLaws.{above}
use Rattle.depot_items.specs.declared.Item.{Item}
use Rattle.depot_items.specs.Items.{NO_ITEM, item_at}
use Rattle.depot_parts.specs.declared.parts.Part.{Part}
use Rattle.depot_parts.specs.declared.parts.Shape.{Shape}
use Rattle.depot_parts.specs.declared.seek.Found.{Found}
use Rattle.depot_parts.specs.Parts.{LEAF, shape_of, child_of}
use Rattle.depot_parts.specs.Seek.{items_end, key_at, entry_end, at_head, seek, find, short}

not_none : (k : ℕ) → suc k ≤ 0 → ⊥
not_none k h = omega arith

not_some : 0 < 0 → ⊥
not_some h = omega arith

below : (n : ℕ) → suc n - 1 ≡ n
below n = omega arith

module _ (s : Bytes) where
  pub no_items : (k e at : ℕ) → (e ≤ at) ⊎ (k ≤ 0) → at ≡ items_end s k e at
  unfolding items_end
  no_items zero e at h = refl
  no_items (suc k) e at (inl h) = rw (le-leb e at h)
  no_items (suc k) e at (inr h) = absurd (not_none k h)

  pub more_items : (k j e at : ℕ) → k ≡ suc j → at < e → items_end s k e at ≡ items_end s j e (item_at s e at).after
  unfolding items_end
  more_items k j e at h l = rw (h, lt-leb e at l)

  module _ (place : ℕ) (keyed : Bool) (e : ℕ) where
    pub seek-none : (k at : ℕ) → k ≤ 0 → record { left = k; at = at } ≡ seek s place keyed e k at
    unfolding seek
    seek-none zero at h = refl
    seek-none (suc k) at h = absurd (not_none k h)

    module _ (k at end : ℕ) (h : 0 < k) (q : end ≡ entry_end s keyed e at) where
      pub seek-here : place ≤ end → record { left = k; at = at } ≡ seek s place keyed e k at
      unfolding seek
      seek-here l = here k h
        where
          here : (k : ℕ) → 0 < k → record { left = k; at = at } ≡ seek s place keyed e k at
          here zero y = absurd (not_some y)
          here (suc k) y = rw (← q, le-leb place end l)

      pub seek-on : end < place → seek s place keyed e k at ≡ seek s place keyed e (k - 1) end
      unfolding seek
      seek-on l = on k h
        where
          on : (k : ℕ) → 0 < k → seek s place keyed e k at ≡ seek s place keyed e (k - 1) end
          on zero y = absurd (not_some y)
          on (suc k) y = rw (← q, lt-leb place end l, below k)

  module _ (place : ℕ) where
    module _ (d : ℕ) (p : Part) (e at : ℕ) where
      pub short_none : d ≡ 0 → false ≡ short s place d p e at
      unfolding short
      short_none z = rw z

      module _ (z : d ≡ 0 → ⊥) (h : Shape) (qh : h ≡ shape_of p) where
        pub short-leaf : h.kind ≡ LEAF → eqb (item_at s e at).kind NO_ITEM ≡ short s place d p e at
        unfolding short
        short-leaf l = rw (above d z, ← qh, eq-eqb _ _ l)

        module _ (n : h.kind ≡ LEAF → ⊥) where
          pub short_stop : None ≡ find s place p e at → true ≡ short s place d p e at
          unfolding short
          short_stop q = rw (above d z, ← qh, ne_eqb _ _ n, ← q)

          module _ (f : Found) (qf : Some f ≡ find s place p e at) where
            pub short_past : f.spot.left ≡ 0 → false ≡ short s place d p e at
            unfolding short
            short_past l = rw (above d z, ← qh, ne_eqb _ _ n, ← qf, eq-eqb _ _ l)

            module _ (m : f.spot.left ≡ 0 → ⊥) where
              pub short-more : 1 < f.spot.left → true ≡ short s place d p e at
              unfolding short
              short-more l = rw (above d z, ← qh, ne_eqb _ _ n, ← qf, ne_eqb _ _ m, lt-ltb 1 _ l)

              module _ (l : f.spot.left ≤ 1) (k : Item) (qk : k ≡ key_at s h.keyed f.end f.spot.at) where
                pub short-key : at_head place NUMBER k ≡ true → true ≡ short s place d p e at
                unfolding short
                short-key a = rw (above d z, ← qh, ne_eqb _ _ n, ← qf, ne_eqb _ _ m, le-ltb 1 _ l, ← qk, a)

                pub short_on : at_head place NUMBER k ≡ false → (c : Part) → c ≡ child_of p k.num →
                    short s place (d - 1) c f.end k.next ≡ short s place d p e at
                unfolding short
                short_on a c qc = rw (above d z, ← qh, ne_eqb _ _ n, ← qf, ne_eqb _ _ m, le-ltb 1 _ l, ← qk, a, ← qc, below (d - 1))
