-- The path from a part on, one step of each.
use Prim.Native.Nat.{ℕ, suc, ◌-◌}
use mathlib.Core.Path.{◌≡◌}
use Rattle.std.specs.Prelude.{Some, None}
use mathlib.Core.Bool.{true, false}
use mathlib.Core.List.{[], ◌++◌}
use borrow.Author.Tests.{eq-eqb, ne_eqb}
use native.Mathlib.Omega.{arith}
use Rattle.rules.specs.Bytes.{Bytes}
use Rattle.rules.specs.Cbor.{NUMBER}
use Rattle.cbor_reading.proofs.ReadingLaws.{above}
use Rattle.depot_items.specs.declared.Item.{Item}
use Rattle.depot_parts.specs.declared.parts.Part.{Part}
use Rattle.depot_parts.specs.declared.parts.Shape.{Shape}
use Rattle.depot_parts.specs.declared.seek.Spot.{Spot}
use Rattle.depot_parts.specs.declared.seek.Found.{Found}
use Rattle.depot_parts.specs.Parts.{shape_of, child_of}
use Rattle.depot_parts.specs.Seek.{key_at, at_head, find, settle}
use Rattle.depot_part_names.specs.Names.{name_of, entry_text, key_text, left_over}
use Rattle.depot_path.specs.Path.{within}

below : (n : ℕ) → suc n - 1 ≡ n
below n = omega arith

module _ (s : Bytes) (place d : ℕ) (p : Part) (e at : ℕ) where
  pub within_none : d ≡ 0 → within s place d p e at ≡ []
  unfolding within
  within_none z = rw z

  module _ (z : d ≡ 0 → ⊥) where
    pub within_stop : None ≡ find s place p e at → within s place d p e at ≡ name_of p
    unfolding within
    within_stop q = rw (above d z, ← q)

    module _ (f : Found) (qf : Some f ≡ find s place p e at) (x : Spot) (qx : x ≡ settle s place (d - 1) p f.end f.spot) where
      pub within-left : x.left ≡ 0 → within s place d p e at ≡ left_over p
      unfolding within
      within-left l = rw (above d z, ← qf, ← qx, eq-eqb _ _ l)

      module _ (l : x.left ≡ 0 → ⊥) (h : Shape) (qh : h ≡ shape_of p) (k : Item) (qk : k ≡ key_at s h.keyed f.end x.at) (n : ℕ)
          (qn : n ≡ f.count - (x.left - 1)) where
        pub within-key : at_head place NUMBER k ≡ true → within s place d p e at ≡ key_text p n k.num
        unfolding within
        within-key a = rw (above d z, ← qf, ← qx, ne_eqb _ _ l, ← qh, ← qk, a, ← qn)

        pub within_on : at_head place NUMBER k ≡ false → (c : Part) → c ≡ child_of p k.num →
            within s place d p e at ≡ entry_text p n k.num ++ within s place (d - 1) c f.end k.next
        unfolding within
        within_on a c qc = rw (above d z, ← qf, ← qx, ne_eqb _ _ l, ← qh, ← qk, a, ← qn, ← qc, below (d - 1))
