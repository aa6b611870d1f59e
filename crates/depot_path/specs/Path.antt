-- Where a place stands in an envelope, in words. Entries are counted from 1, components from 0.
use Rattle.std.specs.Prelude.{ℕ, zero, suc, ◌+◌, ◌-◌, ◌*◌, cond, [], ◌++◌, eqb, length}
use Rattle.rules.specs.Bytes.{Bytes}
use Rattle.rules.specs.Limits.{limits}
use Rattle.rules.specs.Cbor.{NUMBER}
use Rattle.depot_parts.specs.declared.parts.Part.{Part}
use Rattle.depot_parts.specs.declared.parts.Part.TheVariants.{Envelope}
use Rattle.depot_parts.specs.Parts.{shape_of, child_of}
use Rattle.depot_parts.specs.Seek.{if_found, key_at, at_head, find, settle}
use Rattle.depot_part_names.specs.Names.{name_of, entry_text, key_text, left_over}

module _ (s : Bytes) (place : ℕ) where
  -- the path from the part at `at` on, which may hold parts d deep
  unfoldable pub within : ℕ → Part → ℕ → ℕ → Bytes
  within zero p e at = []
  within (suc d) p e at =
      if_found (name_of p)
      (λ f.
      let x = settle s place d p f.end f.spot in
      let k = key_at s (shape_of p).keyed f.end x.at in
      let n = f.count - (x.left - 1) in
      cond (eqb x.left 0) (left_over p)
      (cond (at_head place NUMBER k) (key_text p n k.num)
      (entry_text p n k.num ++ within d (child_of p k.num) f.end k.next)))
      (find s place p e at)

-- the envelope, the manifest, common and its sequence; then alternatives and their sequences
abbrev pub levels : ℕ
levels = 4 + 2 * limits.depth

unfoldable pub path_text : Bytes → ℕ → Bytes
path_text s place = within s place levels Envelope (length s) 0
