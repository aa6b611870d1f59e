-- The newer of two envelopes by their numbers, and that a manifest's part lies in its envelope.
use Prim.Native.Nat.{◌≤◌}
use mathlib.Core.Path.{◌≡◌, refl}
use mathlib.Core.Bool.{Bool, true, false, cond}
use native.Mathlib.Omega.{arith}
use lib.Dec.{ltb}
use lib.ListN.{length}
use Rattle.std.specs.Prelude.{Option, Some, None}
use Rattle.rules.specs.Bytes.{Bytes, span}
use Rattle.rules.specs.Got.{Got, refused, got}
use Rattle.rules.specs.Manifest.{Manifest}
use Rattle.rules.specs.Check.{check}
use Rattle.rules.specs.Newer.{Newer, in_first, in_second, newer_of, newer}
use Rattle.rules.proofs.ManifestParts.{held}
use Rattle.check_newer.specs.declared.Part.{Part}
use Rattle.check_newer.specs.declared.Newest.{Newest}
use Rattle.check_newer.specs.declared.Newest.TheVariants.{First, Second}
use Rattle.check_envelope.specs.declared.report.Place.{Place}
use Rattle.check_envelope.specs.Report.{place}
use Rattle.check_newer.specs.Newer.{part_in, newest_of}
use Rattle.check_manifest.proofs.ManifestLaws.{manifest-part}

-- the manifest's part lies in the envelope
lies : (s : Bytes) (m : Manifest) → check s ≡ got m → (m.part.from ≤ m.part.to) × (m.part.to ≤ length s)
lies s m q =
    let h = held s m q in
    let x : m.part ≡ span h.from h.to = manifest-part s h.to h.from m h.to h.reads in
    rw x (h.up, h.fits)

-- by the parts
abbrev pub chosen : Option Part → Option Part → Newest
chosen None None = First (place (span 0 0))
chosen None (Some y) = Second y.place
chosen (Some x) None = First x.place
chosen (Some x) (Some y) = cond (ltb x.number y.number) (Second y.place) (First x.place)

pub chosen_law : (x y : Got Manifest) → newest_of (newer_of x y) ≡ chosen (part_in x) (part_in y)
chosen_law (refused n p) (refused m q) = refl
chosen_law (refused n p) (got y) = refl
chosen_law (got x) (refused m q) = refl
chosen_law (got x) (got y) = go (ltb x.number y.number)
  where
    go : (t : Bool) → newest_of (cond t (in_second y.part) (in_first x.part)) ≡ cond t (Second (place y.part)) (First (place x.part))
    go true = refl
    go false = refl

-- what is handed back lies in its envelope
abbrev Lies : Bytes → Bytes → Newer → Type 0
Lies a b (in_first p) = (p.from ≤ p.to) × (p.to ≤ length a)
Lies a b (in_second p) = (p.from ≤ p.to) × (p.to ≤ length b)

newer_lies : (a b : Bytes) → Lies a b (newer a b)
unfolding newer
newer_lies a b = go (check a) (check b) refl refl
  where
    either : (t : Bool) (x y : Manifest) → check a ≡ got x → check b ≡ got y → Lies a b (cond t (in_second y.part) (in_first x.part))
    either true x y p q = lies b y q
    either false x y p q = lies a x p

    go : (x y : Got Manifest) → check a ≡ x → check b ≡ y → Lies a b (newer_of x y)
    go (refused k m) (refused l n) p q = (omega arith, omega arith)
    go (refused k m) (got y) p q = lies b y q
    go (got x) (refused l n) p q = lies a x p
    go (got x) (got y) p q = either (ltb x.number y.number) x y p q

module _ (a b : Bytes) (p : Place) where
  pub first_lies : First p ≡ newest_of (newer a b) → (p.from ≤ p.to) × (p.to ≤ length a)
  first_lies e = go (newer a b) (newer_lies a b) e
    where
      go : (x : Newer) → Lies a b x → First p ≡ newest_of x → (p.from ≤ p.to) × (p.to ≤ length a)
      go (in_first q) h e = let g : p ≡ place q = cc in rw g h
      go (in_second q) h e = absurd cc

  pub second_lies : Second p ≡ newest_of (newer a b) → (p.from ≤ p.to) × (p.to ≤ length b)
  second_lies e = go (newer a b) (newer_lies a b) e
    where
      go : (x : Newer) → Lies a b x → Second p ≡ newest_of x → (p.from ≤ p.to) × (p.to ≤ length b)
      go (in_first q) h e = absurd cc
      go (in_second q) h e = let g : p ≡ place q = cc in rw g h
