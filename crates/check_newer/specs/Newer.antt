-- Newer: which part of which of two lent envelopes is handed back.
use Rattle.std.specs.Prelude.{ℕ, ◌+◌, ◌≡◌, List, Option, Some, None}
use Rattle.std.specs.Borrow.{Bor}
use Rattle.rules.specs.Bytes.{Span, bytes_at}
use Rattle.rules.specs.Got.{Got, refused, got}
use Rattle.rules.specs.Manifest.{Manifest}
use Rattle.rules.specs.Newer.{Newer, in_first, in_second}
use Rattle.check_newer.specs.declared.Part.{Part}
use Rattle.check_newer.specs.declared.Newest.{Newest}
use Rattle.check_newer.specs.declared.Newest.TheVariants.{First, Second}
use Rattle.check_envelope.specs.Report.{place}

-- r is the bytes at p of the slice s, and lies where they lie
pub record PartOf (s : Bor (List ℕ)) (p : Span) (r : Bor (List ℕ)) : Type 0 where
  pub bytes : r.now ≡ bytes_at s.now p
  pub block : r.ref_ptr.0 ≡ s.ref_ptr.0
  pub offset : r.ref_ptr.1 ≡ s.ref_ptr.1 + p.from

-- what the rule says is handed back
abbrev pub Handed : Newer → Bor (List ℕ) → Bor (List ℕ) → Bor (List ℕ) → Type 0
Handed (in_first p) a b r = PartOf a p r
Handed (in_second p) a b r = PartOf b p r

-- the number of an accepted manifest, and its place
abbrev pub part_in : Got Manifest → Option Part
part_in (refused k p) = None
part_in (got m) = Some (record { number = m.number; place = place m.part })

-- the place of what is handed back
abbrev pub newest_of : Newer → Newest
newest_of (in_first p) = First (place p)
newest_of (in_second p) = Second (place p)
