-- What check's report says of an envelope: what it accepted, or its refusal.
use Prim.Native.Nat.{ℕ, ◌≤◌, ◌<◌}
use mathlib.Core.Path.{◌≡◌, refl, sym, ap, ◌∙◌}
use mathlib.Core.List.{List}
use native.Mathlib.Omega.{arith}
use lib.ListN.{length, get_or, replicate, length-map}
use Rattle.std.specs.Prelude.{Ok, Err}
use Rattle.rules.specs.declared.answers.Fault.{Fault}
use Rattle.rules.specs.Limits.{limits, places}
use Rattle.rules.specs.Bytes.{Bytes, span, bytes_at, span_at, InBytes}
use Rattle.rules.specs.Got.{Got, refused, got}
use Rattle.rules.specs.Manifest.{Manifest, names}
use Rattle.rules.specs.Check.{common_weight, components, check}
use Rattle.rules.proofs.CheckLaws.{in_bytes_law}
use Rattle.rules.proofs.ManifestParts.{common_parts, common_in_lem, manifest_parts, held}
use Rattle.rules_theorems.proofs.ManifestLaws.{Sound, sound}
use Rattle.check_envelope.specs.declared.report.Report.{Report}
use Rattle.check_envelope.specs.Report.{report, report_of}
use Rattle.component_ids.specs.Identifiers.{laid}
use Rattle.component_ids.proofs.IdentifierLaws.{span-laid, ids-inside}
use Rattle.run_slot_search.specs.Search.{names_at}
use Rattle.run_slot_search.proofs.SearchLaws.{names-laid}
use Rattle.manifest_accessors.specs.Accepted.{Accepted}

-- the identifiers of a checked manifest lie in the envelope
ids_in_lem : (s : Bytes) (m : Manifest) (a : List ℕ) → check s ≡ got m → InBytes (laid m.ids a) (length m.ids) (length s)
ids_in_lem s m a q =
    let h = held s m q in
    let x = manifest_parts s h.to h.from m h.to h.reads in
    let j = common_in_lem s (common_weight x.entries) h.to x.start x.common x.place x.held in
    let y = common_parts s (common_weight x.entries) x.place.to x.place.from x.common x.place.to j.reads in
    let i = in_bytes_law s (components s) x.place.to y.list x.common.0 y.place y.ids in
    rw x.is (ids-inside s y.place.to y.place.from x.common.0 y.place.to a (omega (arith, i.fits, j.fits, h.fits)) i.reads)

module _ (s : Bytes) (number n : ℕ) (ids sections : List ℕ) (a : Accepted s number n ids sections) where
  pub known : Sound s a.manifest
  known = sound s a.manifest a.checks

  pub counted : length (names s a.manifest) ≡ n
  counted = length-map a.manifest.ids (bytes_at s) ∙ sym a.count

  pub envelope_short : length s ≤ limits.envelope
  envelope_short = (held s a.manifest a.checks).short

  pub few : n ≤ limits.components
  few = omega (arith, counted, known.some-ids)

  spans : (k : ℕ) → k < length a.manifest.ids → span_at ids k ≡ get_or a.manifest.ids k (span 0 0)
  spans k h = ap (λ (l : List ℕ). span_at l k) a.names ∙ span-laid a.manifest.ids (replicate places 0) k h

  pub inside : InBytes ids n (length s)
  inside k h = rw a.names (ids_in_lem s a.manifest (replicate places 0) a.checks k (omega (arith, a.count)))

  pub named : names_at s ids n ≡ names s a.manifest
  named = ap (names_at s ids) a.count ∙ names-laid s a.manifest.ids ids spans

-- what check reported
module _ (s : Bytes) where
  pub accepted : (r : Report) → Ok r ≡ report_of (check s) → Accepted s r.number r.components r.ids r.sections
  accepted r e = go (check s) refl e
    where
      go : (y : Got Manifest) → check s ≡ y → Ok r ≡ report_of y → Accepted s r.number r.components r.ids r.sections
      go (refused k p) q u = absurd cc
      go (got m) q u =
          let g : r ≡ report m = cc in
          record {
            manifest = m;
            checks = q;
            numbered = ap (λ (z : Report). z.number) g;
            count = ap (λ (z : Report). z.components) g;
            names = ap (λ (z : Report). z.ids) g;
            places = ap (λ (z : Report). z.sections) g;
          }

  pub refused-by : (d : Fault) → Err d ≡ report_of (check s) → check s ≡ refused d.refusal d.at
  refused-by d e = go (check s) e
    where
      go : (y : Got Manifest) → Err d ≡ report_of y → y ≡ refused d.refusal d.at
      go (refused k p) u = let g : d ≡ record { refusal = k; at = p } = cc in rw g
      go (got m) u = absurd cc
