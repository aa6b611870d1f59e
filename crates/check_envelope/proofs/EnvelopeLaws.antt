-- Check, one step after the other, and what its report says.
use Prim.Native.Nat.{ℕ, ◌+◌, ◌≤◌, ◌<◌}
use mathlib.Core.Path.{◌≡◌, refl, sym, ap, ◌∙◌}
use mathlib.Core.Logic.{◌⊎◌, inl, inr}
use native.Mathlib.Omega.{arith}
use lib.Dec.{leb, eqb}
use lib.ListN.{length}
use borrow.Author.Tests.{le-leb, lt-leb, eq-eqb, ne_eqb}
use Rattle.std.specs.Prelude.{Result, Ok, Err}
use Rattle.rules.specs.declared.answers.Fault.{Fault}
use Rattle.rules.specs.declared.answers.Refusal.TheVariants.{EnvelopeTooLong, NotCbor}
use Rattle.rules.specs.Limits.{limits}
use Rattle.rules.specs.Bytes.{Bytes, span}
use Rattle.rules.specs.Got.{Got, refused, got, need, ◌>>=◌}
use Rattle.rules.specs.Cbor.{BYTES, Head, after, item}
use Rattle.rules.specs.Manifest.{Manifest}
use Rattle.rules.specs.Check.{in_bytes, manifest_at, outer_at, check}
use Rattle.rules.proofs.GotLaws.{split}
use Rattle.rules.proofs.CheckLaws.{item_law, bytes_after}
use Rattle.cbor_reading.specs.declared.Reading.{Reading}
use Rattle.check_manifest.specs.declared.Body.{Body}
use Rattle.check_envelope.specs.declared.report.Report.{Report}
use Rattle.cbor_reading.specs.Reading.{head_reading}
use Rattle.check_manifest.specs.Body.{body, body_of}
use Rattle.check_envelope.specs.Outer.{manifest_head}
use Rattle.check_envelope.specs.Report.{place, report_of, numbers_in, numbers_of}
use Rattle.cbor_reading.proofs.ReadingLaws.{result-stopped, result_went, stop_of, went, alike, bind_assoc}
use Rattle.check_manifest.proofs.ManifestLaws.{manifest-part}

module _ (s : Bytes) where
  -- no bytes are left over, in the manifest's byte string that ends at `to`, or after it
  abbrev closed : ℕ → Manifest × ℕ → Got Manifest
  closed to m = need (eqb m.1 to) NotCbor m.1 >>= λ _. need (eqb m.1 (length s)) NotCbor m.1 >>= λ _. got m.0

  inner : ℕ × ℕ → Got Manifest
  inner o = manifest_at s (o.1 + o.0) o.1 >>= closed (o.1 + o.0)

  -- the manifest in its byte string, and nothing after it
  ending : (r : ℕ) →
      (in_bytes s (manifest_at s) (length s) r >>= λ m. need (eqb m.1.to (length s)) NotCbor m.1.to >>= λ _. got m.0)
      ≡ (item BYTES 0 limits.largest s (length s) r >>= λ b. inner (b.num, b.next))
  unfolding in_bytes inner
  ending r =
      bind_assoc (item BYTES 0 limits.largest s (length s) r) _ _ ∙ alike (item BYTES 0 limits.largest s (length s) r) _ _ λ b q.
      bind_assoc (manifest_at s (after b) b.next) _ _
      ∙ alike (manifest_at s (after b) b.next) _ (closed (after b)) (λ m q₁. bind_assoc (need (eqb m.1 (after b)) NotCbor m.1) _ _)
      ∙ ap (λ (to : ℕ). manifest_at s to b.next >>= closed to) (bytes_after b (item_law s BYTES 0 limits.largest (length s) r b q).is)

  -- the envelope's own items, and then the manifest
  parts : check s ≡ (need (leb (length s) limits.envelope) EnvelopeTooLong 0 >>= λ _. manifest_head s (length s) >>= λ b. inner (b.num, b.next))
  unfolding check
  parts =
      alike (need (leb (length s) limits.envelope) EnvelopeTooLong 0) _ _ λ u q.
      alike (outer_at s (length s)) _ _ (λ p q₁. ending p) ∙ sym (bind_assoc (outer_at s (length s)) _ _)

  pub check-long : limits.envelope < length s → check s ≡ refused EnvelopeTooLong 0
  check-long h = parts ∙ rw (lt-leb _ _ h)

  module _ (fits : length s ≤ limits.envelope) where
    -- a refusal of the envelope's own items
    pub check_no_outer : (d : Fault) → Err d ≡ head_reading (manifest_head s (length s)) → check s ≡ refused d.refusal d.at
    check_no_outer d q = parts ∙ rw (le-leb _ _ fits, stop_of (λ b. b.next) (λ b. b.num) (manifest_head s (length s)) d q)

    module _ (o : Reading) (q : Ok o ≡ head_reading (manifest_head s (length s))) where
      abbrev head : Head
      head = record { kind = BYTES; num = o.value; next = o.at }

      opened : (p : ℕ) × (item BYTES 0 limits.largest s (length s) p ≡ got head) × (manifest_head s (length s) ≡ got head)
      opened =
          let (b, g, at, value) = went (λ b. b.next) (λ b. b.num) (manifest_head s (length s)) o q in
          split _ (outer_at s (length s)) _ b g λ p qp x.
          let is = (item_law s BYTES 0 limits.largest (length s) p b x).is in
          let same : b ≡ head = λ j. record { kind = is j; num = sym value j; next = sym at j } in
          (p, x ∙ ap got same, g ∙ ap got same)

      -- the byte string lies in the envelope
      pub outer_fits : o.at + o.value ≤ length s
      outer_fits = let (p, x, _) = opened in omega (arith, (item_law s BYTES 0 limits.largest (length s) p head x).fits, bytes_after head refl)

      at-manifest : check s ≡ inner (o.value, o.at)
      at-manifest = let (_, _, x) = opened in parts ∙ rw (le-leb _ _ fits, x)

      -- a refusal of the manifest
      pub check-bad : (d : Fault) → Err d ≡ body_of (manifest_at s (o.at + o.value) o.at) → check s ≡ refused d.refusal d.at
      unfolding inner
      check-bad d w = at-manifest ∙ rw (result-stopped body (manifest_at s (o.at + o.value) o.at) d w)

      module _ (b : Body) (w : Ok b ≡ body_of (manifest_at s (o.at + o.value) o.at)) where
        -- the manifest was read, and what follows it is tested
        tested : (m : Manifest × ℕ) × (manifest_at s (o.at + o.value) o.at ≡ got m) × (b ≡ body m) × (check s ≡ closed (o.at + o.value) m)
        unfolding inner
        tested =
            let (m, x, u) = result_went body (manifest_at s (o.at + o.value) o.at) b w in
            (m, x, u, at-manifest ∙ ap (λ (y : Got (Manifest × ℕ)). y >>= closed (o.at + o.value)) x)

        -- left-over bytes, in the manifest's byte string or after it
        pub check-left_over : (b.at ≡ o.at + o.value → ⊥) ⊎ ((b.at ≡ o.at + o.value) × (b.at ≡ length s → ⊥)) → check s ≡ refused NotCbor b.at
        check-left_over n =
            let (m, x, u, k) = tested in
            let at : b.at ≡ m.1 = ap (λ (z : Body). z.at) u in
            k ∙ rw (← at) (over m.0 n)
          where
            over : (m : Manifest) → (b.at ≡ o.at + o.value → ⊥) ⊎ ((b.at ≡ o.at + o.value) × (b.at ≡ length s → ⊥)) →
                (need (eqb b.at (o.at + o.value)) NotCbor b.at >>= λ _. need (eqb b.at (length s)) NotCbor b.at >>= λ _. got m) ≡ refused NotCbor b.at
            over m (inl y) = rw (ne_eqb _ _ y)
            over m (inr y) = rw (eq-eqb _ _ y.0, ne_eqb _ _ y.1)

        -- all is accepted
        pub check-good : b.at ≡ o.at + o.value → b.at ≡ length s →
            Ok (record {
              number = b.number;
              components = b.components;
              ids = b.ids;
              manifest = record { from = o.at; to = o.at + o.value };
              common = record { from = b.from; to = b.to };
              sections = b.sections;
            }) ≡ report_of (check s)
        check-good n l =
            let (m, x, u, k) = tested in
            let at : m.1 ≡ b.at = ap (λ (z : Body). z.at) (sym u) in
            let v : m.0.part ≡ span o.at (o.at + o.value) = manifest-part s (o.at + o.value) o.at m.0 m.1 x ∙ ap (span o.at) (at ∙ n) in
            let all : check s ≡ got m.0 = k ∙ rw (at, eq-eqb _ _ n, eq-eqb _ _ l) in
            rw all
            (λ j.
            Ok (record {
              number = (u j).number;
              components = (u j).components;
              ids = (u j).ids;
              manifest = place (sym v j);
              common = record { from = (u j).from; to = (u j).to };
              sections = (u j).sections;
            }))

-- the report, and the report in numbers
pub promised : (s : Bytes) (r : Result Report Fault) → r ≡ report_of (check s) → (r ≡ report_of (check s)) × (numbers_in r ≡ numbers_of (check s))
promised s r e = (e, ap numbers_in e ∙ go (check s))
  where
    go : (x : Got Manifest) → numbers_in (report_of x) ≡ numbers_of x
    go (refused k p) = refl
    go (got m) = refl

-- a refusal
pub refusal-promised : (s : Bytes) (d : Fault) → check s ≡ refused d.refusal d.at → (Err d ≡ report_of (check s)) × (numbers_in (Err d) ≡ numbers_of (check s))
refusal-promised s d e = promised s (Err d) (rw e)
