-- What an accepted set or override tells of its parameters.
use Prim.Native.Nat.{ℕ, zero, suc, ◌+◌, ◌*◌, ◌≤◌, ◌<◌}
use mathlib.Core.Path.{◌≡◌}
use mathlib.Core.Option.{some, none}
use native.Mathlib.Omega.{arith}
use lib.Dec.{ltb, leb}
use lib.ListN.{length}
use borrow.Author.Tests.{ltb-true}
use Rattle.rules.specs.declared.tables.Parameter.{Parameter}
use Rattle.rules.specs.declared.tables.Parameter.TheVariants.{Coerce, Uri, Source, Digest, Size}
use Rattle.rules.specs.declared.answers.Refusal.TheVariants.{Malformed, NoSuchComponent, UnknownParameter}
use Rattle.rules.specs.Limits.{limits}
use Rattle.rules.specs.Bytes.{Bytes, part}
use Rattle.rules.specs.Got.{got, found}
use Rattle.rules.specs.Cbor.{BYTES, TEXT, FALSE, TRUE, after, item, one_of}
use Rattle.rules.specs.Commands.{or_else, over, params, param_of}
use Rattle.rules.specs.Check.{Given, give, number, parameter, entries}
use Rattle.rules.proofs.GotLaws.{bound, passed, both}
use Rattle.rules.proofs.BytesLaws.{length_part}
use Rattle.rules.proofs.CheckLaws.{text-after, bytes_after, one_of_law, Item, item_law, number_law}
use Rattle.rules_theorems.proofs.OpLaws.{growth, Fit, no_some, some_is, fit-unset, fit-over, weight, weight_is, weight-over}

module _ (s : Bytes) where
  pub record Param (n e at : ℕ) (v : Given) (q : ℕ) : Type 0 where
    pub up : at < q
    pub fits : q ≤ e
    pub fit : Fit n v.params
    pub light : weight v.params + at ≤ q + growth

  parameter_law : (n : ℕ) (k : Parameter) (e at : ℕ) (v : Given) (q : ℕ) → e ≤ length s → parameter s n k e at ≡ got (v, q) → Param n e at v q
  unfolding parameter
  parameter_law n Coerce e at v q l q₀ =
      let (h, qh, q₁) = bound (one_of FALSE TRUE s e at) _ (v, q) q₀ in
      let (u, m, f) = one_of_law s FALSE TRUE e at h qh in
      let (ev, eq) = both q₁ in
      rw (← ev) (record { up = omega arith; fits = omega arith; fit = fit-unset n; light = omega arith })
  parameter_law n Uri e at v q l q₀ =
      let (h, qh, q₁) = bound (item TEXT 1 limits.uri s e at) _ (v, q) q₀ in
      let i : Item s TEXT 1 limits.uri e at h = item_law s TEXT 1 limits.uri e at h qh in
      let (ev, eq) = both q₁ in
      let m : after h ≡ h.next + h.num = text-after h i.is in
      let x : Bytes = part s h.next h.num in
      let j : length x ≡ h.num = length_part s h.next h.num (omega arith) in
      let w = weight_is (give none (some x) none none none).params in
      rw (← ev)
      (record {
        up = omega arith;
        fits = omega arith;
        light = omega arith;
        fit =
            record {
              uri = λ y e'. some_is (λ y. (1 ≤ length y) × (length y ≤ limits.uri)) (omega arith, omega arith) e';
              source = λ y e'. no_some _ y e';
              digest = λ y e'. no_some _ y e';
              size = λ y e'. no_some _ y e';
            };
      })
  parameter_law n Source e at v q l q₀ =
      let (r, qr, q₁) = bound (number s e at) _ (v, q) q₀ in
      let (u, f, k) = number_law s e at r.0 r.1 qr in
      let (t, q₂) = passed (ltb r.0 n) NoSuchComponent at _ (v, q) q₁ in
      let (ev, eq) = both q₂ in
      let b : r.0 < n = ltb-true _ _ t in
      rw (← ev)
      (record {
        up = omega arith;
        fits = omega arith;
        light = omega arith;
        fit =
            record { uri = λ x e'. no_some _ x e'; source = λ x e'. some_is (λ y. y < n) b e'; digest = λ x e'. no_some _ x e'; size = λ x e'. no_some _ x e' };
      })
  parameter_law n Digest e at v q l q₀ =
      let (h, qh, q₁) = bound (item BYTES limits.digest limits.digest s e at) _ (v, q) q₀ in
      let i : Item s BYTES limits.digest limits.digest e at h = item_law s BYTES limits.digest limits.digest e at h qh in
      let (ev, eq) = both q₁ in
      let m : after h ≡ h.next + h.num = bytes_after h i.is in
      let x : Bytes = part s h.next limits.digest in
      let j : length x ≡ limits.digest = length_part s h.next limits.digest (omega arith) in
      let w = weight_is (give none none none (some x) none).params in
      rw (← ev)
      (record {
        up = omega arith;
        fits = omega arith;
        light = omega arith;
        fit =
            record {
              uri = λ y e'. no_some _ y e';
              source = λ y e'. no_some _ y e';
              digest = λ y e'. some_is (λ y. length y ≡ limits.digest) j e';
              size = λ y e'. no_some _ y e';
            };
      })
  parameter_law n Size e at v q l q₀ =
      let (r, qr, q₁) = bound (number s e at) _ (v, q) q₀ in
      let (u, f, k) = number_law s e at r.0 r.1 qr in
      let (ev, eq) = both q₁ in
      rw (← ev)
      (record {
        up = omega arith;
        fits = omega arith;
        light = omega arith;
        fit =
            record { uri = λ x e'. no_some _ x e'; source = λ x e'. no_some _ x e'; digest = λ x e'. no_some _ x e'; size = λ x e'. some_is (λ y. y ≤ limits.largest) (omega arith) e' };
      })

  pub record Entries (n k e at : ℕ) (g v : Given) (q : ℕ) : Type 0 where
    pub up : at ≤ q
    pub fits : q ≤ e
    pub fit : Fit n v.params
    pub light : weight v.params + at ≤ q + growth * k + weight g.params

  pub entries_law : (n k low : ℕ) (g : Given) (e at : ℕ) (v : Given) (q : ℕ) → e ≤ length s → at ≤ e → Fit n g.params →
      entries s n k low g e at ≡ got (v, q) → Entries n k e at g v q
  unfolding entries
  entries_law n zero low g e at v q l u f q₀ =
      let (ev, eq) = both q₀ in
      rw (← ev) (record { up = omega arith; fits = omega arith; fit = f; light = omega arith })
  entries_law n (suc k) low g e at v q l u f q₀ =
      let (r, qr, q₁) = bound (number s e at) _ (v, q) q₀ in
      let (u₁, f₁, _) = number_law s e at r.0 r.1 qr in
      let (_, q₂) = passed (leb low r.0) Malformed at _ (v, q) q₁ in
      let (key, qk, q₃) = bound (found (param_of r.0 params) UnknownParameter at) _ (v, q) q₂ in
      let (w, qw, q₄) = bound (parameter s n key e r.1) _ (v, q) q₃ in
      let p : Param n e r.1 w.0 w.1 = parameter_law n key e r.1 w.0 w.1 l qw in
      let g' : Given = record { coerce = or_else w.0.coerce g.coerce; params = over w.0.params g.params } in
      let z : Entries n k e w.1 g' v q =
      entries_law n k (r.0 + 1) g' e w.1 v q l p.fits (fit-over n w.0.params g.params p.fit f) q₄ in
      let h : weight (over w.0.params g.params) ≤ weight w.0.params + weight g.params = weight-over w.0.params g.params in
      record { up = omega (arith, z.up, p.up); fits = z.fits; fit = z.fit; light = omega (arith, z.light, p.light, p.up) }
