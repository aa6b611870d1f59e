-- The first record at a place, as the program test read it, and those after it.
use Prim.Native.Nat.{ℕ, suc, ◌+◌, ◌-◌, ◌≤◌, ◌<◌}
use mathlib.Core.Path.{◌≡◌, sym, ap, ◌∙◌}
use mathlib.Core.List.{[], ◌∷◌}
use native.Mathlib.Omega.{arith}
use lib.ListN.{length, get_or, drop, length-drop}
use lib.Seq.{get_or-drop, drop-drop}
use Rattle.rules.specs.declared.answers.Group.{Group}
use Rattle.rules.specs.Bytes.{Bytes, part, num, two_at}
use Rattle.rules.specs.Got.{got}
use Rattle.rules.specs.Program.{Rec}
use Rattle.rules.specs.ProgramFormat.{code_from, component_from, place_from, target_from, argument_from, record_size}
use Rattle.rules.specs.ProgramTest.{record_in, records_in}
use Rattle.rules.proofs.BytesLaws.{num_2}
use Rattle.rules.proofs.GotLaws.{split₂, both}
use Rattle.program_jump.specs.Jump.{RecordsAt}
use Rattle.program_parameters.proofs.PartLaws.{part-drop}
use Rattle.program_record.proofs.ReadRecord.{Kind, record_read}

module _ (p : Bytes) (g : Group) (comps total n at : ℕ) where
  abbrev KindAt : Rec → Type 0
  KindAt r =
      Kind g comps total n r (get_or p (at + code_from) 0) (get_or p (at + component_from) 0) (two_at p (at + place_from)) (two_at p (at + target_from)) (two_at p (at + argument_from))
      (part p (at + record_size) (two_at p (at + argument_from)))

  number-here : (k : ℕ) → at + k + 2 ≤ length p → num (part (drop at p) k 2) ≡ two_at p (at + k)
  number-here k h = ap num (part-drop p at k 2) ∙ num_2 p (at + k) h

  kind-here : (r : Rec) (q : Bytes) → record_in g comps total n (drop at p) ≡ got (r, q) →
      (at + record_size + two_at p (at + argument_from) ≤ length p) × (q ≡ drop (at + record_size + two_at p (at + argument_from)) p) × KindAt r
  kind-here r q e =
      let (f, k, w) = record_read g comps total n (drop at p) r q e in
      let d : length (drop at p) ≡ length p - at = length-drop at p in
      let e₄ = number-here place_from (omega arith) in
      let e₆ = number-here target_from (omega arith) in
      let e₈ = number-here argument_from (omega arith) in
      let k' : q ≡ drop (at + record_size + two_at p (at + argument_from)) p = k ∙ rw (e₈, drop-drop record_size at p, drop-drop (two_at p (at + argument_from)) (at + record_size) p) in
      let w' = rw (get_or-drop at p code_from 0, get_or-drop at p component_from 0, e₄, e₆, e₈, part-drop p at record_size (two_at p (at + argument_from))) at w in
      (omega (arith, e₈), k', w')

  -- the first of the records at a place, and the others
  pub record First (x : RecordsAt p g comps total n at) : Type 0 where
    pub first : Rec
    pub room : at + record_size + two_at p (at + argument_from) ≤ length p
    pub kind : KindAt first
    pub others : RecordsAt p g comps total (n + 1) (at + record_size + two_at p (at + argument_from))
    pub records : x.records ≡ first ∷ others.records

  pub first_of : (x : RecordsAt p g comps total n at) → n < total → First x
  unfolding records_in
  first_of x l =
      let k : total - n ≡ suc (total - (n + 1)) = omega arith in
      let q₀ : records_in g comps total (suc (total - (n + 1))) n (drop at p) ≡ got (x.records, []) = rw k at x.reads in
      split₂ _ (record_in g comps total n (drop at p)) _ (x.records, []) q₀ λ r q qr q₁.
      split₂ _ (records_in g comps total (total - (n + 1)) (n + 1) q) _ (x.records, []) q₁ λ rs q' qs q₂.
      let (er, eq) = both q₂ in
      let (f, e, w) = kind-here r q qr in
      record {
        first = r;
        room = f;
        kind = w;
        others = record { records = rs; below = omega arith; fits = f; reads = rw (← e, ← eq) qs };
        records = sym er;
      }

  pub none_left : (x : RecordsAt p g comps total n at) → n ≡ total → x.records ≡ []
  unfolding records_in
  none_left x e =
      let z : total - n ≡ 0 = omega arith in
      let q : records_in g comps total 0 n (drop at p) ≡ got (x.records, []) = rw z at x.reads in
      sym (both q).0
