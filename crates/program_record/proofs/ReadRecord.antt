-- A record that the program test has read, by its bytes.
use Prim.Native.Nat.{ℕ, ◌+◌, ◌≤◌, ◌<◌}
use mathlib.Core.Path.{◌≡◌, refl, sym, ◌∙◌}
use mathlib.Core.Bool.{Bool, true, false, ◌&&◌, ◌||◌}
use mathlib.Core.Option.{some}
use native.Mathlib.Omega.{arith}
use lib.Dec.{ltb, leb, eqb}
use lib.ListN.{length, get_or, take, drop}
use borrow.Author.Tests.{leb-true, ltb-true, eqb-true, eq-eqb}
use Rattle.rules.specs.declared.answers.Group.{Group}
use Rattle.rules.specs.declared.answers.Refusal.TheVariants.{BadProgram}
use Rattle.rules.specs.Bytes.{Bytes, part, num, same}
use Rattle.rules.specs.Commands.{Op, Row, row_of, commands}
use Rattle.rules.specs.Got.{Got, got, found}
use Rattle.rules.specs.Program.{Rec, does, jump, target_of}
use Rattle.rules.specs.ProgramFormat.{mark, JUMP, NONE, code_from, component_from, place_from, target_from, argument_from, record_size}
use Rattle.rules.specs.ProgramTest.{op_in, group_allows, record_in}
use Rattle.rules.proofs.GotLaws.{and-true, passed, split, both, found-is}

pick : {A : Type 0} (C : Type 0) (b : Bool) (x y : Got A) (v : A) → (elim b as (λ _. Got A) [ true ↦ x | false ↦ y ]) ≡ got v →
    (b ≡ true → x ≡ got v → C) → (b ≡ false → y ≡ got v → C) → C
pick C true x y v e f g = f refl e
pick C false x y v e f g = g refl e

or_left : (a b : Bool) → (a || b) ≡ true → (a ≡ true → ⊥) → b ≡ true
or_left true b e n = absurd (n refl)
or_left false b e n = e

module _ (g : Group) (comps total n : ℕ) where
  -- a jump, and a command, from the numbers in a record and the bytes of its argument
  pub record Jumps (r : Rec) (target size : ℕ) : Type 0 where
    pub is : r ≡ jump target
    pub none : size ≡ 0
    pub forward : n < target
    pub within : target ≤ total

  pub record Commands (r : Rec) (code i place target : ℕ) (argument : Bytes) : Type 0 where
    pub row : Row
    pub listed : row_of code commands ≡ some row
    pub inside : i < comps
    pub op : Op
    pub reads : op_in comps i row.form argument ≡ got op
    pub is : r ≡ does op i place target
    pub aims : (target ≡ NONE → ⊥) → (n < target) × (target ≤ total)

  -- a record of that code
  pub record Kind (r : Rec) (code i place target size : ℕ) (argument : Bytes) : Type 0 where
    pub jumps : code ≡ JUMP → Jumps r target size
    pub does : (code ≡ JUMP → ⊥) → Commands r code i place target argument

  abbrev pub Read : Bytes → Rec → Bytes → Type 0
  Read p r q =
      (record_size + num (part p argument_from 2) ≤ length p) × (q ≡ drop (num (part p argument_from 2)) (drop record_size p))
      × Kind r (get_or p code_from 0) (get_or p component_from 0) (num (part p place_from 2)) (num (part p target_from 2)) (num (part p argument_from 2)) (part p record_size (num (part p argument_from 2)))

  pub record_read : (p : Bytes) (r : Rec) (q : Bytes) → record_in g comps total n p ≡ got (r, q) → Read p r q
  unfolding record_in
  record_read p r q q₀ =
      let i : ℕ = get_or p component_from 0 in
      let place : ℕ = num (part p place_from 2) in
      let target : ℕ = num (part p target_from 2) in
      let len : ℕ = num (part p argument_from 2) in
      let forward : Bool = ltb n target && leb target total in
      let (_, q₁) = passed (leb record_size (length p) && same (take 2 p) mark) BadProgram 0 _ (r, q) q₀ in
      let (f, q₂) = passed (leb (record_size + len) (length p)) BadProgram 0 _ (r, q) q₁ in
      pick (Read p r q) (eqb (get_or p code_from 0) JUMP) _ _ (r, q) q₂
      (λ c q₃.
      let (t, q₄) = passed (eqb i 0 && eqb place 0 && eqb len 0 && forward) BadProgram 0 _ (r, q) q₃ in
      let (t₁, w) = and-true (eqb i 0 && eqb place 0 && eqb len 0) forward t in
      let (t₂, z) = and-true (eqb i 0 && eqb place 0) (eqb len 0) t₁ in
      let (u, v) = and-true (ltb n target) (leb target total) w in
      let (er, eq) = both q₄ in (
        leb-true _ _ f,
        sym eq,
        record {
          jumps = λ k. record { is = sym er; none = eqb-true _ _ z; forward = ltb-true _ _ u; within = leb-true _ _ v };
          does = λ k. absurd (k (eqb-true _ _ c));
        },
      ))
      (λ c q₃.
      split _ (found (row_of (get_or p code_from 0) commands) BadProgram 0) _ (r, q) q₃ λ row qr q₄.
      let (_, q₅) = passed (group_allows g row.allowed) BadProgram 0 _ (r, q) q₄ in
      let (b, q₆) = passed (ltb i comps) BadProgram 0 _ (r, q) q₅ in
      split _ (op_in comps i row.form (part p record_size len)) _ (r, q) q₆ λ op qo q₇.
      let (a, q₈) = passed (eqb target NONE || eqb (target_of op target) target && forward) BadProgram 0 _ (r, q) q₇ in
      let (er, eq) = both q₈ in (
        leb-true _ _ f,
        sym eq,
        record {
          jumps = λ k. let z : ◌≡◌ {A = Bool} true false = sym (eq-eqb _ _ k) ∙ c in absurd (let y : ◌≡◌ {A = ℕ} 0 1 = cc in omega arith);
          does = λ k.
              record {
                row = row;
                listed = found-is _ BadProgram 0 row qr;
                inside = ltb-true _ _ b;
                op = op;
                reads = qo;
                is = sym er;
                aims = λ m.
                    let w = or_left (eqb target NONE) (eqb (target_of op target) target && forward) a (λ e. m (eqb-true _ _ e)) in
                    let (_, w') = and-true (eqb (target_of op target) target) forward w in
                    let (u, v) = and-true (ltb n target) (leb target total) w' in
                    (ltb-true _ _ u, leb-true _ _ v);
              };
        },
      ))
