-- What a record of a command may hold, by its row of the command table.
use Prim.Native.Nat.{ℕ, ◌-◌, ◌≤◌, ◌<◌}
use mathlib.Core.Path.{◌≡◌, refl, sym, ◌∙◌}
use mathlib.Core.List.{[], ◌∷◌}
use mathlib.Core.Bool.{Bool, true, false, cond, ◌&&◌, ◌||◌}
use mathlib.Core.Option.{some}
use native.Mathlib.Omega.{arith}
use lib.Dec.{eqb, ltb, leb}
use lib.ListN.{length}
use borrow.Author.Tests.{eq-eqb, ne_eqb, le-leb, lt-leb, eqb-true, eqb-false}
use Rattle.rules.specs.declared.answers.Group.{Group}
use Rattle.rules.specs.declared.answers.Group.TheVariants.{Install, Boot}
use Rattle.rules.specs.declared.tables.Argument.TheVariants.{Sixteen, Index, Parameters}
use Rattle.rules.specs.Bytes.{Bytes, part, same}
use Rattle.rules.specs.Commands.{Op, Params, is_condition, Form, sixteen, nil, below, alternatives, parameters, sequence, Row, row_of, commands}
use Rattle.rules.specs.Tables.{kind_of, set_of, argument_number}
use Rattle.rules.specs.Limits.{limits}
use Rattle.rules.specs.Got.{Got, refused, got, accepted}
use Rattle.rules.specs.Program.{target_of}
use Rattle.rules.specs.ProgramFormat.{NONE}
use Rattle.rules.specs.ProgramTest.{params_in, op_in, group_allows}
use Rattle.rules.proofs.TableLaws.{rows_agree}
use Rattle.program_arguments.specs.Arguments.{allows_in, target_fits}
use Rattle.program_parameters.proofs.PartLaws.{length_to}

-- the test by numbers is the rule's, for each row of the table
pub row_allows : (c : ℕ) (row : Row) (g : Group) → row_of c commands ≡ some row → allows_in g (set_of row.allowed) ≡ group_allows g row.allowed
row_allows c row Install r = rows_agree (λ x. allows_in Install (set_of x.allowed)) (λ x. group_allows Install x.allowed) c row refl r
row_allows c row Boot r = rows_agree (λ x. allows_in Boot (set_of x.allowed)) (λ x. group_allows Boot x.allowed) c row refl r

-- the rule's test of a target, by the table's column
pub targeted : (op : Op) (b : Bool) (target n total : ℕ) → is_condition op ≡ b →
    target_fits b target n total ≡ (eqb target NONE || eqb (target_of op target) target && (ltb n target && leb target total))
targeted op true target n total e = rw (e, eq-eqb target target refl)
targeted op false target n total e = go (eqb target NONE) refl
  where
    go : (x : Bool) → eqb target NONE ≡ x → target_fits false target n total ≡ (eqb target NONE || eqb (target_of op target) target && (ltb n target && leb target total))
    go true q = rw (q)
    go false q = rw (e, q, ne_eqb NONE target (λ z. eqb-false target NONE q (sym z)))

-- the test of an argument, by the number of its kind; a record has no alternatives and no sequence
abbrev tested : ℕ → Bytes → ℕ → Bool
tested n q k =
    cond (eqb k (argument_number Sixteen)) (eqb (length q) limits.class)
    (cond (leb k (argument_number Index)) (same q []) (cond (eqb k (argument_number Parameters)) (accepted (params_in n q)) false))

module _ (n i : ℕ) (q : Bytes) where
  form-tested : (f : Form) → tested n q (argument_number (kind_of f)) ≡ accepted (op_in n i f q)
  unfolding op_in
  form-tested (sixteen op) = go (eqb (length q) limits.class) refl
    where
      go : (b : Bool) → eqb (length q) limits.class ≡ b → b ≡ accepted (op_in n i (sixteen op) q)
      go true e = rw e
      go false e = rw e
  form-tested (nil op) = go (same q []) refl
    where
      go : (b : Bool) → same q [] ≡ b → b ≡ accepted (op_in n i (nil op) q)
      go true e = rw e
      go false e = rw e
  form-tested (below op) = go (same q []) refl
    where
      go : (b : Bool) → same q [] ≡ b → b ≡ accepted (op_in n i (below op) q)
      go true e = rw e
      go false e = rw e
  form-tested alternatives = refl
  form-tested (parameters op) = go (params_in n q) refl
    where
      go : (x : Got Params) → params_in n q ≡ x → accepted x ≡ accepted (op_in n i (parameters op) q)
      go (refused r p) e = rw e
      go (got a) e = rw e
  form-tested sequence = refl

  kind-tested : (f : Form) (k : ℕ) (b : Bool) → argument_number (kind_of f) ≡ k → b ≡ tested n q k → b ≡ accepted (op_in n i f q)
  kind-tested f k b e t = t ∙ (rw (← e) (form-tested f))

empty : (q : Bytes) → same q [] ≡ eqb (length q) 0
empty [] = refl
empty (x ∷ q) = sym (ne_eqb (length (x ∷ q)) 0 (λ e. omega arith))

-- by places
module _ (p : Bytes) (from to n : ℕ) (pre : (from ≤ to) × (to ≤ length p)) (k : ℕ) where
  size : length (part p from (to - from)) ≡ to - from
  size = length_to p from to pre.0 pre.1

  abbrev pub Right : Bool → Type 0
  Right b = (f : Form) (i : ℕ) → argument_number (kind_of f) ≡ k → b ≡ accepted (op_in n i f (part p from (to - from)))

  pub sixteen_right : k ≡ argument_number Sixteen → Right (eqb (to - from) limits.class)
  sixteen_right h f i e = kind-tested n i _ f k _ e (rw (eq-eqb _ _ h, size))

  pub none_right : 0 < k → k ≤ argument_number Index → Right (eqb to from)
  none_right d h f i e =
      let z : k ≡ argument_number Sixteen → ⊥ = λ q. omega arith in
      kind-tested n i _ f k _ e (rw (ne_eqb _ _ z, le-leb _ _ h, empty (part p from (to - from)), size) (go (eqb to from) refl))
    where
      go : (b : Bool) → eqb to from ≡ b → b ≡ eqb (to - from) 0
      go true q = sym (eq-eqb (to - from) 0 (omega (arith, eqb-true to from q)))
      go false q = sym (ne_eqb (to - from) 0 (λ z. eqb-false to from q (omega arith)))

  pub parameters_right : k ≡ argument_number Parameters → (b : Bool) → b ≡ accepted (params_in n (part p from (to - from))) → Right b
  parameters_right h b t f i e = kind-tested n i _ f k _ e (rw h t)

  pub other_right : argument_number Index < k → (k ≡ argument_number Parameters → ⊥) → Right false
  other_right o d f i e =
      let z : k ≡ argument_number Sixteen → ⊥ = λ q. omega arith in
      kind-tested n i _ f k _ e (rw (ne_eqb _ _ z, lt-leb _ _ o, ne_eqb _ _ d))
