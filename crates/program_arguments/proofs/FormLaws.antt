-- The command that an argument makes, by the form of its row, and its code.
use Prim.Native.Nat.{ℕ}
use mathlib.Core.Path.{◌≡◌, refl, sym, ap, ◌∙◌}
use mathlib.Core.List.{[], ◌∷◌}
use mathlib.Core.Bool.{true}
use mathlib.Core.Option.{some}
use native.Mathlib.Omega.{arith}
use lib.Dec.{eqb}
use lib.ListN.{length}
use borrow.Author.Tests.{eqb-true}
use Rattle.rules.specs.declared.answers.Refusal.TheVariants.{BadProgram}
use Rattle.rules.specs.Bytes.{Bytes, same}
use Rattle.rules.specs.Commands.{Op, Params, Form, sixteen, nil, below, alternatives, parameters, sequence, Row, commands, row_of, code}
use Rattle.rules.specs.Got.{Got, got}
use Rattle.rules.specs.Limits.{limits}
use Rattle.rules.specs.ProgramTest.{params_in, op_in}
use Rattle.rules.proofs.GotLaws.{passed, split}
use Rattle.rules.proofs.TableLaws.{Each, each_row, ◌&◌}

value-is : {A : Type 0} (a b : A) → ◌≡◌ {A = Got A} (got a) (got b) → b ≡ a
value-is a b e = let f : a ≡ b = cc in sym f

none-same : (q : Bytes) → same q [] ≡ true → length q ≡ 0
none-same [] e = refl
none-same (x ∷ q) e = let z : ◌≡◌ {A = ℕ} 0 1 = cc in absurd (omega arith)

-- whatever the argument is, a command of the form has that code
abbrev Coded : ℕ → Form → Type 0
Coded c (sixteen make) = (b : Bytes) → code (make b) ≡ c
Coded c (nil make) = code make ≡ c
Coded c (below make) = (k : ℕ) → code (make k) ≡ c
Coded c alternatives = Unit {0}
Coded c (parameters make) = (x : Params) → code (make x) ≡ c
Coded c sequence = Unit {0}

-- in the order of the table
coded : Each (λ c r. Coded c r.form) commands
coded =
    (λ b. refl) & (λ b. refl) & refl & (λ k. refl) & refl & tt & (λ x. refl) & (λ x. refl) & refl & refl & refl & tt & refl & tt

module _ (n i : ℕ) (q : Bytes) (op : Op) where
  abbrev pub Reads : Form → Type 0
  Reads f = op_in n i f q ≡ got op

  pub sixteen-is : (make : Bytes → Op) → Reads (sixteen make) → (length q ≡ limits.class) × (op ≡ make q)
  unfolding op_in
  sixteen-is make e = let (t, e₁) = passed (eqb (length q) limits.class) BadProgram 0 _ op e in (eqb-true _ _ t, value-is _ _ e₁)

  pub nil_is : (make : Op) → Reads (nil make) → (length q ≡ 0) × (op ≡ make)
  unfolding op_in
  nil_is make e = let (t, e₁) = passed (same q []) BadProgram 0 _ op e in (none-same q t, value-is _ _ e₁)

  pub below-is : (make : ℕ → Op) → Reads (below make) → (length q ≡ 0) × (op ≡ make i)
  unfolding op_in
  below-is make e = let (t, e₁) = passed (same q []) BadProgram 0 _ op e in (none-same q t, value-is _ _ e₁)

  pub parameters-is : (make : Params → Op) → Reads (parameters make) → (ps : Params) × (params_in n q ≡ got ps) × (op ≡ make ps)
  unfolding op_in
  parameters-is make e = split _ (params_in n q) _ op e λ ps e₁ e₂. (ps, e₁, value-is _ _ e₂)

  pub no_try : Reads alternatives → ⊥
  unfolding op_in
  no_try e = let z : ◌≡◌ {A = ℕ} 0 1 = cc in omega arith

  pub no_sub : Reads sequence → ⊥
  unfolding op_in
  no_sub e = let z : ◌≡◌ {A = ℕ} 0 1 = cc in omega arith

  form-code : (c : ℕ) (f : Form) → Coded c f → Reads f → code op ≡ c
  form-code c (sixteen make) h e = ap code (sixteen-is make e).1 ∙ h q
  form-code c (nil make) h e = ap code (nil_is make e).1 ∙ h
  form-code c (below make) h e = ap code (below-is make e).1 ∙ h i
  form-code c alternatives h e = absurd (no_try e)
  form-code c (parameters make) h e = let (ps, _, s) = parameters-is make e in ap code s ∙ h ps
  form-code c sequence h e = absurd (no_sub e)

  -- the command that a row makes has the row's code
  pub op-code : (c : ℕ) (r : Row) → row_of c commands ≡ some r → Reads r.form → code op ≡ c
  op-code c r e = form-code c r.form (each_row (λ c r. Coded c r.form) commands c r coded e)
