-- The codes of each kind of argument. What holds of each row is one computed test over the table.
use Prim.Native.Nat.{ℕ, ◌≤◌, ◌<◌}
use mathlib.Core.Path.{◌≡◌, refl, sym, subst, ◌∙◌}
use mathlib.Core.List.{List, [], ◌∷◌}
use mathlib.Core.Bool.{Bool, true, false, not, ◌||◌, true≢false}
use mathlib.Core.Logic.{◌⊎◌, inl, inr}
use mathlib.Core.Option.{Option, some, none}
use native.Mathlib.Omega.{arith}
use lib.Dec.{eqb}
use borrow.Author.Tests.{eqb-true}
use Rattle.rules.specs.declared.tables.Argument.{Argument}
use Rattle.rules.specs.declared.tables.Argument.TheVariants.{Sixteen, Nil, Index, Alternatives, Parameters, Sequence}
use Rattle.rules.specs.Commands.{Row, commands, row_of, among, vendor_code, class_code, set_parameters_code, override_code}
use Rattle.rules.specs.Tables as Tables
use Rattle.rules.proofs.TableLaws.{rows_agree, Each, each_row}
use Rattle.rules_kinds.specs.Kinds.{kind_of}

-- the codes with sixteen bytes, those with parameters, and neither
abbrev sixteens : List ℕ
sixteens = vendor_code ∷ class_code ∷ []

abbrev parameterised : List ℕ
parameterised = set_parameters_code ∷ override_code ∷ []

abbrev pub Other : ℕ → Type 0
Other c = (vendor_code ≤ c → class_code < c) × (set_parameters_code ≤ c → override_code < c)

abbrev other : ℕ → Bool
other c = not (among c sixteens || among c parameterised)

abbrev test : ℕ → Argument → Bool
test c Sixteen = among c sixteens
test c Nil = other c
test c Index = other c
test c Alternatives = other c
test c Parameters = among c parameterised
test c Sequence = other c

-- the row of a code has that code
numbered : (rs : List Row) → Each (λ c r. r.number ≡ c) rs
numbered [] = tt
numbered (r ∷ rs) = (refl, numbered rs)

row_number : (c : ℕ) (r : Row) → row_of c commands ≡ some r → r.number ≡ c
row_number c r e = each_row (λ c r. r.number ≡ c) commands c r (numbered commands) e

-- each row's kind fits its code; a code without a row is none of those
tested : (c : ℕ) → test c (kind_of c) ≡ true
unfolding kind_of
tested c = go (row_of c commands) refl
  where
    not_listed : (k : ℕ) (r : Row) → row_of k commands ≡ some r → row_of c commands ≡ none → eqb c k ≡ false
    not_listed k r e h = split (eqb c k) refl
      where
        split : (b : Bool) → eqb c k ≡ b → eqb c k ≡ false
        split true q = let s : row_of k commands ≡ none = subst (λ (x : ℕ). row_of x commands ≡ none) (eqb-true c k q) h in let z : ◌≡◌ {A = ℕ} 0 1 = cc in absurd (omega arith)
        split false q = q

    go : (o : Option Row) → row_of c commands ≡ o → test c (kind_of c) ≡ true
    go (some r) e =
        let f : test r.number (Tables.kind_of r.form) ≡ true = rows_agree (λ x. test x.number (Tables.kind_of x.form)) (λ x. true) c r refl e in
        rw e (subst (λ (k : ℕ). test k (Tables.kind_of r.form) ≡ true) (row_number c r e) f)
    go none e = rw (e, not_listed vendor_code _ refl e, not_listed class_code _ refl e, not_listed set_parameters_code _ refl e, not_listed override_code _ refl e)

either : (c j k : ℕ) → among c (j ∷ k ∷ []) ≡ true → (c ≡ j) ⊎ (c ≡ k)
either c j k e = go (eqb c j) (eqb c k) refl refl e
  where
    go : (a b : Bool) → eqb c j ≡ a → eqb c k ≡ b → (a || (b || false)) ≡ true → (c ≡ j) ⊎ (c ≡ k)
    go true b p q h = inl (eqb-true c j p)
    go false true p q h = inr (eqb-true c k q)
    go false false p q h = absurd (true≢false (sym h))

neither : (c : ℕ) → other c ≡ true → Other c
neither c h = (
  λ l. omega (arith, is-not vendor_code (λ e. rw e), is-not class_code (λ e. rw e)),
  λ l. omega (arith, is-not set_parameters_code (λ e. rw e), is-not override_code (λ e. rw e)),
)
  where
    is-not : (k : ℕ) → (c ≡ k → other c ≡ false) → c ≡ k → ⊥
    is-not k f e = true≢false (sym h ∙ f e)

module _ (c : ℕ) where
  pub sixteen-codes : kind_of c ≡ Sixteen → (c ≡ vendor_code) ⊎ (c ≡ class_code)
  sixteen-codes e = either c vendor_code class_code (rw e at (tested c))

  pub parameter-codes : kind_of c ≡ Parameters → (c ≡ set_parameters_code) ⊎ (c ≡ override_code)
  parameter-codes e = either c set_parameters_code override_code (rw e at (tested c))

  pub nil-codes : kind_of c ≡ Nil → Other c
  nil-codes e = neither c (rw e at (tested c))

  pub index-codes : kind_of c ≡ Index → Other c
  index-codes e = neither c (rw e at (tested c))

  pub alternative_codes : kind_of c ≡ Alternatives → Other c
  alternative_codes e = neither c (rw e at (tested c))

  pub sequence-codes : kind_of c ≡ Sequence → Other c
  sequence-codes e = neither c (rw e at (tested c))
