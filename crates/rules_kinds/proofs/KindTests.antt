-- The codes of an index, of a sequence and of alternatives, and those with no argument.
use Prim.Native.Nat.{ℕ, ◌≤◌, ◌<◌}
use mathlib.Core.Path.{◌≡◌, refl, sym, ◌∙◌}
use mathlib.Core.List.{List, [], ◌∷◌}
use mathlib.Core.Bool.{Bool, true, false, cond}
use native.Mathlib.Omega.{arith}
use lib.Dec.{eqb, leb}
use borrow.Author.Tests.{ne_eqb, eqb-true, eqb-false, leb-true, leb-false}
use Rattle.rules.specs.declared.tables.Argument.{Argument}
use Rattle.rules.specs.declared.tables.Argument.TheVariants.{Sixteen, Nil, Index, Alternatives, Parameters, Sequence}
use Rattle.rules.specs.Commands.{commands, among, vendor_code, class_code, set_index_code, try_each_code, set_parameters_code, override_code, run_sequence_code}
use Rattle.rules.specs.Tables.{codes, values}
use Rattle.rules_lookup.proofs.LookUpLaws.{agree, no_row}
use Rattle.rules_kinds.specs.Kinds.{kind_of}
use Rattle.rules_kinds.specs.Kinds.{is_sequence, is_alternatives}

pub on : {A : Type 0} (c k : ℕ) → (c ≡ k → A) → ((c ≡ k → ⊥) → A) → A
on {A} c k p q = go (eqb c k) refl
  where
    go : (b : Bool) → eqb c k ≡ b → A
    go true e = p (eqb-true c k e)
    go false e = q (eqb-false c k e)

-- the kind of one code alone: a computed test over the codes of the table; above them nothing is listed
one_code : (p : Argument → Bool) (k : ℕ) → p Nil ≡ false → k < codes → values (λ c. p (kind_of c)) codes ≡ values (λ c. eqb c k) codes →
    (c : ℕ) → p (kind_of c) ≡ eqb c k
unfolding kind_of
one_code p k n l v c = go (leb codes c) refl
  where
    go : (b : Bool) → leb codes c ≡ b → p (kind_of c) ≡ eqb c k
    go true q = let u : codes ≤ c = leb-true codes c q in rw (no_row codes commands c refl u, ne_eqb c k (λ z. omega arith)) n
    go false q = agree (λ c. p (kind_of c)) (λ c. eqb c k) codes c v (leb-false codes c q)

abbrev is_index : Argument → Bool
is_index Sixteen = false
is_index Nil = false
is_index Index = true
is_index Alternatives = false
is_index Parameters = false
is_index Sequence = false

module _ (c : ℕ) where
  index-told : is_index (kind_of c) ≡ eqb c set_index_code
  unfolding kind_of
  index-told = one_code is_index set_index_code refl (omega arith) refl c

  sequence-told : is_sequence (kind_of c) ≡ eqb c run_sequence_code
  unfolding kind_of
  sequence-told = one_code is_sequence run_sequence_code refl (omega arith) refl c

  alternatives-told : is_alternatives (kind_of c) ≡ eqb c try_each_code
  unfolding kind_of
  alternatives-told = one_code is_alternatives try_each_code refl (omega arith) refl c

  pub index-code : kind_of c ≡ Index → c ≡ set_index_code
  index-code e = eqb-true c set_index_code (sym index-told ∙ rw e)

  pub no_index : is_index (kind_of c) ≡ false → c ≡ set_index_code → ⊥
  no_index e = eqb-false c set_index_code (sym index-told ∙ e)

-- a code of none of the other kinds has no argument
module _ (c : ℕ) where
  abbrev argued : List ℕ
  argued = vendor_code ∷ class_code ∷ set_index_code ∷ try_each_code ∷ set_parameters_code ∷ override_code ∷ run_sequence_code ∷ []

  unargued : among c argued ≡ false → kind_of c ≡ Nil
  unfolding kind_of
  unargued h = go (leb codes c) refl
    where
      go : (b : Bool) → leb codes c ≡ b → kind_of c ≡ Nil
      go true q = rw (no_row codes commands c refl (leb-true codes c q))
      go false q = rw h at (agree (λ k. cond (among k argued) Nil (kind_of k)) (λ k. Nil) codes c refl (leb-false codes c q))

  pub no_argument :
      (c ≡ vendor_code → ⊥) → (c ≡ class_code → ⊥) → (c ≡ set_index_code → ⊥) → (c ≡ try_each_code → ⊥) → (c ≡ set_parameters_code → ⊥) →
      (c ≡ override_code → ⊥) → (c ≡ run_sequence_code → ⊥) → Nil ≡ kind_of c
  no_argument v k i t p o r =
      sym (unargued (rw (ne_eqb _ _ v, ne_eqb _ _ k, ne_eqb _ _ i, ne_eqb _ _ t, ne_eqb _ _ p, ne_eqb _ _ o, ne_eqb _ _ r) refl))

-- of the code c, whose kind is k
module _ (c : ℕ) (k : Argument) (e : k ≡ kind_of c) (b : Bool) where
  pub runs : b ≡ is_sequence k → b ≡ true → c ≡ run_sequence_code
  runs q t = eqb-true c run_sequence_code (sym (sequence-told c) ∙ rw (← e) (sym q ∙ t))

  pub runs-not : b ≡ is_sequence k → b ≡ false → c ≡ run_sequence_code → ⊥
  runs-not q t = eqb-false c run_sequence_code (sym (sequence-told c) ∙ rw (← e) (sym q ∙ t))

  pub tries : b ≡ is_alternatives k → b ≡ true → c ≡ try_each_code
  tries q t = eqb-true c try_each_code (sym (alternatives-told c) ∙ rw (← e) (sym q ∙ t))

  pub tries_not : b ≡ is_alternatives k → b ≡ false → c ≡ try_each_code → ⊥
  tries_not q t = eqb-false c try_each_code (sym (alternatives-told c) ∙ rw (← e) (sym q ∙ t))
