-- What the proofs of the look-ups lean on. What holds of a whole table is one computed test.
use Prim.Native.Nat.{ℕ, zero, suc, ◌+◌, ◌≤◌, ◌<◌}
use mathlib.Core.Path.{◌≡◌, refl}
use mathlib.Core.List.{List, [], ◌∷◌, head-eq_of_cons-eq, tail-eq_of_cons-eq}
use mathlib.Core.Bool.{true, cond}
use mathlib.Core.Option.{none}
use native.Mathlib.Nat.{le_of_suc-le-suc, not-suc-le-zero}
use native.Mathlib.Omega.{arith}
use borrow.Author.Tests.{ltb-true, ne_eqb}
use lib.Dec.{eqb, ltb}
use lib.ListN.{get_or}
use Rattle.std.specs.Prelude as Rust
use Rattle.rules.specs.declared.tables.Command.{Command}
use Rattle.rules.specs.Commands.{Row, commands, row_of, ParamRow, params, param_of}
use Rattle.rules.specs.Tables.{listed, known, argument_at, known_at, values, codes, keys, table_of, by_number}
use Rattle.rules.proofs.TableLaws.{both}
use Rattle.rules_tables.proofs.StoreLaws.{within}
use Rattle.rules_lookup.specs.declared.Entry.{Entry}
use Rattle.rules_lookup.specs.Entry.{unpacked, entry_of}

module _ {A : Type 0} where
  -- two rules that give the same list of n values, at one of the n
  pub agree : (f g : ℕ → A) (n i : ℕ) → values f n ≡ values g n → i < n → f i ≡ g i
  agree f g zero i e h = absurd (not-suc-le-zero h)
  agree f g (suc n) zero e h = head-eq_of_cons-eq e
  agree f g (suc n) (suc i) e h = agree (λ k. f (suc k)) (λ k. g (suc k)) n i (tail-eq_of_cons-eq e) (le_of_suc-le-suc h)

pub entry_at : (t : List ℕ) (c : ℕ) → t ≡ by_number → c < codes → unpacked (get_or t c 0) ≡ entry_of (row_of c commands)
unfolding table_of by_number
entry_at t c e h = rw e (agree (λ k. unpacked (get_or by_number k 0)) (λ k. entry_of (row_of k commands)) codes c refl h)

-- the command of code c, from its entry
abbrev asked : ℕ → Entry → Rust.Option Command
asked c e = Rust.Some (record { code = c; condition = e.condition; argument = argument_at e.kind; sections = e.sections })

abbrev pub told : ℕ → ℕ → Rust.Option Command
told c e = cond (eqb e 0) Rust.None (asked c (unpacked e))

pub listed_at : (t : List ℕ) (c : ℕ) → t ≡ by_number → c < codes → told c (get_or t c 0) ≡ listed (row_of c commands)
unfolding table_of by_number
listed_at t c e h = rw e (agree (λ k. told k (get_or by_number k 0)) (λ k. listed (row_of k commands)) codes c refl h)

pub known-at : (t : List ℕ) (k : ℕ) → t ≡ by_number → k < keys → known_at (get_or t (codes + k) 0) ≡ known (param_of k params)
unfolding table_of by_number
known-at t k e h = rw e (agree (λ k. known_at (get_or by_number (codes + k) 0)) (λ k. known (param_of k params)) keys k refl h)

-- a number that is not below n is in no table within n
pub no_row : (n : ℕ) (rs : List Row) (c : ℕ) → within (λ r. r.number) n rs ≡ true → n ≤ c → row_of c rs ≡ none
no_row n [] c t h = refl
no_row n (r ∷ rs) c t h =
    let (b, bs) = both (λ x. ltb x.number n) r rs t in
    rw (ne_eqb c r.number (λ e. omega (arith, ltb-true r.number n b)), row_of) (no_row n rs c bs h)

pub no_param : (n : ℕ) (rs : List ParamRow) (c : ℕ) → within (λ r. r.number) n rs ≡ true → n ≤ c → param_of c rs ≡ none
no_param n [] c t h = refl
no_param n (r ∷ rs) c t h =
    let (b, bs) = both (λ x. ltb x.number n) r rs t in
    rw (ne_eqb c r.number (λ e. omega (arith, ltb-true r.number n b)), param_of) (no_param n rs c bs h)
