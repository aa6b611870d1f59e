-- The start of a command, read by its places, ends where the rule of check ends it.
use Prim.Native.Nat.{ℕ, ◌+◌, ◌/◌, ◌%◌, ◌≤◌, ◌<◌}
use mathlib.Core.Path.{◌≡◌, sym, ap, ◌∙◌}
use mathlib.Core.Bool.{true, false}
use mathlib.Core.Option.{some}
use native.Mathlib.Omega.{arith}
use lib.Dec.{leb, eqb}
use borrow.Author.Tests.{lt-leb, le-leb, leb-true}
use Rattle.rules.specs.declared.answers.Refusal.TheVariants.{UnknownCommand, NotAllowed, TooManyCommands}
use Rattle.rules.specs.declared.tables.Command.{Command}
use Rattle.std.specs.Prelude.{Some, None, Result, Err}
use Rattle.rules.specs.Limits.{limits}
use Rattle.rules.specs.Bytes.{Bytes}
use Rattle.rules.specs.Got.{refused, got, found}
use Rattle.rules.specs.Commands.{Row, commands, row_of, is_allowed}
use Rattle.rules.specs.Tables.{kind_of, weight_of, as_command, listed}
use Rattle.rules.specs.Check.{number}
use Rattle.rules.proofs.GotLaws.{passed, split, split₂}
use Rattle.rules.proofs.CheckLaws.{number_law}
use Rattle.rules.proofs.TableLaws.{allowed_bit, listed-some, listed-none}
use Rattle.cbor_reading.specs.Reading.{fault, reading}
use Rattle.cbor_reading.specs.declared.Reading.{Reading}
use Rattle.rules.specs.declared.answers.Fault.{Fault}
use Rattle.check_argument.specs.Argument.{argument_start}
use Rattle.check_argument.proofs.ArgumentLaws.{argument_forth}
use Rattle.check_command.specs.Command.{command_start, Section}

-- the start of a command, by the tests in their order
module _ (s : Bytes) (n section wt m e at : ℕ) where
  pub start_stop : (f : Fault) → number s e at ≡ refused f.refusal f.at → Err f ≡ reading (λ k. k) (command_start s n section wt m e at)
  unfolding command_start
  start_stop f x = rw x

  module _ (code p : ℕ) (q : number s e at ≡ got (code, p)) where
    pub start_unknown : listed (row_of code commands) ≡ None → fault UnknownCommand at ≡ reading (λ k. k) (command_start s n section wt m e at)
    unfolding command_start
    start_unknown u = rw (q, listed-none (row_of code commands) u)

    module _ (c : Command) (u : listed (row_of code commands) ≡ Some c) (is : Section section) where
      allowed : (r : Row) → row_of code commands ≡ some r → as_command r ≡ c → is_allowed section r.allowed ≡ eqb (c.sections / weight_of section % 2) 1
      allowed r f g = allowed_bit code section r f is ∙ ap (λ (x : Command). eqb (x.sections / weight_of section % 2) 1) g

      pub start_not_allowed : eqb (c.sections / weight_of section % 2) 1 ≡ false → fault NotAllowed at ≡ reading (λ k. k) (command_start s n section wt m e at)
      unfolding command_start
      start_not_allowed a = let (r, f, g) = listed-some _ c u in rw (q, f, allowed r f g, a)

      module _ (a : eqb (c.sections / weight_of section % 2) 1 ≡ true) where
        pub start_many : limits.commands < m + wt → fault TooManyCommands at ≡ reading (λ k. k) (command_start s n section wt m e at)
        unfolding command_start
        start_many l = let (r, f, g) = listed-some _ c u in rw (q, f, allowed r f g, a, lt-leb _ _ l)

        pub start-argument : m + wt ≤ limits.commands → (x : Result Reading Fault) → x ≡ reading (λ k. k) (argument_start s n c.argument e p) →
            x ≡ reading (λ k. k) (command_start s n section wt m e at)
        unfolding command_start
        start-argument l x y =
            let (r, f, g) = listed-some _ c u in
            rw (q, f, allowed r f g, a, le-leb _ _ l) (y ∙ ap (λ (z : Command). reading (λ k. k) (argument_start s n z.argument e p)) (sym g))

-- a command's sequences begin after its code
pub start_forth : (s : Bytes) (n section wt m e at k q : ℕ) → command_start s n section wt m e at ≡ got (k, q) → (m + wt ≤ limits.commands) × (at < q)
unfolding command_start
start_forth s n section wt m e at k q w =
    split₂ _ (number s e at) _ (k, q) w λ code p qn w₁.
    split _ (found (row_of code commands) UnknownCommand at) _ (k, q) w₁ λ row qr w₂.
    let (_, w₃) = passed (is_allowed section row.allowed) NotAllowed at _ (k, q) w₂ in
    let (few, w₄) = passed (leb (m + wt) limits.commands) TooManyCommands at _ (k, q) w₃ in
    (leb-true _ _ few, omega (arith, (number_law s e at code p qn).0, argument_forth s n (kind_of row.form) e p k q w₄))
