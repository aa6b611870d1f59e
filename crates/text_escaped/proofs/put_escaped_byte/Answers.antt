use Prim.Native.Nat.{◌≤◌}
use mathlib.Core.Path.{◌≡◌}
use borrow.Author.Tests.{ne_eqb, le-ltb}
use borrow.Author.Rules.{rules}
use Rattle.text_escaped.specs.Escaped.{escaped_byte}
use Rattle.text_escaped.proofs.EscapeLaws.{escaped_control}
use Rattle.text_escaped.proofs.put_escaped_byte.Goals as goal

pub returns-then-b-eq-DELETE : goal.returns-then-b-eq-DELETE
returns-then-b-eq-DELETE c =
    let control : 32 ≤ c.args.b → c.args.b ≡ 127 = λ h. search rules in
    rw (escaped_control _ control) c.put_escape.ensures

pub returns-then-b-eq-BACKSLASH : goal.returns-then-b-eq-BACKSLASH
unfolding escaped_byte
returns-then-b-eq-BACKSLASH c = rw c.if-b-eq-BACKSLASH.true c.put.ensures

pub returns-else-b-eq-BACKSLASH : goal.returns-else-b-eq-BACKSLASH
unfolding escaped_byte
returns-else-b-eq-BACKSLASH c =
    let low : 32 ≤ c.args.b = search rules in
    let delete : c.args.b ≡ 127 → ⊥ = search rules in
    rw (le-ltb _ 32 low, ne_eqb _ 92 c.if-b-eq-BACKSLASH.false, ne_eqb _ 127 delete) c.put_byte.ensures
