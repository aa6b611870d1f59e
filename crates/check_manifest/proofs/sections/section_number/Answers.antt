use Prim.Native.Nat.{ℕ, ◌≤◌}
use mathlib.Core.Path.{◌≡◌, refl}
use mathlib.Core.Bool.{Bool, ◌||◌, ◌&&◌}
use native.Mathlib.Omega.{arith}
use borrow.Author.Tests.{leb-true, ne_eqb}
use lib.Dec.{eqb, leb}
use Rattle.rules.specs.Commands.{all_sections, COMMON, PAYLOAD_FETCH, RUN}
use Rattle.rules.proofs.GotLaws.{and-true}
use Rattle.rules.proofs.TableLaws.{one_of}
use Rattle.check_command.specs.Command.{Section}
use Rattle.check_manifest.proofs.sections.section_number.Goals as goal

abbrev test : ℕ → Bool
test k = eqb k COMMON || (leb PAYLOAD_FETCH k && leb k RUN)

late : (k : ℕ) → Section k → (k ≡ COMMON → ⊥) → (PAYLOAD_FETCH ≤ k) × (k ≤ RUN)
late k h n =
    let (a, b) = and-true (leb PAYLOAD_FETCH k) (leb k RUN) (rw (ne_eqb k COMMON n) at (one_of test all_sections k refl h)) in
    (leb-true _ _ a, leb-true _ _ b)

pub overflow_sub-result : goal.overflow_sub-result
overflow_sub-result c = omega (arith, late _ c.requires c.if-key-eq-COMMON.false)

pub returns-then-key-eq-COMMON : goal.returns-then-key-eq-COMMON
returns-then-key-eq-COMMON c = rw c.if-key-eq-COMMON.true (refl, omega arith)

pub returns-else-key-eq-COMMON : goal.returns-else-key-eq-COMMON
returns-else-key-eq-COMMON c = (rw (ne_eqb _ COMMON c.if-key-eq-COMMON.false), omega (arith, late _ c.requires c.if-key-eq-COMMON.false))
