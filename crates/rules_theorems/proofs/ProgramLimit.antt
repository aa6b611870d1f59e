-- The size of a program never decides (02, T-01: 'their size limit becomes 49,152 bytes'): what is well formed by every other test has at
-- most 46,635 bytes (ProgramLength), and what is longer has another fault, which is refused in the same way.
use mathlib.Core.Path.{◌≡◌, refl, sym, ◌∙◌}
use mathlib.Core.Bool.{Bool, true, false}
use native.Mathlib.Omega.{arith}
use lib.Dec.{leb}
use lib.ListN.{length}
use borrow.Author.Tests.{leb-false}
use Rattle.rules.specs.Bytes.{Bytes}
use Rattle.rules.specs.Limits.{limits}
use Rattle.rules.specs.Got.{Got, refused, got}
use Rattle.rules.specs.Program.{Program}
use Rattle.rules.specs.ProgramTest.{program_in}
use Rattle.rules_theorems.proofs.ProgramFaults.{Only97, well_formed, size_fits, size-over, formed97}
use Rattle.rules_theorems.proofs.ProgramLength.{program-short}

-- with the test of the size and without it the answer is the same, for any bytes
pub limit_never_decides : (b : Bytes) → program_in b ≡ well_formed b
limit_never_decides b = go (leb (length b) limits.program) refl (well_formed b) refl (formed97 b)
  where
    go : (t : Bool) → leb (length b) limits.program ≡ t → (y : Got Program) → well_formed b ≡ y → Only97 y → program_in b ≡ well_formed b
    go true e y q h = size_fits b e
    go false e (got p) q h = absurd (omega (arith, leb-false (length b) limits.program e, program-short b p q))
    go false e (refused r k) q h = size-over b e ∙ sym (q ∙ rw (h.0, h.1))
