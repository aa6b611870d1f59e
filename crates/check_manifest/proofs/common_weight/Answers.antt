use native.Mathlib.Omega.{arith}
use borrow.Author.Tests.{le-leb, lt-leb}
use Rattle.check_manifest.proofs.common_weight.Goals as goal

pub returns-then-entries-le-REQUIRED : goal.returns-then-entries-le-REQUIRED
returns-then-entries-le-REQUIRED c = (rw (le-leb c.args.entries 3 (omega (arith, c.if-entries-le-REQUIRED.true))), omega arith)

pub returns-else-entries-le-REQUIRED : goal.returns-else-entries-le-REQUIRED
returns-else-entries-le-REQUIRED c = (rw (lt-leb c.args.entries 3 (omega (arith, c.if-entries-le-REQUIRED.false))), omega (arith, c.requires))
