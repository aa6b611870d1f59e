use borrow.Author.Rules.{rules}
use Rattle.program_test.proofs.ProgramLaws.{start-read}
use Rattle.program_test.proofs.test.start_fits.Goals as goal

pub returns-then-p-gt-PROGRAM_BYTES : goal.returns-then-p-gt-PROGRAM_BYTES
returns-then-p-gt-PROGRAM_BYTES c = rw (start-read c.args.p.now) (search rules)

pub returns-then-components-le-COMPONENTS : goal.returns-then-components-le-COMPONENTS
returns-then-components-le-COMPONENTS c = rw (start-read c.args.p.now) (search rules)

pub returns-else-components-le-COMPONENTS : goal.returns-else-components-le-COMPONENTS
returns-else-components-le-COMPONENTS c = rw (start-read c.args.p.now) (search rules)
