use borrow.Author.Rules.{rules}
use Rattle.program_names.proofs.NameLaws.{name-read}
use Rattle.program_names.proofs.test_name.Goals as goal

pub returns-then-left-lt-NAME_BYTES : goal.returns-then-left-lt-NAME_BYTES
returns-then-left-lt-NAME_BYTES c = rw (name-read c.args.p.now c.args.at) (search rules)

pub returns-then-size-lt1 : goal.returns-then-size-lt1
returns-then-size-lt1 c = rw (name-read c.args.p.now c.args.at) (search rules)

pub returns : goal.returns
returns c = rw (name-read c.args.p.now c.args.at) (search rules)
