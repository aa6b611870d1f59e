-- The words of the command line.
use Rattle.std.specs.Prelude.{ℕ, Bool, true, cond, eqb, Option, None, Some}
use Rattle.rules.specs.declared.answers.Group.{Group}
use Rattle.rules.specs.declared.answers.Group.TheVariants as G
use Rattle.rules.specs.Bytes.{Bytes, same}
use Rattle.text.specs.Text.{ascii}
use Rattle.depot_usage.specs.declared.Job.{Job}
use Rattle.depot_usage.specs.declared.Job.TheVariants as J

-- what is told of the tool itself
unfoldable pub told_of : Bytes → Job
told_of word =
    cond (same word (ascii "help")) J.Help
    (cond (same word (ascii "--help")) J.Help
    (cond (same word (ascii "-h")) J.Help
    (cond (same word (ascii "--version")) J.Version J.Unknown)))

-- the job that the first word names
unfoldable pub job_of : Bytes → Job
job_of word =
    cond (same word (ascii "check")) J.Check
    (cond (same word (ascii "show")) J.Show
    (cond (same word (ascii "newer")) J.Newer
    (cond (same word (ascii "translate")) J.Translate
    (cond (same word (ascii "list")) J.List
    (cond (same word (ascii "run")) J.Run
    (cond (same word (ascii "run-program")) J.RunProgram
    (cond (same word (ascii "batch")) J.Batch (told_of word))))))))

-- how many words a job takes, the first among them
abbrev pub words_of : Job → ℕ
words_of J.Check = 2
words_of J.Show = 2
words_of J.Newer = 3
words_of J.Translate = 4
words_of J.List = 2
words_of J.Run = 4
words_of J.RunProgram = 3
words_of J.Batch = 2
words_of J.Help = 1
words_of J.Version = 1
words_of J.Unknown = 1

-- and at most: a run may have two more, `--then` and a file
abbrev pub most_of : Job → ℕ
most_of J.Check = 2
most_of J.Show = 2
most_of J.Newer = 3
most_of J.Translate = 4
most_of J.List = 2
most_of J.Run = 6
most_of J.RunProgram = 5
most_of J.Batch = 2
most_of J.Help = 1
most_of J.Version = 1
most_of J.Unknown = 1

-- whether a job takes that many words
unfoldable pub fits : Job → ℕ → Bool
fits job count = cond (eqb count (words_of job)) true (eqb count (most_of job))

-- the group that a word names
unfoldable pub asked_of : Bytes → Option Group
asked_of word = cond (same word (ascii "install")) (Some G.Install) (cond (same word (ascii "boot")) (Some G.Boot) None)
