-- A command up to the sequences that it holds.
use Rattle.std.specs.Prelude.{ℕ, ◌+◌, ◌≡◌, true, leb}
use Rattle.rules.specs.declared.answers.Refusal.TheVariants.{UnknownCommand, NotAllowed, TooManyCommands}
use Rattle.rules.specs.Limits.{limits}
use Rattle.rules.specs.Bytes.{Bytes}
use Rattle.rules.specs.Got.{Got, need, found, ◌>>=◌}
use Rattle.rules.specs.Commands.{all_sections, commands, row_of, is_allowed, among}
use Rattle.rules.specs.Tables.{kind_of}
use Rattle.rules.specs.Check.{number}
use Rattle.check_argument.specs.Argument.{argument_start}

-- its code, of weight w after commands that weigh `before`, and its argument up to the sequences: how many these are, and where the
-- first is
unfoldable pub command_start : Bytes → ℕ → ℕ → ℕ → ℕ → ℕ → ℕ → Got (ℕ × ℕ)
command_start s components section w before end at = do
  (c, p) ← number s end at
  row ← found (row_of c commands) UnknownCommand at
  _ ← need (is_allowed section row.allowed) NotAllowed at
  _ ← need (leb (before + w) limits.commands) TooManyCommands at
  argument_start s components (kind_of row.form) end p

-- the key of a section, or of common for its sequence
abbrev pub Section : ℕ → Type 0
Section k = among k all_sections ≡ true
