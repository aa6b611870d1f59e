-- A command with the sequences that it holds.
use Rattle.std.specs.Prelude.{ℕ}
use Rattle.rules.specs.Bytes.{Bytes}
use Rattle.rules.specs.Got.{Got}
use Rattle.rules.specs.Manifest.{Cmd}
use Rattle.rules.specs.Check.{command, sequence_at}

-- the command at `at`, of weight w as those in it, after commands that weigh `before`; the sequences that it holds may be `depth` deep
abbrev pub command_at : Bytes → ℕ → ℕ → ℕ → ℕ → ℕ → ℕ → ℕ → Got (Cmd × ℕ)
command_at s components section w depth before end at = command s (sequence_at s components section w depth) components section w before end at
