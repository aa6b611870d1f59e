-- The records of commands, one after the other, by the places of a program's bytes.
use Rattle.std.specs.Prelude.{ℕ, ◌-◌, List, length, Option, Some, None}
use Rattle.rules.specs.Bytes.{Bytes}
use Rattle.rules.specs.Got.{Got, refused, got}
use Rattle.rules.specs.Program.{Rec}
use Rattle.rules.specs.ProgramTest.{non_jumps}
use Rattle.program_records.specs.declared.Records.{Records}

-- where a reading up to `to` ended, and how many commands it read; none where it was refused
abbrev pub records_are : ℕ → Got (List Rec × Bytes) → Option Records
records_are to (refused r p) = None
records_are to (got a) = Some (record { next = to - length a.1; commands = non_jumps a.0 })
