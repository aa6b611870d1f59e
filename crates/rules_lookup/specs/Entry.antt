-- An entry of the table by number, taken apart: what the table of commands says at a code.
use Rattle.std.specs.Prelude.{ℕ, ◌/◌, ◌%◌, false, eqb}
use Rattle.std.proofs.Math.Option.{Option, some, none}
use Rattle.rules.specs.Commands.{Row}
use Rattle.rules.specs.Tables.{kind_of, set_of, argument_number}
use Rattle.rules_lookup.specs.declared.Entry.{Entry}

abbrev pub unpacked : ℕ → Entry
unpacked e = record { sections = e % 64; kind = e / 64 % 8; condition = eqb (e / 512) 1 }

-- what it has to be
abbrev pub entry_of : Option Row → Entry
entry_of none = record { sections = 0; kind = 0; condition = false }
entry_of (some r) = record { sections = set_of r.allowed; kind = argument_number (kind_of r.form); condition = r.condition }
