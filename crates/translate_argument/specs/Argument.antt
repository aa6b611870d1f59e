-- The argument of a record, written to lent room.
use Rattle.std.specs.Prelude.{ℕ, ◌+◌, ◌≤◌, ◌≡◌, List, length}
use Rattle.rules.specs.Bytes.{Bytes, part, put}
use Rattle.rules.specs.Tables.{by_number}
use Rattle.rules.specs.Program.{entry, arg_bytes}
use Rattle.run_slots.specs.Params.{optional, Fit}
use Rattle.run_commands.specs.Op.{op_of, IsCode, SixteenAt}
use Rattle.manifest_accessors.specs.declared.arguments.Args.{Args}
use Rattle.manifest_accessors.specs.Arguments.{Within}

-- the bytes b were put at `to`, and r is the place after them
pub record Filled (b : Bytes) (to : ℕ) (room : Bytes) (r : ℕ) (room' : Bytes) : Type 0 where
  pub filled : room' ≡ put room to b
  pub next : r ≡ to + length b

-- the entry of a URI or a digest: the n bytes of s from `from` on; 0 is unset
abbrev pub string_entry : Bytes → ℕ → ℕ → ℕ → Bytes
string_entry s key from n = entry key (λ b. b) (optional from (part s from n))

-- the argument of the command of that code, as bytes
abbrev pub argument_of : Bytes → ℕ → Args → Bytes
argument_of s code a = arg_bytes (op_of s code a.value a.params)

-- it was read from s, its parts fit in a record, and from `to` on there is room for it; and the lent table
abbrev pub ArgumentFits : Bytes → List ℕ → ℕ → Args → Bytes → ℕ → Type 0
ArgumentFits s table code a room to =
    Within s a.params × Fit s 256 a.params × SixteenAt s code a.value × IsCode s code a.value a.params
    × (to + length (argument_of s code a) ≤ length room)
    × (table ≡ by_number)
