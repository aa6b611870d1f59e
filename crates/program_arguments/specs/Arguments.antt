-- What a record of a command may hold.
use Rattle.std.specs.Prelude.{ℕ, Bool, not, ◌&&◌, ◌||◌, ◌∷◌, eqb, ltb, leb}
use Rattle.std.specs.Int.Bits.{bit_and}
use Rattle.rules.specs.declared.answers.Group.{Group}
use Rattle.rules.specs.Commands.{COMMON}
use Rattle.rules.specs.ProgramFormat.{NONE}
use Rattle.rules.specs.Run.{sections_of}
use Rattle.rules.specs.Tables.{weights}

-- a command that is allowed in a set of sections may stand in a program of the group: the set has common or a section of the group
abbrev pub allows_in : Group → ℕ → Bool
allows_in group sections = not (eqb (bit_and sections (weights (COMMON ∷ sections_of group))) 0)

-- 'targets of conditions are greater than the record's own number and at most the count (a condition's may be FFFF)'; others have FFFF
abbrev pub target_fits : Bool → ℕ → ℕ → ℕ → Bool
target_fits condition target n total = eqb target NONE || condition && (ltb n target && leb target total)
