-- What translate hands back, and what it leaves in the room.
use Rattle.std.specs.Prelude.{ℕ, ◌≡◌, ◌++◌, length, drop, Result, Ok, Err}
use Rattle.rules.specs.declared.answers.Fault.{Fault}
use Rattle.rules.specs.Bytes.{Bytes}
use Rattle.rules.specs.Got.{Got, refused, got}
use Rattle.rules.specs.Answers.{refusal_number}

-- 01: 'Where an answer is an enum, a definition gives this paper's number and values for each of its cases'. The number of a refusal and its
-- place; where nothing is refused 0 and the program's length
abbrev pub numbers_of : Result ℕ Fault → ℕ × ℕ
numbers_of (Err f) = (refusal_number f.refusal, f.at)
numbers_of (Ok n) = (0, n)

-- the same of what the rule gives
abbrev pub numbers_by : Got Bytes → ℕ × ℕ
numbers_by (refused k p) = (refusal_number k, p)
numbers_by (got b) = (0, length b)

-- a refusal leaves the room as lent; else the program is at its start, and beyond it the room is as lent; the numbers are the rule's
abbrev pub Translates : Got Bytes → Result ℕ Fault → Bytes → Bytes → Type 0
Translates (refused k p) r room room' = (r ≡ Err (record { refusal = k; at = p })) × (room' ≡ room) × (numbers_of r ≡ numbers_by (refused k p))
Translates (got b) r room room' = (r ≡ Ok (length b)) × (room' ≡ b ++ drop (length b) room) × (numbers_of r ≡ numbers_by (got b))
