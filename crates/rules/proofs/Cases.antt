-- A case: one of the five jobs with its inputs, and the answer that the rules give it, by document 01's numbers.
use Prim.Native.Nat.{ℕ, ◌-◌}
use mathlib.Core.List.{List, ◌∷◌, ◌++◌, map}
use lib.ListN.{length, replicate}
use Rattle.rules.specs.Base.{Group}
use Rattle.rules.specs.Answers.{refusal_number, end_number}
use Rattle.rules.specs.Limits.{limits}
use Rattle.rules.specs.Bytes.{Bytes, Span}
use Rattle.rules.specs.Got.{Got, refused, got}
use Rattle.rules.specs.Manifest.{Manifest}
use Rattle.rules.specs.Check.{check}
use Rattle.rules.specs.Newer.{Newer, newer}
use Rattle.rules.specs.Run.{Input, Ran, run_envelope}
use Rattle.rules.specs.Program.{translate}
use Rattle.rules.specs.ProgramRun.{run_program}

pub data Job : Type 0 where
  checks : Bytes → Job
  newest : Bytes → Bytes → Job
  runs : Bytes → Group → Input → Job
  translates : Bytes → Group → ℕ → Job
  executes : Bytes → Input → Job

pub data Answer : Type 0 where
  refusal : ℕ → ℕ → Answer
  -- sequence number, where the identifiers stand, the keys of the sections with 3 for common's sequence
  accepted : ℕ → List Span → List ℕ → Answer
  part : Newer → Answer
  program : Bytes → Answer
  -- end and place; events, answers used; the device's number; slots and trace
  ended : ℕ → ℕ → ℕ → ℕ → ℕ → Bytes → Bytes → Answer

abbrev pub checked : Got Manifest → Answer
checked (refused r p) = refusal (refusal_number r) p
checked (got m) = accepted m.number m.ids (map (λ x. x.key) m.sections)

abbrev pub translated : Got Bytes → Answer
translated (refused r p) = refusal (refusal_number r) p
translated (got b) = program b

abbrev pub ran : Got Ran → Answer
ran (refused r p) = refusal (refusal_number r) p
ran (got r) = ended (end_number r.end) r.place r.events r.used r.number r.slots r.trace

abbrev pub answer : Job → Answer
answer (checks s) = checked (check s)
answer (newest a b) = part (newer a b)
answer (runs s g x) = ran (run_envelope s g x)
answer (translates s g room) = translated (translate s g room)
answer (executes p x) = ran (run_program p x)

pub record Case : Type 0 where
  pub job : Job
  pub gives : Answer

abbrev pub case : Job → Answer → Case
case j a = record { job = j; gives = a }

-- what the rules give, and what they should
abbrev pub given : List Case → List Answer
given cs = map (λ c. answer c.job) cs

abbrev pub wanted : List Case → List Answer
wanted cs = map (λ c. c.gives) cs

-- a slot in lent bytes: identifier, capacity, present, size (4 bytes each), digest
abbrev pub lent_slot : Bytes → Bytes → ℕ → Bytes → Bytes → Bytes
lent_slot id capacity present size digest = length id ∷ id ++ replicate (limits.identifier - length id) 0 ++ capacity ++ (present ∷ size) ++ digest

-- a trace buffer of the least length, with those events and zeros after them
abbrev pub traced : Bytes → Bytes
traced events = events ++ replicate (limits.trace - length events) 0
