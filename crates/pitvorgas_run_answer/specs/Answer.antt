-- The outcome of a run in numbers.
use Rattle.std.specs.Prelude.{ℕ, Result, Ok, Err}
use Rattle.rules.specs.Answers.{refusal_number, end_number}
use Rattle.rules.specs.declared.answers.Fault.{Fault}
use Rattle.run_ending.specs.declared.Ending.{Ending}
use Rattle.run_ending.specs.declared.Outcome.{Outcome}
use Rattle.pitvorgas_answers.specs.declared.RunAnswer.{RunAnswer}

-- for each case of an outcome's answer, with its number
abbrev pub answer_with : Result Ending Fault → ℕ → RunAnswer
answer_with (Err f) n = record { refusal = refusal_number f.refusal; place = f.at; end = 0; events = 0; used = 0; number = n }
answer_with (Ok e) n = record { refusal = 0; place = e.place; end = end_number e.end; events = e.events; used = e.used; number = n }

abbrev pub answer_of : Outcome → RunAnswer
answer_of o = answer_with o.answer o.number
