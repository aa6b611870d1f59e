-- 'Run a program' (01, Five jobs; The flat program): record by record, forward only.
use Rattle.std.specs.Prelude.{◌-◌, ◌∷◌}
use Rattle.rules.specs.Base.{ℕ, zero, suc, List, [], true, false, eqb, Finished, ConditionFailed}
use Rattle.rules.specs.Bytes.{Bytes}
use Rattle.rules.specs.Got.{Got, ◌>>=◌}
use Rattle.rules.specs.Step.{Env, State, Out, out, step}
use Rattle.rules.specs.Run.{next, Input, Ran, run_of}
use Rattle.rules.specs.Program.{Rec, does, jump}
use Rattle.rules.specs.ProgramFormat.{NONE}
use Rattle.rules.specs.ProgramTest.{program_in}

module _ (env : Env) where
  -- the records from number n on, of which k are passed over; 'the record count means finished'
  unfoldable pub exec : List Rec → ℕ → ℕ → State → Out
  exec [] n k st = out Finished st
  exec (r ∷ rs) n (suc k) st = exec rs (suc n) k st
  exec (jump t ∷ rs) n zero st = exec rs (suc n) (t - suc n) st
  exec (does op i p t ∷ rs) n zero st =
      next (step env op i p st) (λ st'. exec rs (suc n) 0 st')
      (λ st'. elim (eqb t NONE) [ true ↦ out ConditionFailed st' | false ↦ exec rs (suc n) (t - suc n) st' ])

  -- after records that gave o: m is the number of the record after them, t 'the record where a failure goes on, FFFF if uncaught'
  unfoldable pub goto : List Rec → ℕ → ℕ → State → Out
  goto rest m t st = elim (eqb t NONE) [ true ↦ out ConditionFailed st | false ↦ exec rest m (t - m) st ]

  abbrev pub resume : List Rec → ℕ → ℕ → Out → Out
  resume rest m t o = next o (λ st. exec rest m 0 st) (λ st. goto rest m t st)

-- the tests come 'after 97'; group, number and components are those of the program
unfoldable pub run_program : Bytes → Input → Got Ran
run_program b x = do
  p ← program_in b
  run_of p.group p.number p.ids (λ env st. exec env p.records 0 0 st) x
