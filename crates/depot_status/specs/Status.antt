-- The status of a command.
use Rattle.std.specs.Prelude.{ℕ, ◌≡◌, ◌⊎◌, cond, eqb}
use Rattle.rules.specs.declared.answers.End.TheVariants as E
use Rattle.rules.specs.Answers.{end_number}

-- 0 done, 1 refused or a run that did not end well, 2 usage or file
abbrev pub DONE : ℕ
DONE = 0

abbrev pub REFUSED : ℕ
REFUSED = 1

abbrev pub FAULT : ℕ
FAULT = 2

-- the status of a command, or that of a fault
abbrev pub Told : ℕ → ℕ → Type 0
Told status r = (r ≡ status) ⊎ (r ≡ FAULT)

unfoldable pub refusal_status : ℕ → ℕ
refusal_status refusal = cond (eqb refusal 0) DONE REFUSED

-- a run ends well that finished or started
unfoldable pub run_status : ℕ → ℕ → ℕ
run_status refusal end =
    cond (eqb end (end_number E.Finished)) (refusal_status refusal) (cond (eqb end (end_number E.Started)) (refusal_status refusal) REFUSED)
