-- Demand 3 (01, What we hold you to), of one envelope that is translated and run beside its program.
use Rattle.std.specs.Prelude.{ℕ, ◌≤◌, ◌<◌, ◌≡◌, Bool, length, take, drop, Ok, Err}
use Rattle.rules.specs.declared.answers.Group.{Group}
use Rattle.rules.specs.declared.answers.Refusal.{Refusal}
use Rattle.rules.specs.declared.answers.Refusal.TheVariants.{ShortRoom, BadProgram}
use Rattle.rules.specs.declared.controller.Controller.{Controller}
use Rattle.rules.specs.Lent.{Lent, was, left}
use Rattle.rules.specs.Bytes.{Bytes}
use Rattle.rules.specs.Got.{refused, got}
use Rattle.rules.specs.Manifest.{Manifest}
use Rattle.rules.specs.Check.{check}
use Rattle.rules.specs.Run.{run_envelope}
use Rattle.rules.specs.Program.{program_of, program_bytes, translate}
use Rattle.rules.specs.ProgramRun.{run_program}
use Rattle.run_ending.specs.Answer.{input_of, outcome_of, Settles}
use Rattle.translate.specs.Translate.{Translates}
use Rattle.agreement.specs.declared.Agreement.{Agreement}

-- 'Its program is the records written out above for that envelope and group'
abbrev pub program_for : Bytes → Group → Manifest → Bytes
program_for s group m = program_bytes (program_of s group m)

-- 'A manifest is accepted when check refuses nothing in its envelope': check s ≡ got m
pub record Agreed (s : Bytes) (group : Group) (verdict : Bool) (device : Controller) (answers room room' pslots pslots' ptrace ptrace' eslots eslots' etrace etrace' : Bytes)
    (r : Agreement) : Type 0 where
  -- the translation, and the run of the envelope on `eslots` and `etrace`
  pub translated : Translates (translate s group (length room)) r.translated room room'
  pub envelope : Settles device (run_envelope s group (input_of verdict device eslots answers etrace)) r.envelope eslots eslots' etrace etrace'
  -- 'Those bytes alone go to the program run': the bytes that the translation left, and nothing else, are run on `pslots` and `ptrace`
  pub program : (n : ℕ) → r.translated ≡ Ok n → Settles device (run_program (take n room') (input_of verdict device pslots answers ptrace)) r.program pslots pslots' ptrace ptrace'
  pub no_program_lem : (k : Refusal) (p : ℕ) → r.translated ≡ Err (record { refusal = k; at = p }) →
      (r.program ≡ outcome_of device (refused k p)) × (pslots' ≡ pslots) × (ptrace' ≡ ptrace)
  -- 'Translating an accepted manifest gives 96 exactly when the room is shorter': in a shorter room it does, at place 0 and with the room
  -- as lent; where it gives a refusal, that is 96 at place 0, and the room is shorter
  pub short : (m : Manifest) → check s ≡ got m → length room < length (program_for s group m) → (r.translated ≡ Err (record { refusal = ShortRoom; at = 0 })) × (room' ≡ room)
  pub only-short : (m : Manifest) (k : Refusal) (p : ℕ) → check s ≡ got m → r.translated ≡ Err (record { refusal = k; at = p }) →
      (k ≡ ShortRoom) × (p ≡ 0) × (length room < length (program_for s group m))
  -- 'so its length is fixed whatever the room'; 'else the program stands at the start of the room'; 'room beyond a program' keeps its values
  pub fixed : (m : Manifest) (n : ℕ) → check s ≡ got m → r.translated ≡ Ok n →
      (n ≡ length (program_for s group m)) × (take n room' ≡ program_for s group m) × (drop n room' ≡ drop n room)
  -- 'Either both refuse with the same number and place': the run of the program is never refused with 97, which no run of an envelope gives
  pub formed : (m : Manifest) (n p : ℕ) → check s ≡ got m → r.translated ≡ Ok n → r.program.answer ≡ Err (record { refusal = BadProgram; at = p }) → ⊥
  -- 'Either both refuse with the same number and place, or neither refuses and these are equal: the end and its place, the count of events,
  -- answers used, every slot, the device's sequence number, every byte of the trace buffer'
  pub agree : (m : Manifest) → check s ≡ got m → length (program_for s group m) ≤ length room → pslots ≡ eslots → ptrace ≡ etrace →
      (r.program ≡ r.envelope) × (pslots' ≡ eslots') × (ptrace' ≡ etrace')

-- the same of lent memory, by what it was and how it is left
abbrev pub Agrees : Bytes → Group → Bool → Controller → Bytes → Lent → Lent → Lent → Lent → Lent → Agreement → Type 0
Agrees s group verdict device answers room pslots ptrace eslots etrace r =
    Agreed s group verdict device answers (was room) (left room)
    (was pslots) (left pslots) (was ptrace) (left ptrace) (was eslots) (left eslots) (was etrace) (left etrace) r
