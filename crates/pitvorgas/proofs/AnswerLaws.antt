-- The answers of the jobs, in numbers.
use Prim.Native.Nat.{ℕ}
use mathlib.Core.Path.{◌≡◌, refl, sym, ap, ◌∙◌}
use Rattle.std.specs.Prelude.{Option, Some, None, is_some}
use lib.ListN.{length}
use Rattle.rules.specs.declared.answers.Refusal.{Refusal}
use Rattle.rules.specs.declared.controller.Controller.{Controller}
use Rattle.rules.specs.Answers.{refusal_number}
use Rattle.rules.specs.Bytes.{Bytes}
use Rattle.rules.specs.Got.{Got, refused, got, accepted}
use Rattle.rules.specs.Manifest.{Manifest}
use Rattle.rules.specs.Newer.{Newer, in_first, in_second}
use Rattle.rules.specs.Run.{Ran}
use Rattle.rules.specs.Program.{Program}
use Rattle.std.specs.Prelude.{Result}
use Rattle.rules.specs.declared.answers.Fault.{Fault}
use Rattle.check_newer.specs.declared.Newest.TheVariants.{First, Second}
use Rattle.check_envelope.specs.declared.report.Place.{Place}
use Rattle.check_envelope.specs.declared.report.Report.{Report}
use Rattle.check_newer.specs.Newer.{newest_of}
use Rattle.check_envelope.specs.Report.{place, report_of}
use Rattle.run_ending.specs.declared.Outcome.{Outcome}
use Rattle.run_ending.specs.Answer.{outcome_of}
use Rattle.program_test.specs.declared.test.Tested.{Tested}
use Rattle.program_test.specs.Test.{TestedAs}
use Rattle.std.specs.Prelude.{Result, Ok, Err}
use Rattle.rules.specs.declared.answers.Fault.{Fault}
use Rattle.translate.specs.Translate.{Translates}
use Rattle.translate.proofs.TranslatedLaws.{apart, one_fault}
use Rattle.pitvorgas_answers.specs.declared.CheckAnswer.{CheckAnswer}
use Rattle.pitvorgas_answers.specs.declared.NewerAnswer.{NewerAnswer}
use Rattle.pitvorgas_answers.specs.declared.RunAnswer.{RunAnswer}
use Rattle.pitvorgas_answers.specs.declared.TranslateAnswer.{TranslateAnswer}
use Rattle.pitvorgas_check_answer.specs.Answer as C
use Rattle.pitvorgas_run_answer.specs.Answer as R
use Rattle.pitvorgas.specs.Answers.{checked_of, newer_of, translated_of, room_after, ran_of}

pub checked-answer : (g : Got Manifest) (r : Result Report Fault) (a : CheckAnswer) → r ≡ report_of g → a ≡ C.answer_of r → a ≡ checked_of g
checked-answer (refused k p) r a e h = h ∙ ap C.answer_of e
checked-answer (got m) r a e h = h ∙ ap C.answer_of e

pub in_first-answer : (g : Newer) (p : Place) → First p ≡ newest_of g → ◌≡◌ {A = NewerAnswer} (record { second = 0; from = p.from; to = p.to }) (newer_of g)
in_first-answer (in_first q) p e = let h : p ≡ place q = cc in rw h refl
in_first-answer (in_second q) p e = absurd cc

pub in_second-answer : (g : Newer) (p : Place) → Second p ≡ newest_of g → ◌≡◌ {A = NewerAnswer} (record { second = 1; from = p.from; to = p.to }) (newer_of g)
in_second-answer (in_first q) p e = absurd cc
in_second-answer (in_second q) p e = let h : p ≡ place q = cc in rw h refl

pub tested-answer : (p : Bytes) (g : Got Program) (t : Option Tested) → TestedAs p g t → is_some t ≡ accepted g
tested-answer p (refused k q) t e = ap is_some e
tested-answer p (got y) None e = absurd e
tested-answer p (got y) (Some t) e = refl

pub ran-answer : (d : Controller) (g : Got Ran) (o : Outcome) (r : RunAnswer) → o ≡ outcome_of d g → r ≡ R.answer_of o → r ≡ ran_of d g
ran-answer d (refused k p) o r e h = h ∙ ap R.answer_of e
ran-answer d (got x) o r e h = h ∙ ap R.answer_of e

module _ (g : Got Bytes) (t : Result ℕ Fault) (room room' : Bytes) (h : Translates g t room room') where
  pub refused_translation : (k : Refusal) (p n : ℕ) → t ≡ Err (record { refusal = k; at = p }) → n ≡ refusal_number k →
      (◌≡◌ {A = TranslateAnswer} (record { refusal = n; place = p; length = 0 }) (translated_of g)) × (room' ≡ room_after room g)
  refused_translation k p n e q = go g h
    where
      go : (g : Got Bytes) → Translates g t room room' → (◌≡◌ {A = TranslateAnswer} (record { refusal = n; place = p; length = 0 }) (translated_of g)) × (room' ≡ room_after room g)
      go (refused k' p') u =
          let f : ◌≡◌ {A = Result ℕ Fault} (Err (record { refusal = k'; at = p' })) (Err (record { refusal = k; at = p })) = sym u.0 ∙ e in
          let (a, b) = one_fault k' k p' p f in
          (rw (q, ← a, ← b) refl, u.1)
      go (got y) u = apart k p _ (sym e ∙ u.0)

  pub program_translation : (n : ℕ) → t ≡ Ok n → (◌≡◌ {A = TranslateAnswer} (record { refusal = 0; place = 0; length = n }) (translated_of g)) × (room' ≡ room_after room g)
  program_translation n e = go g h
    where
      go : (g : Got Bytes) → Translates g t room room' → (◌≡◌ {A = TranslateAnswer} (record { refusal = 0; place = 0; length = n }) (translated_of g)) × (room' ≡ room_after room g)
      go (refused k p) u = apart k p n (sym u.0 ∙ e)
      go (got y) u =
          let f : ◌≡◌ {A = Result ℕ Fault} (Ok (length y)) (Ok n) = sym u.0 ∙ e in
          let a : n ≡ length y = cc in
          (rw a refl, u.1)
