-- What is printed of files, by the calls that found it.
use Prim.Native.Nat.{ℕ}
use mathlib.Core.Path.{◌≡◌, ap}
use mathlib.Core.Bool.{Bool, true, false}
use mathlib.Core.List.{◌++◌}
use borrow.Author.Tests.{eq-eqb, ne_eqb}
use Rattle.rules.specs.declared.answers.Refusal.TheVariants.{BadProgram}
use Rattle.rules.specs.Answers.{refusal_number}
use Rattle.rules.specs.Got.{accepted}
use Rattle.rules.specs.Check.{check}
use Rattle.rules.specs.Newer.{newer}
use Rattle.rules.specs.ProgramTest.{program_in}
use Rattle.pitvorgas_answers.specs.declared.CheckAnswer.{CheckAnswer}
use Rattle.pitvorgas_answers.specs.declared.NewerAnswer.{NewerAnswer}
use Rattle.pitvorgas.specs.Answers.{checked_of, newer_of}
use Rattle.text.specs.Text.{Bytes, Wrote}
use Rattle.depot_refusals.specs.Refusals.{refused_text}
use Rattle.depot_report.specs.Report.{newer_text}
use Rattle.depot_show.specs.Manifest.{parts_text}
use Rattle.depot_listing.specs.Listing.{program_text}
use Rattle.depot_inspect.specs.Printed.{shown_of, shown_text, newest_of, newest_text, listed_of, listed_text}

-- what was written, by the jobs' answers
pub printed : {b b' room : Bytes} {r : ℕ} {room' : Bytes} → b ≡ b' → Wrote b 0 room r room' → Wrote b' 0 room r room'
printed e w = rw e at w

module _ (s : Bytes) (a : CheckAnswer) (e : a ≡ checked_of (check s)) where
  pub shown-refused : (a.refusal ≡ 0 → ⊥) → refused_text a.refusal a.place s ≡ shown_text s
  unfolding shown_of
  shown-refused n = rw (ne_eqb a.refusal 0 n) at (ap (λ (x : CheckAnswer). shown_of x s) e)

  pub shown_parts : a.refusal ≡ 0 → parts_text s a.number a.components a.ids a.sections ≡ shown_text s
  unfolding shown_of
  shown_parts z = rw (eq-eqb a.refusal 0 z) at (ap (λ (x : CheckAnswer). shown_of x s) e)

module _ (s t : Bytes) (a : NewerAnswer) (e : a ≡ newer_of (newer s t)) (c : CheckAnswer) where
  pub newest-first : a.second ≡ 0 → c ≡ checked_of (check s) → newer_text a c.number ≡ newest_text s t
  unfolding newest_of
  newest-first z f = rw f (rw (eq-eqb a.second 0 z) at (ap (λ (x : NewerAnswer). newest_of x s t) e))

  pub newest_second : (a.second ≡ 0 → ⊥) → c ≡ checked_of (check t) → newer_text a c.number ≡ newest_text s t
  unfolding newest_of
  newest_second n f = rw f (rw (ne_eqb a.second 0 n) at (ap (λ (x : NewerAnswer). newest_of x s t) e))

module _ (s : Bytes) (good : Bool) (e : good ≡ accepted (program_in s)) where
  pub listed-program : good ≡ true → program_text s ≡ listed_text s
  unfolding listed_of
  listed-program h = rw h at (ap (λ (b : Bool). listed_of b s) e)

  pub listed-refused : good ≡ false → refused_text (refusal_number BadProgram) 0 s ++ program_text s ≡ listed_text s
  unfolding listed_of
  listed-refused h = rw h at (ap (λ (b : Bool). listed_of b s) e)
