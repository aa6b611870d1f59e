-- What is printed of envelopes and programs by the jobs' answers, and the status of it.
use Rattle.std.specs.Prelude.{ℕ, Bool, cond, ◌++◌, eqb}
use Rattle.rules.specs.declared.answers.Refusal.TheVariants.{BadProgram}
use Rattle.rules.specs.Answers.{refusal_number}
use Rattle.rules.specs.Got.{accepted}
use Rattle.rules.specs.Check.{check}
use Rattle.rules.specs.Newer.{newer}
use Rattle.rules.specs.ProgramTest.{program_in}
use Rattle.pitvorgas_answers.specs.declared.CheckAnswer.{CheckAnswer}
use Rattle.pitvorgas_answers.specs.declared.NewerAnswer.{NewerAnswer}
use Rattle.pitvorgas.specs.Answers.{checked_of, newer_of}
use Rattle.text.specs.Text.{Bytes}
use Rattle.depot_refusals.specs.Refusals.{refused_text}
use Rattle.depot_report.specs.Report.{checked_text, newer_text}
use Rattle.depot_show.specs.Manifest.{parts_text}
use Rattle.depot_listing.specs.Listing.{program_text}
use Rattle.depot_status.specs.Status.{DONE, REFUSED, refusal_status}
use Rattle.depot_inspect.specs.declared.View.{View}
use Rattle.depot_inspect.specs.declared.View.TheVariants.{Check, Show, List}

-- whether an envelope is accepted
abbrev pub check_text : Bytes → Bytes
check_text s = checked_text (checked_of (check s)) s

-- its manifest, or its refusal
unfoldable pub shown_of : CheckAnswer → Bytes → Bytes
shown_of a s =
    cond (eqb a.refusal 0) (parts_text s a.number a.components a.ids a.sections) (refused_text a.refusal a.place s)

abbrev pub shown_text : Bytes → Bytes
shown_text s = shown_of (checked_of (check s)) s

-- which of two envelopes is newer, and its number
unfoldable pub newest_of : NewerAnswer → Bytes → Bytes → Bytes
newest_of a s t = newer_text a (checked_of (check (cond (eqb a.second 0) s t))).number

abbrev pub newest_text : Bytes → Bytes → Bytes
newest_text s t = newest_of (newer_of (newer s t)) s t

-- the records of a program; below its refusal, if it is refused
unfoldable pub listed_of : Bool → Bytes → Bytes
listed_of good s = cond good (program_text s) (refused_text (refusal_number BadProgram) 0 s ++ program_text s)

abbrev pub listed_text : Bytes → Bytes
listed_text s = listed_of (accepted (program_in s)) s

-- refused where both are: then no manifest is handed back
unfoldable pub newest_status : Bytes → Bytes → ℕ
newest_status s t = cond (eqb (newer_of (newer s t)).to 0) REFUSED DONE

unfoldable pub listed_status : Bytes → ℕ
listed_status s = cond (accepted (program_in s)) DONE REFUSED

abbrev pub check_status : Bytes → ℕ
check_status s = refusal_status (checked_of (check s)).refusal

-- what is told of one file
unfoldable pub view_text : View → Bytes → Bytes
view_text Check s = check_text s
view_text Show s = shown_text s
view_text List s = listed_text s

unfoldable pub view_status : View → Bytes → ℕ
view_status Check s = check_status s
view_status Show s = check_status s
view_status List s = listed_status s
