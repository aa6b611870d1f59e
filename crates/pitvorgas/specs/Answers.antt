-- The answers of the jobs as C has them. The numbers of refusals and ends are those that the rules' definitions `refusal_number` and
-- `end_number` give each case (01: 'a definition gives this paper's number .. The promises use that definition').
use Rattle.std.specs.Prelude.{◌≡◌, Bool, ◌++◌, length, drop, replicate}
use Rattle.rules.specs.declared.controller.Controller.{Controller}
use Rattle.rules.specs.Limits.{places, section_places}
use Rattle.rules.specs.Answers.{refusal_number, end_number}
use Rattle.rules.specs.Lent.{Lent, was, left}
use Rattle.rules.specs.Bytes.{Bytes}
use Rattle.rules.specs.Got.{Got, refused, got}
use Rattle.rules.specs.Manifest.{Manifest}
use Rattle.rules.specs.Newer.{Newer, in_first, in_second}
use Rattle.rules.specs.Run.{Input, Ran}
use Rattle.component_ids.specs.Identifiers.{laid}
use Rattle.check_manifest.specs.Sections.{placed}
use Rattle.run_ending.specs.Answer as Run
use Rattle.run_ending.specs.Answer.{slots_after, trace_after}
use Rattle.pitvorgas_answers.specs.Inputs.{controller_of}
use Rattle.pitvorgas_answers.specs.declared.Device.{Device}
use Rattle.pitvorgas_answers.specs.declared.CheckAnswer.{CheckAnswer}
use Rattle.pitvorgas_answers.specs.declared.NewerAnswer.{NewerAnswer}
use Rattle.pitvorgas_answers.specs.declared.TranslateAnswer.{TranslateAnswer}
use Rattle.pitvorgas_answers.specs.declared.RunAnswer.{RunAnswer}

abbrev pub checked_of : Got Manifest → CheckAnswer
checked_of (refused k p) =
    record { refusal = refusal_number k; place = p; number = 0; components = 0; ids = replicate places 0; sections = replicate section_places 0; from = 0; to = 0 }
checked_of (got m) =
    record {
      refusal = 0;
      place = 0;
      number = m.number;
      components = length m.ids;
      ids = laid m.ids (replicate places 0);
      sections = placed m.sections (replicate section_places 0);
      from = m.part.from;
      to = m.part.to;
    }

abbrev pub newer_of : Newer → NewerAnswer
newer_of (in_first p) = record { second = 0; from = p.from; to = p.to }
newer_of (in_second p) = record { second = 1; from = p.from; to = p.to }

abbrev pub translated_of : Got Bytes → TranslateAnswer
translated_of (refused k p) = record { refusal = refusal_number k; place = p; length = 0 }
translated_of (got b) = record { refusal = 0; place = 0; length = length b }

-- what is in the room after a translation
abbrev pub room_after : Bytes → Got Bytes → Bytes
room_after room (refused k p) = room
room_after room (got b) = b ++ drop (length b) room

abbrev pub ran_of : Controller → Got Ran → RunAnswer
ran_of device (refused k p) = record { refusal = refusal_number k; place = p; end = 0; events = 0; used = 0; number = device.number }
ran_of device (got r) = record { refusal = 0; place = r.place; end = end_number r.end; events = r.events; used = r.used; number = r.number }

-- the answer and the lent room are those of the rule's answer g
abbrev pub Translation : Got Bytes → Lent → TranslateAnswer → Type 0
Translation g room r = (r ≡ translated_of g) × (left room ≡ room_after (was room) g)

-- what a run is given
abbrev pub given : Bool → Device → Bytes → Bytes → Bytes → Input
given verdict device slots answers trace = Run.given verdict (controller_of device) slots answers trace

-- the answer, the lent slots and the lent trace are those of the rule's answer g
abbrev pub Answers : Got Ran → Device → Lent → Lent → RunAnswer → Type 0
Answers g device slots trace r =
    (r ≡ ran_of (controller_of device) g) × (left slots ≡ slots_after (was slots) g) × (left trace ≡ trace_after (was trace) g)
