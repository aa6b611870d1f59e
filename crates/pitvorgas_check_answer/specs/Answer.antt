-- Check's answer in numbers.
use Rattle.std.specs.Prelude.{Result, Ok, Err, replicate}
use Rattle.rules.specs.declared.answers.Fault.{Fault}
use Rattle.rules.specs.Answers.{refusal_number}
use Rattle.rules.specs.Limits.{places, section_places}
use Rattle.check_envelope.specs.declared.report.Report.{Report}
use Rattle.pitvorgas_answers.specs.declared.CheckAnswer.{CheckAnswer}

abbrev pub answer_of : Result Report Fault → CheckAnswer
answer_of (Err f) =
    record {
      refusal = refusal_number f.refusal;
      place = f.at;
      number = 0;
      components = 0;
      ids = replicate places 0;
      sections = replicate section_places 0;
      from = 0;
      to = 0;
    }
answer_of (Ok r) =
    record {
      refusal = 0;
      place = 0;
      number = r.number;
      components = r.components;
      ids = r.ids;
      sections = r.sections;
      from = r.manifest.from;
      to = r.manifest.to;
    }
