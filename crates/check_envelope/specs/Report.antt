-- What check hands back.
use Rattle.std.specs.Prelude.{ℕ, length, replicate, Result, Ok, Err}
use Rattle.rules.specs.declared.answers.Fault.{Fault}
use Rattle.rules.specs.declared.answers.Refusal.{Refusal}
use Rattle.rules.specs.Answers.{refusal_number}
use Rattle.rules.specs.Limits.{places, section_places}
use Rattle.rules.specs.Bytes.{Span}
use Rattle.rules.specs.Got.{Got, refused, got}
use Rattle.rules.specs.Manifest.{Manifest}
use Rattle.check_envelope.specs.declared.report.Place.{Place}
use Rattle.check_envelope.specs.declared.report.Report.{Report}
use Rattle.cbor_reading.specs.Reading.{result_of}
use Rattle.component_ids.specs.Identifiers.{laid}
use Rattle.check_manifest.specs.Sections.{placed}

abbrev pub place : Span → Place
place p = record { from = p.from; to = p.to }

-- of a manifest
abbrev pub report : Manifest → Report
report m =
    record {
      number = m.number;
      components = length m.ids;
      ids = laid m.ids (replicate places 0);
      manifest = place m.part;
      common = place m.common;
      sections = placed m.sections (replicate section_places 0);
    }

abbrev pub report_of : Got Manifest → Result Report Fault
report_of = result_of report

-- The answer in the numbers of document 01 ('sequence number, components and sections, or a refusal with its place'): a refusal's number and
-- its place, or 0 for both where the envelope is accepted; then the sequence number and how many components there are, 0 on a refusal.
pub record Numbers : Type 0 where
  pub refusal : ℕ
  pub place : ℕ
  pub number : ℕ
  pub components : ℕ

abbrev refused_numbers : Refusal → ℕ → Numbers
refused_numbers r p = record { refusal = refusal_number r; place = p; number = 0; components = 0 }

abbrev accepted_numbers : ℕ → ℕ → Numbers
accepted_numbers n k = record { refusal = 0; place = 0; number = n; components = k }

-- as check hands it back
abbrev pub numbers_in : Result Report Fault → Numbers
numbers_in (Ok r) = accepted_numbers r.number r.components
numbers_in (Err f) = refused_numbers f.refusal f.at

-- and as the rule gives them
abbrev pub numbers_of : Got Manifest → Numbers
numbers_of (refused r p) = refused_numbers r p
numbers_of (got m) = accepted_numbers m.number (length m.ids)
