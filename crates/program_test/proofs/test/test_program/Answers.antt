use mathlib.Core.Path.{refl, sym, ◌∙◌}
use mathlib.Core.Logic.{inl, inr}
use native.Mathlib.Omega.{arith}
use Rattle.program_test.proofs.ProgramLaws.{Started, Front, start-good, start-refused, names-refused, read, repeat_refused, none-read, records-refused, commands-refused, program-good}
use Rattle.program_test.proofs.test.test_program.Goals as goal
use Rattle.program_test.proofs.test.test_program.Goals.{Else-not-start_fits, After-two-records}

start : (c : Else-not-start_fits) → Started c.args.p.now
start c = start-good _ (sym c.start_fits.ensures ∙ c.if-not-start_fits.false)

front : (c : After-two-records) → Front c.args.p.now c.group_of-group.result c.wide-components.result c.two-records.result
front c =
    record {
      start = start-good _ (sym c.start_fits.ensures ∙ c.if-not-start_fits.false);
      group = c.group_of-group.ensures;
      components = c.wide-components.ensures.0;
      records = c.two-records.ensures.0;
    }

pub returns-then-not-start_fits : goal.returns-then-not-start_fits
returns-then-not-start_fits c = start-refused _ _ (sym c.start_fits.ensures ∙ c.if-not-start_fits.true) refl

pub bounds-p-3 : goal.bounds-p-3
bounds-p-3 c = omega (arith, (start (goal.at.bounds-p-3 c).Else-not-start_fits).room)

pub group_of-group-requires : goal.group_of-group-requires
group_of-group-requires c = (start (goal.at.group_of-group-requires c).Else-not-start_fits).group

pub bounds-p-8 : goal.bounds-p-8
bounds-p-8 c = omega (arith, (start (goal.at.bounds-p-8 c).Else-not-start_fits).room)

pub two-records-requires : goal.two-records-requires
two-records-requires c = omega (arith, (start (goal.at.two-records-requires c).Else-not-start_fits).room)

pub test_names-requires : goal.test_names-requires
test_names-requires c =
    ((start (goal.at.test_names-requires c).Else-not-start_fits).room, omega (arith, (start (goal.at.test_names-requires c).Else-not-start_fits).most, c.wide-components.ensures.0), refl)

pub returns-in_err-from : goal.returns-in_err-from
returns-in_err-from c =
    names-refused _ _ _ _ (front (goal.at.returns-in_err-from c).After-two-records) _ c.in_err-from.ensures _ c.from_residual.ensures

pub repeated_one-requires : goal.repeated_one-requires
repeated_one-requires c = (
  omega (arith, (start (goal.at.repeated_one-requires c).Else-not-start_fits).most, c.wide-components.ensures.0),
  (read _ _ _ _ (front (goal.at.repeated_one-requires c).After-two-records) _ _ c.in_ok-from.ensures).within,
)

pub returns-then-is_some : goal.returns-then-is_some
returns-then-is_some c =
    repeat_refused _ _ _ _ (front (goal.at.returns-then-is_some c).After-two-records) _ _ c.in_ok-from.ensures
    _ c.repeated_one.ensures _ (sym c.is_some.ensures ∙ c.if-is_some.true) refl

pub test_records-requires : goal.test_records-requires
test_records-requires c = (
  (read _ _ _ _ (front (goal.at.test_records-requires c).After-two-records) _ _ c.in_ok-from.ensures).here,
  c.tables-table.ensures,
  omega (arith, (start (goal.at.test_records-requires c).Else-not-start_fits).records, c.two-records.ensures.0),
)

pub returns-in_err-read : goal.returns-in_err-read
returns-in_err-read c =
    none-read _ _ _ _ (front (goal.at.returns-in_err-read c).After-two-records) _ _ c.in_ok-from.ensures
    _ c.repeated_one.ensures (sym c.is_some.ensures ∙ c.if-is_some.false) c.in_err-read.ensures _ c.from_residual-in_err-read.ensures

pub returns-then-read-p : goal.returns-then-read-p
returns-then-read-p c =
    let f = front (goal.at.returns-then-read-p c).After-two-records in
    let once = sym c.is_some.ensures ∙ c.if-is_some.false in
    elim c.then-read-p.either [
      | inl h ↦ records-refused _ _ _ _ f _ _ c.in_ok-from.ensures _ c.repeated_one.ensures once _ c.in_ok-read.ensures _ h refl
      | inr h ↦ commands-refused _ _ _ _ f _ _ c.in_ok-from.ensures _ c.repeated_one.ensures once _ c.in_ok-read.ensures _ h.1 refl
    ]

pub four-requires : goal.four-requires
four-requires c = omega (arith, (start (goal.at.four-requires c).Else-not-start_fits).room)

pub returns : goal.returns
returns c =
    program-good _ _ _ _ (front (goal.at.returns c).After-two-records) _ _ c.in_ok-from.ensures
    _ c.repeated_one.ensures (sym c.is_some.ensures ∙ c.if-is_some.false) _ c.in_ok-read.ensures _ c.four.ensures (omega arith) (omega arith)
