use mathlib.Core.Path.{◌≡◌, refl, sym, ◌∙◌}
use mathlib.Core.Bool.{true, false}
use lib.ListN.{length}
use Rattle.rules.specs.Bytes.{same}
use Rattle.text.specs.Text.{ascii}
use Rattle.device_text.specs.Words as Words
use Rattle.device_description.specs.Scenario as Rule
use Rattle.device_description.proofs.ScenarioLaws.{slot_alone, answer_alone}
use Rattle.device_description.proofs.take_line.Goals as goal

pub returns-then-is_empty : goal.returns-then-is_empty
unfolding Rule.line
returns-then-is_empty c =
    let p : Rule.passed c.args.l.now ≡ true = sym c.is_empty.ensures ∙ c.if-is_empty.true in
    rw p (record { scenario = refl; slots_are = refl; answers_are = refl })

pub returns-then-is : goal.returns-then-is
unfolding Rule.line
returns-then-is c =
    let m = length c.args.slots.now in
    let f : Rule.passed c.args.l.now ≡ false = sym c.is_empty.ensures ∙ c.if-is_empty.false in
    let p : same (Words.word c.args.l.now) (ascii "slot") ≡ true = rw c.word-w.ensures at (sym c.is.ensures ∙ c.if-is.true) in
    rw (f, p, ← c.rest-t.ensures) (record { scenario = c.slot_line.ensures.0; slots_are = c.slot_line.ensures.1; answers_are = rw (slot_alone m c.args.n c.args.d c.rest-t.result.now) })

pub returns-then-is-2 : goal.returns-then-is-2
unfolding Rule.line
returns-then-is-2 c =
    let k = length c.args.answers.now in
    let f : Rule.passed c.args.l.now ≡ false = sym c.is_empty.ensures ∙ c.if-is_empty.false in
    let p : same (Words.word c.args.l.now) (ascii "slot") ≡ false = rw c.word-w.ensures at (sym c.is.ensures ∙ c.if-is.false) in
    let q : same (Words.word c.args.l.now) (ascii "answer") ≡ true = rw c.word-w.ensures at (sym c.is-2.ensures ∙ c.if-is-2.true) in
    rw (f, p, q, ← c.rest-t.ensures) (record { scenario = c.answer_line.ensures.0; slots_are = rw (answer_alone k c.args.n c.args.d c.rest-t.result.now); answers_are = c.answer_line.ensures.1 })

pub returns : goal.returns
unfolding Rule.line
returns c =
    let f : Rule.passed c.args.l.now ≡ false = sym c.is_empty.ensures ∙ c.if-is_empty.false in
    let p : same (Words.word c.args.l.now) (ascii "slot") ≡ false = rw c.word-w.ensures at (sym c.is.ensures ∙ c.if-is.false) in
    let q : same (Words.word c.args.l.now) (ascii "answer") ≡ false = rw c.word-w.ensures at (sym c.is-2.ensures ∙ c.if-is-2.false) in
    rw (f, p, q, ← c.rest-t.ensures, ← c.word-w.ensures) (record { scenario = c.setting.ensures; slots_are = refl; answers_are = refl })
