use mathlib.Core.List.{append-nil}
use mathlib.Core.Path.{sym, ◌∙◌}
use borrow.Author.Tests.{eq-eqb, ne_eqb}
use Rattle.depot_identifiers.specs.Identifier.{identifier_text, read_text}
use Rattle.text.proofs.TextLaws.{wrote_then}
use Rattle.text.specs.Text.{hex}
use Rattle.depot_identifiers.proofs.put_identifier.Goals as goal
use Rattle.depot_identifiers.proofs.put_identifier.Goals.{then-h-ne-ARRAY-via-then-h-ne-ARRAY, then-h-ne-ARRAY-via-else-h-ne-ARRAY+then-not-are_strings, then-h-ne-ARRAY-via-else-h-ne-ARRAY+else-not-are_strings+then-not-one_prints}

pub returns-then-h-ne-ARRAY : goal.returns-then-h-ne-ARRAY
unfolding identifier_text read_text
returns-then-h-ne-ARRAY c =
    elim c.then-h-ne-ARRAY.branch [
      | then-h-ne-ARRAY-via-then-h-ne-ARRAY w ↦
          rw (← c.want-h.ensures, ne_eqb _ _ w.if-h-ne-ARRAY.true, append-nil (hex c.args.s.now)) c.put_hex-to.ensures
      | then-h-ne-ARRAY-via-else-h-ne-ARRAY+then-not-are_strings w ↦
          rw (
            ← c.want-h.ensures,
            eq-eqb _ _ w.if-h-ne-ARRAY.false,
            sym w.are_strings.ensures ∙ w.if-not-are_strings.true,
            append-nil (hex c.args.s.now),
          ) c.put_hex-to.ensures
      | then-h-ne-ARRAY-via-else-h-ne-ARRAY+else-not-are_strings+then-not-one_prints w ↦
          rw (
            ← c.want-h.ensures,
            eq-eqb _ _ w.if-h-ne-ARRAY.false,
            sym w.are_strings.ensures ∙ w.if-not-are_strings.false,
            sym w.one_prints.ensures ∙ w.if-not-one_prints.true,
            append-nil (hex c.args.s.now),
          ) c.put_hex-to.ensures
    ]

pub returns : goal.returns
unfolding identifier_text read_text
returns c =
    rw (
      ← c.want-h.ensures,
      eq-eqb _ _ c.if-h-ne-ARRAY.false,
      sym c.are_strings.ensures ∙ c.if-not-are_strings.false,
      sym c.one_prints.ensures ∙ c.if-not-one_prints.false,
    )
    (wrote_then c.put_hex-to.ensures (wrote_then (wrote_then c.put-a.ensures c.put_parts-b.ensures) c.put_byte.ensures))
