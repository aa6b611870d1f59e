use mathlib.Core.Path.{◌≡◌, refl, sym, ◌∙◌}
use mathlib.Core.Logic.{inl, inr}
use Prim.Native.Nat.{◌+◌, ◌-◌}
use native.Mathlib.Omega.{arith}
use borrow.Author.Rules.{rules}
use Rattle.text.proofs.TextLaws.{wrote_then}
use Rattle.depot_show.proofs.ShownLaws.{rest-done, behind_shows}
use Rattle.depot_show.proofs.WalkLaws.{no_alternatives, alternatives-on, no_commands, commands-on, nested_shows, command-nested}
use Rattle.depot_show.proofs.WalkLaws.{command-alternatives, command-parameters, command-plain, sequence-none, sequence-stopped}
use Rattle.depot_show.proofs.WalkLaws.{sequence-commands}
use Rattle.depot_show.proofs.walk.+put_alternatives_put_command_put_commands_put_nested_put_sequence.Goals as goal

pub put_alternatives-returns-then-e-next : goal.put_alternatives-returns-then-e-next
put_alternatives-returns-then-e-next t c =
    rest-done _ c.loop-n.invariant (no_alternatives _ _ _ _ _ _ _ (inl c.if-e-next.true))

pub put_alternatives-loop-n-preserved : goal.put_alternatives-loop-n-preserved
put_alternatives-loop-n-preserved t c =
    let e : c.args.count - (c.args.count - (c.loop-n.n + 1)) ≡ c.loop-n.n + 1 = omega arith in
    alternatives-on _ _ _ _ _ _ _ _ (omega arith) c.if-e-next.false c.loop-n.invariant
    (behind_shows (rw (← e) at c.put_alternative-line.ensures) c.put_nested-a.ensures)

pub put_alternatives-returns : goal.put_alternatives-returns
put_alternatives-returns t c =
    rest-done _ c.loop-n.invariant (no_alternatives _ _ _ _ _ _ _ (inr (omega arith)))

pub put_command-returns-then-holds_sequence : goal.put_command-returns-then-holds_sequence
put_command-returns-then-holds_sequence t c =
    rw (command-nested _ _ _ _ _ _ c.want-c.ensures (sym c.holds_sequence.ensures ∙ c.if-holds_sequence.true))
    (behind_shows (wrote_then c.put_title-title.ensures c.put_byte-below.ensures) c.put_nested.ensures)

pub put_command-returns-in-4 : goal.put_command-returns-in-4
put_command-returns-in-4 t c =
    rw (command-alternatives _ _ _ _ _ _ c.want-c.ensures _ c.look-i.ensures (sym c.holds_sequence.ensures ∙ c.if-holds_sequence.false) c.in-4.is)
    (behind_shows (wrote_then (wrote_then c.put_title-title.ensures c.put_argument-argument.ensures) c.put_byte-line.ensures) c.put_alternatives.ensures)

pub put_command-returns-in-5 : goal.put_command-returns-in-5
put_command-returns-in-5 t c =
    rw (command-parameters _ _ _ _ _ _ c.want-c.ensures _ c.look-i.ensures (sym c.holds_sequence.ensures ∙ c.if-holds_sequence.false) (λ q. omega arith) c.in-5.is)
    (behind_shows (wrote_then (wrote_then c.put_title-title.ensures c.put_argument-argument.ensures) c.put_byte-line.ensures) c.put_parameters.ensures)

pub put_command-returns-in_default : goal.put_command-returns-in_default
put_command-returns-in_default t c =
    rw (command-plain _ _ _ _ _ _ c.want-c.ensures _ c.look-i.ensures (sym c.holds_sequence.ensures ∙ c.if-holds_sequence.false) (search rules) (search rules))
    (record { next = refl; wrote = wrote_then (wrote_then c.put_title-title.ensures c.put_argument-argument.ensures) c.put_byte-line.ensures })

pub put_commands-returns-then-e-next : goal.put_commands-returns-then-e-next
put_commands-returns-then-e-next t c =
    rest-done _ c.loop.invariant (no_commands _ _ _ _ _ _ (inl c.if-e-next.true))

pub put_commands-loop-preserved : goal.put_commands-loop-preserved
put_commands-loop-preserved t c =
    commands-on _ _ _ _ _ _ _ (omega arith) c.if-e-next.false c.loop.invariant c.put_command-c.ensures

pub put_commands-returns : goal.put_commands-returns
put_commands-returns t c =
    rest-done _ c.loop.invariant (no_commands _ _ _ _ _ _ (inr (omega arith)))

pub put_nested-returns : goal.put_nested-returns
put_nested-returns t c = nested_shows _ _ _ _ _ c.want-b.ensures c.put_sequence-r.ensures

pub put_sequence-returns-then-depth-eq0 : goal.put_sequence-returns-then-depth-eq0
put_sequence-returns-then-depth-eq0 t c = rw (sequence-none _ _ _ _ c.if-depth-eq0.true) c.put_stop.ensures

pub put_sequence-returns-then-h-ne-ARRAY : goal.put_sequence-returns-then-h-ne-ARRAY
put_sequence-returns-then-h-ne-ARRAY t c =
    rw (sequence-stopped _ _ _ _ c.if-depth-eq0.false _ c.want-h.ensures c.if-h-ne-ARRAY.true) c.put_stop-then-h-ne-ARRAY.ensures

pub put_sequence-returns : goal.put_sequence-returns
put_sequence-returns t c =
    rw (sequence-commands _ _ _ _ c.if-depth-eq0.false _ c.want-h.ensures c.if-h-ne-ARRAY.false) c.put_commands.ensures
