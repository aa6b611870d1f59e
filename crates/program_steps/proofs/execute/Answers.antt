use native.Mathlib.Omega.{arith}
use Rattle.program_steps.proofs.ExecuteLaws.{execute_room, execute_number, execute_space, execute_inside, command-here, onward-here, executed}
use Rattle.program_steps.proofs.execute.Goals as goal

-- the record lies in the bytes
pub bounds-p-at : goal.bounds-p-at
bounds-p-at c = omega (arith, execute_room _ _ _ _ _ _ _ _ c.requires)

pub bounds-p-at-2 : goal.bounds-p-at-2
bounds-p-at-2 c = omega (arith, execute_room _ _ _ _ _ _ _ _ c.requires)

pub act-d-requires : goal.act-d-requires
act-d-requires c =
    command-here _ _ _ _ _ _ _ _ c.requires _ _ c.wide-code.ensures.0 c.wide-index.ensures.0

pub two-requires : goal.two-requires
two-requires c = omega (arith, execute_room _ _ _ _ _ _ _ _ c.requires)

pub put_event-requires : goal.put_event-requires
put_event-requires c =
    (execute_space _ _ _ _ _ _ _ _ c.requires, c.wide-code.ensures.1, c.wide-index.ensures.1, (c.act-d.ensures (command-here _ _ _ _ _ _ _ _ c.requires _ _ c.wide-code.ensures.0 c.wide-index.ensures.0)).1.ends)

pub overflow_add-events : goal.overflow_add-events
overflow_add-events c = omega (arith, execute_space _ _ _ _ _ _ _ _ c.requires)

pub overflow_add-current : goal.overflow_add-current
overflow_add-current c = omega (arith, execute_number _ _ _ _ _ _ _ _ c.requires)

pub overflow_add-at-4 : goal.overflow_add-at-4
overflow_add-at-4 c = omega (arith, execute_room _ _ _ _ _ _ _ _ c.requires)

pub two-requires-2 : goal.two-requires-2
two-requires-2 c = omega (arith, execute_room _ _ _ _ _ _ _ _ c.requires)

pub onward-requires : goal.onward-requires
onward-requires c =
    onward-here _ _ _ _ _ _ _ _ c.requires _ _ c.wide-code.ensures.0 c.wide-index.ensures.0 _ (c.act-d.ensures (command-here _ _ _ _ _ _ _ _ c.requires _ _ c.wide-code.ensures.0 c.wide-index.ensures.0)).0 _ c.two-2.ensures.0

pub returns : goal.returns
returns c = λ j.
    let (en, does) = c.act-d.ensures (command-here _ _ _ _ _ _ _ _ j _ _ c.wide-code.ensures.0 c.wide-index.ensures.0) in
    let lent = j.ready.lent in
    executed _ _ _ _ _ _ _ _ j _ _ c.wide-code.ensures.0 c.wide-index.ensures.0 _ en _ c.two-2.ensures.0 _ c.two.ensures.0 _ _ _ _
    (does.does j.env _ _ lent.host (execute_inside _ _ _ _ _ _ _ _ j _ _ c.wide-code.ensures.0 c.wide-index.ensures.0) lent.fit) c.put_event.ensures
    (does.fit _ lent.fit j.ready.among) does.kept
    _ c.ended-done.ensures _ (c.onward.ensures (onward-here _ _ _ _ _ _ _ _ j _ _ c.wide-code.ensures.0 c.wide-index.ensures.0 _ en _ c.two-2.ensures.0))
