-- The walk ends by the depth: a sequence calls its commands one level deeper. The invariant of both loops: what is written, and what is
-- left, make the whole.
use Prim.Native.Nat.{◌+◌, ◌-◌, ◌*◌}
use Rattle.depot_show.specs.Shown.{sequence_shown, alternatives_shown, commands_shown}
use Rattle.depot_show.proofs.ShownLaws.{Rest}
use Rattle.depot_show.proofs.walk.+put_alternatives_put_command_put_commands_put_nested_put_sequence.Given as goal

abbrev pub decreases-put_alternatives : goal.decreases-put_alternatives
decreases-put_alternatives l = 5 * l.depth + 2

abbrev pub decreases-put_command : goal.decreases-put_command
decreases-put_command l = 5 * l.depth + 3

abbrev pub decreases-put_commands : goal.decreases-put_commands
decreases-put_commands l = 5 * l.depth + 4

abbrev pub decreases-put_nested : goal.decreases-put_nested
decreases-put_nested l = 5 * l.depth + 1

abbrev pub decreases-put_sequence : goal.decreases-put_sequence
decreases-put_sequence l = 5 * l.depth

abbrev pub invariant-put_alternatives-loop-n : goal.invariant-put_alternatives-loop-n
invariant-put_alternatives-loop-n l =
    Rest (alternatives_shown l.s (sequence_shown l.s l.depth) l.depth l.count l.count l.e l.at) l.to l.initial.room (alternatives_shown l.s (sequence_shown l.s l.depth) l.depth l.count (l.count - l.n) l.e l.next) l.end l.room

abbrev pub invariant-put_commands-loop : goal.invariant-put_commands-loop
invariant-put_commands-loop l =
    Rest (commands_shown l.s (sequence_shown l.s l.depth) l.depth l.count l.e l.at) l.to l.initial.room (commands_shown l.s (sequence_shown l.s l.depth) l.depth (l.count - l.counter) l.e l.next) l.end l.room
