-- The depth that is left and the bytes that are left: a sequence gives its commands less of both, a command gives its sequences less bytes.
use Rattle.std.proofs.Common.{◌≡◌, ◌+◌, ◌*◌, ◌<◌, ◌-◌}
use Rattle.rules.specs.Manifest.{count, count_cmd}
use Rattle.rules.specs.Check.{command, commands_at, sequence_at}
use Rattle.cbor_reading.specs.Reading.{reading}
use Rattle.check_sequence.proofs.SequenceLaws.{nested}
use Rattle.check_sequence.proofs.+check_command_check_sequence.Given as goal

abbrev pub decreases-check_command : goal.decreases-check_command
decreases-check_command l = l.depth + (l.end - l.at)

abbrev pub decreases-check_sequence : goal.decreases-check_sequence
decreases-check_sequence l = l.depth + (l.end - l.at)

-- the command is the sequences that are left
abbrev pub invariant-check_command-loop : goal.invariant-check_command-loop
invariant-check_command-loop l =
    (reading (λ c. l.commands + l.weight * count_cmd c)
    (command l.s (sequence_at l.s l.components l.section l.weight l.depth) l.components l.section l.weight l.commands l.end l.at)
    ≡ reading (λ c. c) (nested l.s (sequence_at l.s l.components l.section l.weight l.depth) l.weight (l.count - l.counter) l.sum l.end l.p))
    × (l.at < l.p)

-- the sequence is the commands that are left
abbrev pub invariant-check_sequence-loop : goal.invariant-check_sequence-loop
invariant-check_sequence-loop l =
    (reading (λ a. l.commands + l.weight * count a) (sequence_at l.s l.components l.section l.weight l.depth l.commands l.end l.at)
    ≡ reading (λ a. l.sum + l.weight * count a)
    (commands_at l.s (sequence_at l.s l.components l.section l.weight (l.depth - 1)) l.components l.section l.weight (l.count - l.counter) l.sum l.end l.p))
    × (l.at < l.p)
