-- Remaining depth and bytes fall: a sequence's commands are one less deep, and a command's sequences stand after it.
use Prim.Native.Nat.{◌-◌}
use Rattle.manifest_accessors.proofs.PlaceLaws.{remaining}
use Rattle.translate_size.specs.Size.{SequenceHere, CommandHere}
use Rattle.translate_size.proofs.SequenceSizes.{Commands}
use Rattle.translate_size.proofs.CommandSizes.{Choices}
use Rattle.translate_size.proofs.sizes.+size_command_size_sequence.Given as goal

abbrev pub decreases-size_command : goal.decreases-size_command
decreases-size_command l = remaining l.s.now l.depth l.at

abbrev pub decreases-size_sequence : goal.decreases-size_sequence
decreases-size_sequence l = remaining l.s.now l.depth l.at

abbrev pub invariant-size_command-loop : goal.invariant-size_command-loop
invariant-size_command-loop l = (j : CommandHere l.s l.table l.depth l.at) → Choices l.s l.table l.depth l.at j.place.cmd j.place.to (l.end - l.counter) l.now

abbrev pub invariant-size_sequence-loop : goal.invariant-size_sequence-loop
invariant-size_sequence-loop l = (j : SequenceHere l.s l.table l.depth l.at) → Commands l.s l.table (l.depth - 1) l.at j.place.seq j.place.to (l.end - l.counter) l.now
