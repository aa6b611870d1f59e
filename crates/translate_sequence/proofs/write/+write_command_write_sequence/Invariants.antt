-- Remaining depth and bytes fall: a sequence's commands are one less deep, and a command's sequences stand after it.
use Prim.Native.Nat.{◌+◌, ◌-◌}
use lib.ListN.{length}
use mathlib.Core.Path.{◌≡◌}
use Rattle.rules.specs.Program.{flat_seq}
use Rattle.manifest_accessors.specs.Arguments.{is_true}
use Rattle.manifest_accessors.proofs.PlaceLaws.{remaining}
use Rattle.translate_sequence.specs.Write.{CommandJob}
use Rattle.translate_sequence.proofs.WriteLaws.{CommandsJob, Loop}
use Rattle.translate_sequence.proofs.WriteLaws.{AltsLoop}
use Rattle.translate_sequence.proofs.write.+write_command_write_sequence.Given as goal

abbrev pub decreases-write_command : goal.decreases-write_command
decreases-write_command l = remaining l.s.now l.depth l.state.next

abbrev pub decreases-write_sequence : goal.decreases-write_sequence
decreases-write_sequence l = remaining l.s.now l.depth l.state.next

abbrev pub invariant-write_command-loop : goal.invariant-write_command-loop
invariant-write_command-loop l =
    (length l.room ≡ length l.initial.room) × ((j : CommandJob l.s l.table l.depth l.state l.initial.room) → AltsLoop l.s l.table l.depth j.n j.place.cmd j.place.to l.target l.state l.initial.room l.z l.room (l.end + 1 - l.counter) l.now)

abbrev pub invariant-write_sequence-loop : goal.invariant-write_sequence-loop
invariant-write_sequence-loop l =
    (length l.room ≡ length l.initial.room) × ((x : CommandsJob l.s l.table (l.depth - 1) l.end l.initial.now l.initial.room) →
    Loop l.s l.table (l.depth - 1) l.coercible l.target l.beyond x.n x.place.to (flat_seq x.place.cmds l.coercible l.initial.now.index (is_true l.initial.now.coerce) l.target l.beyond l.initial.now.n) l.initial.now l.initial.room l.room (l.end - l.counter) l.now)
