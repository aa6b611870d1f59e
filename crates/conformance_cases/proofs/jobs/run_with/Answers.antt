use Prim.Native.Nat.{ℕ}
use mathlib.Core.Path.{◌≡◌, ◌∙◌}
use mathlib.Core.List.{append-nil}
use native.Mathlib.Omega.{arith}
use native.Mathlib.Nat.{zero-add}
use lib.ListN.{length, drop_of_length-le}
use lib.Seq.{sets-eq}
use Rattle.rules.specs.Bytes.{Bytes}
use Rattle.text.specs.Text.{Wrote}
use Rattle.conformance_cases.proofs.jobs.run_with.Goals as goal

-- bytes that were written over all of a room
wrote-whole : {b : Bytes} {room : Bytes} {r : ℕ} {room' : Bytes} → length room ≡ length b → Wrote b 0 room r room' → room' ≡ b
wrote-whole {b} {room} e w =
    w.filled ∙ sets-eq b room 0 (omega arith) ∙ rw (zero-add (length b), drop_of_length-le room {i = length b} (omega arith)) (append-nil b)

pub returns : goal.returns
returns c =
    let s = wrote-whole c.requires.1 c.put.ensures in
    let g = rw (s, c.fill.ensures) at c.run_by-answer.ensures in
    rw (g.0, g.1, g.2) at c.put_run.ensures
