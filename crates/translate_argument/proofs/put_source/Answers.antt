use Prim.Native.Nat.{◌+◌, ◌-◌, ◌≤◌}
use mathlib.Core.List.{[], ◌∷◌}
use native.Mathlib.Omega.{arith}
use lib.ListN.{length, length-set}
use Rattle.rules.specs.ProgramFormat.{entry_size, source_bytes}
use Rattle.byte_buffer.proofs.PutLaws.{in_a_row}
use Rattle.translate_argument.proofs.FillLaws.{unset-filled, set-fits, set-filled}
use Rattle.translate_argument.proofs.put_source.Goals as goal
use Rattle.translate_argument.proofs.put_source.Goals.{Else-source-eq0}

fits : (c : Else-source-eq0) → c.args.to + entry_size + source_bytes ≤ length c.args.room.now
fits c = omega (arith, set-fits 10 (λ n. n ∷ []) _ _ _ _ c.if-source-eq0.false c.requires.1)

pub returns-then-source-eq0 : goal.returns-then-source-eq0
returns-then-source-eq0 c = unset-filled 10 (λ n. n ∷ []) _ _ _ _ c.if-source-eq0.true

pub bounds-room-to : goal.bounds-room-to
bounds-room-to c = omega (arith, fits (goal.at.bounds-room-to c).Else-source-eq0)

pub bounds-room-to-2 : goal.bounds-room-to-2
bounds-room-to-2 c = simp length-set (omega (arith, fits (goal.at.bounds-room-to-2 c).Else-source-eq0))

pub bounds-room-to-3 : goal.bounds-room-to-3
bounds-room-to-3 c = simp length-set (omega (arith, fits (goal.at.bounds-room-to-3 c).Else-source-eq0))

pub returns : goal.returns
returns c =
    set-filled 10 (λ n. n ∷ []) _ _ _ _ c.if-source-eq0.false _ (omega arith) _ (in_a_row c.args.room.now c.args.to (10 ∷ []) ((source_bytes ∷ []) ∷ ((c.args.source - 1) ∷ []) ∷ []))
