use Prim.Native.Nat.{ℕ, ◌-◌, ◌*◌, ◌<◌}
use mathlib.Core.Path.{◌≡◌, sym, ◌∙◌}
use mathlib.Core.Bool.{cond}
use lib.Dec.{eqb}
use native.Mathlib.Omega.{arith}
use borrow.Author.Tests.{eq-eqb, ne_eqb}
use Rattle.rules.specs.Bytes.{Bytes, two_at}
use Rattle.rules.specs.Run.{last_place}
use Rattle.rules.specs.Step.{event_bytes, event_place}
use Rattle.rules.proofs.BytesLaws.{num_2}
use Rattle.run_ending.specs.Answer.{LastEvent}
use Rattle.run_ending.proofs.last_place.Goals as goal

-- where the place of the last of that many events stands
abbrev at : ℕ → ℕ
at events = event_bytes * events - (event_bytes - event_place)

last-law : (s : Bytes) (end events r : ℕ) → (end ≡ 0 → ⊥) → LastEvent end events s → r ≡ two_at s (at events) → r ≡ cond (eqb end 0) 0 (last_place events s)
last-law s end events r d (l, f) e = let g : 0 < events = l (omega arith) in rw (ne_eqb end 0 d) (e ∙ sym (num_2 s (at events) (omega arith)))

pub returns-then-end-eq-FINISHED : goal.returns-then-end-eq-FINISHED
returns-then-end-eq-FINISHED c = rw (eq-eqb _ 0 c.if-end-eq-FINISHED.true)

pub overflow_sub-events : goal.overflow_sub-events
overflow_sub-events c = omega (arith, c.requires.0 (omega (arith, c.if-end-eq-FINISHED.false)))

pub two-requires : goal.two-requires
two-requires c = omega (arith, c.requires.0 (omega (arith, c.if-end-eq-FINISHED.false)), c.requires.1)

pub returns : goal.returns
returns c = last-law _ _ _ _ c.if-end-eq-FINISHED.false c.requires c.two.ensures.0
