use mathlib.Core.Path.{sym}
use native.Mathlib.Omega.{arith}
use Rattle.rules.proofs.CborLaws.{first-long, starts_1, starts_2, starts_4, head_negative, head-high, head-wide, head-cut, head-whole}
use Rattle.cbor_heads.proofs.long_head.Goals as goal
use Rattle.cbor_heads.proofs.long_head.Goals.{then-kind-eq1-via-then-kind-eq1, then-kind-eq1-via-else-kind-eq1+then-kind-gt-MAP}

pub returns-then-kind-eq1 : goal.returns-then-kind-eq1
returns-then-kind-eq1 c =
    elim c.then-kind-eq1.branch [
      | then-kind-eq1-via-then-kind-eq1 w ↦ sym (head_negative _ _ _ (omega arith))
      | then-kind-eq1-via-else-kind-eq1+then-kind-gt-MAP w ↦ sym (head-high _ _ _ (omega arith) (λ l u. omega arith))
    ]

pub returns-in-24 : goal.returns-in-24
returns-in-24 c =
    head-whole _ _ _ _ _ _ _ (starts_1 _ _ _ _ (first-long _ _ 24 (λ q. omega arith) (omega arith)) (omega arith)) (omega arith) (omega arith) _
    (λ l. c.shortest.ensures.0 (omega arith)) (λ l. c.shortest.ensures.1 (omega arith))

pub returns-in_default : goal.returns-in_default
returns-in_default c = sym (head-cut _ _ _ _ (first-long _ _ 24 (λ q. omega arith) (omega arith)) (omega arith))

pub returns-in-25 : goal.returns-in-25
returns-in-25 c =
    head-whole _ _ _ _ _ _ _ (starts_2 _ _ _ _ (first-long _ _ 25 (λ q. omega arith) (omega arith)) (omega arith)) (omega arith) (omega arith) _
    (λ l. c.shortest-in-25.ensures.0 (omega arith)) (λ l. c.shortest-in-25.ensures.1 (omega arith))

pub returns-in_default-2 : goal.returns-in_default-2
returns-in_default-2 c = sym (head-cut _ _ _ _ (first-long _ _ 25 (λ q. omega arith) (omega arith)) (omega arith))

pub returns-in-26 : goal.returns-in-26
returns-in-26 c =
    head-whole _ _ _ _ _ _ _ (starts_4 _ _ _ _ (first-long _ _ 26 (λ q. omega arith) (omega arith)) (omega arith)) (omega arith) (omega arith) _
    (λ l. c.shortest-in-26.ensures.0 (omega arith)) (λ l. c.shortest-in-26.ensures.1 (omega arith))

pub returns-in_default-3 : goal.returns-in_default-3
returns-in_default-3 c = sym (head-cut _ _ _ _ (first-long _ _ 26 (λ q. omega arith) (omega arith)) (omega arith))

pub returns-in_default-4 : goal.returns-in_default-4
returns-in_default-4 c = sym (head-wide _ _ _ (omega arith))
