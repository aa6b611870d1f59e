use native.Mathlib.Omega.{arith}
use Rattle.manifest_accessors.proofs.HeadLaws.{headed-first, headed-short, headed_1, headed_2, headed_4}
use Rattle.manifest_accessors.proofs.heads.open.Goals as goal

pub bounds-s-at : goal.bounds-s-at
bounds-s-at c = omega (arith, headed-first _ _ c.requires)

pub overflow_add-next : goal.overflow_add-next
overflow_add-next c = omega (arith, headed-first _ _ c.requires)

pub returns-then-low-lt24 : goal.returns-then-low-lt24
returns-then-low-lt24 c = λ x. let h = headed-short _ _ x (omega arith) in (omega arith, omega arith)

pub bounds-s-next : goal.bounds-s-next
bounds-s-next c = omega (arith, headed_1 _ _ c.requires (omega arith))

pub overflow_add-result : goal.overflow_add-result
overflow_add-result c = omega (arith, headed_1 _ _ c.requires (omega arith))

pub returns-then-low-eq24 : goal.returns-then-low-eq24
returns-then-low-eq24 c = λ x. let h = headed_1 _ _ x (omega arith) in (omega arith, omega arith)

pub two-requires : goal.two-requires
two-requires c = omega (arith, headed_2 _ _ c.requires (omega arith))

pub overflow_add-result-then-low-eq25 : goal.overflow_add-result-then-low-eq25
overflow_add-result-then-low-eq25 c = omega (arith, headed_2 _ _ c.requires (omega arith))

pub returns-then-low-eq25 : goal.returns-then-low-eq25
returns-then-low-eq25 c = λ x. let h = headed_2 _ _ x (omega arith) in (omega arith, omega arith)

pub four-requires : goal.four-requires
four-requires c = omega (arith, headed_4 _ _ c.requires (λ j. omega arith) (λ j. omega arith) (λ j. omega arith))

pub overflow_add-result-2 : goal.overflow_add-result-2
overflow_add-result-2 c = omega (arith, headed_4 _ _ c.requires (λ j. omega arith) (λ j. omega arith) (λ j. omega arith))

pub returns : goal.returns
returns c = λ x. let h = headed_4 _ _ x (λ j. omega arith) (λ j. omega arith) (λ j. omega arith) in (omega arith, omega arith)
