use native.Mathlib.Omega.{arith}
use Rattle.check_newer.proofs.NewerLaws.{first_lies, second_lies}
use Rattle.check_newer.proofs.newer.Goals as goal

pub slice_bounds-result-count : goal.slice_bounds-result-count
slice_bounds-result-count c = omega (arith, first_lies _ _ _ c.in-First.ensures)

pub slice_bounds-result-start : goal.slice_bounds-result-start
slice_bounds-result-start c = omega (arith, first_lies _ _ _ c.in-First.ensures)

pub slice_bounds-result-end : goal.slice_bounds-result-end
slice_bounds-result-end c = omega (arith, first_lies _ _ _ c.in-First.ensures)

pub slice_bounds-result-count-in-Second : goal.slice_bounds-result-count-in-Second
slice_bounds-result-count-in-Second c = omega (arith, second_lies _ _ _ c.in-Second.ensures)

pub slice_bounds-result-start-in-Second : goal.slice_bounds-result-start-in-Second
slice_bounds-result-start-in-Second c = omega (arith, second_lies _ _ _ c.in-Second.ensures)

pub slice_bounds-result-end-in-Second : goal.slice_bounds-result-end-in-Second
slice_bounds-result-end-in-Second c = omega (arith, second_lies _ _ _ c.in-Second.ensures)
