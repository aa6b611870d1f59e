-- The order of a run's refusals where two are due (01, Refusal numbers: 85 stands before 83 in the table).
use Prim.Native.Nat.{ℕ}
use mathlib.Core.Path.{◌≡◌}
use mathlib.Core.List.{List}
use mathlib.Core.Bool.{true, false}
use Rattle.rules.specs.Base.{Group, BadSlots}
use Rattle.rules.specs.Bytes.{Bytes}
use Rattle.rules.specs.Got.{refused}
use Rattle.rules.specs.Slots.{good_slots}
use Rattle.rules.specs.Run.{Input, may_start, number_fits, admit}

-- bad slots are 85 whether or not each component has a slot
pub bad_slots_first : (group : Group) (number : ℕ) (ids : List Bytes) (x : Input) → x.verdict ≡ true → may_start group x.device ≡ true → number_fits group number x.device ≡ true →
    good_slots x.slots ≡ false → admit group number ids x ≡ refused BadSlots 0
unfolding admit
bad_slots_first group number ids x v s n g = rw (v, s, n, g)
