-- Slots in lent bytes.
use Rattle.std.specs.Prelude.{ℕ, ◌+◌, ◌*◌, ◌/◌, ◌≤◌, ◌<◌, length, get_or}
use Rattle.rules.specs.Bytes.{Bytes}
use Rattle.rules.specs.Limits.{limits}
use Rattle.rules.specs.Slots.{slot_bytes}

-- the slot of number k is there
abbrev pub Holds : Bytes → ℕ → Type 0
Holds b k = slot_bytes * k + slot_bytes ≤ length b

-- each slot's identifier is no longer than it may be
abbrev pub Short : Bytes → Type 0
Short b = (k : ℕ) → k < length b / slot_bytes → get_or b (slot_bytes * k) 0 ≤ limits.identifier
