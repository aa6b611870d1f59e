-- A command by its code and argument.
use Rattle.std.specs.Prelude.{ℕ, ◌+◌, ◌≤◌, ◌<◌, ◌≡◌, cond, eqb, length}
use Rattle.rules.specs.Bytes.{Bytes, part}
use Rattle.rules.specs.Commands.{Op, vendor, class, image_match, set_index, abort, set_params, override_params, fetch, copy, run, swap, code}
use Rattle.rules.specs.Limits.{limits}
use Rattle.run_slots.specs.declared.params.Params.{Params}
use Rattle.run_slots.specs.Params.{meaning}

-- op, where c is its code
abbrev coded : ℕ → Op → Op → Op
coded c op other = cond (eqb c (code op)) op other

-- the command of code c in the bytes s: with the vendor or class at v, or v as the new index; with the parameters p
unfoldable pub op_of : Bytes → ℕ → ℕ → Params → Op
op_of s c v p =
    coded c (vendor (part s v limits.class))
    (coded c (class (part s v limits.class))
    (coded c image_match
    (coded c (set_index v)
    (coded c abort
    (coded c (set_params (meaning s p))
    (coded c (override_params (meaning s p)) (coded c fetch (coded c copy (coded c run swap)))))))))

-- c is the code of a command that writes an event
abbrev pub IsCode : Bytes → ℕ → ℕ → Params → Type 0
IsCode s c v p = code (op_of s c v p) ≡ c

-- the vendor or class at v, which are the arguments of the codes before that of an image match, lies in s
abbrev pub SixteenAt : Bytes → ℕ → ℕ → Type 0
SixteenAt s c v = c < code image_match → v + limits.class ≤ length s
