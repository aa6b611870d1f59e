-- The head of a record, by the places of a program's bytes.
use Rattle.std.specs.Prelude.{ℕ, ◌+◌, Bool, cond, ◌&&◌, eqb, ltb, leb, length, get_or, Option, Some, None}
use Rattle.rules.specs.Bytes.{Bytes, part, num}
use Rattle.rules.specs.ProgramFormat.{mark, JUMP, code_from, component_from, place_from, target_from, argument_from, record_size}

-- the mark's bytes
abbrev pub mark₁ : ℕ
mark₁ = get_or mark 0 0

abbrev pub mark₂ : ℕ
mark₂ = get_or mark 1 0

-- the place after the record at `at`, by the length of its argument; whether its bytes lie in p and its mark is there; and none if not
abbrev pub next_at : Bytes → ℕ → ℕ
next_at p at = at + record_size + num (part p (at + argument_from) 2)

abbrev pub record_fits : Bytes → ℕ → Bool
record_fits p at =
    leb (at + record_size) (length p) && eqb (get_or p at 0) mark₁ && eqb (get_or p (at + 1) 0) mark₂ && leb (next_at p at) (length p)

unfoldable pub record_end : Bytes → ℕ → Option ℕ
record_end p at = cond (record_fits p at) (Some (next_at p at)) None

-- record n of `total`, from `at` to `next`, by places: the tests of a jump
abbrev pub jump_fits : Bytes → ℕ → ℕ → ℕ → ℕ → Bool
jump_fits p at next total n =
    eqb (get_or p (at + code_from) 0) JUMP
    && eqb (get_or p (at + component_from) 0) 0
    && eqb (num (part p (at + place_from) 2)) 0
    && eqb next (at + record_size)
    && (ltb n (num (part p (at + target_from) 2)) && leb (num (part p (at + target_from) 2)) total)
