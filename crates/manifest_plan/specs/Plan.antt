-- The sequences that a group does, by where they start: from the places of the sections that check reported.
use Rattle.std.specs.Prelude.{ℕ, zero, suc, ◌+◌, ◌-◌, ◌*◌, ◌≡◌, Bool, false, cond, List, [], ◌∷◌, ◌++◌, eqb, length, get_or}
use Rattle.rules.specs.declared.answers.Group.{Group}
use Rattle.rules.specs.Lent.{Lent, was, left}
use Rattle.rules.specs.Bytes.{put}
use Rattle.rules.specs.Limits.{section_count}
use Rattle.rules.specs.Commands.{section_key, among}
use Rattle.rules.specs.Run.{sections_of, with_common}

-- whether section k is there, and the group's
abbrev pub does : Group → List ℕ → ℕ → Bool
does group places k = cond (eqb (get_or places (2 * k + 1) 0) 0) false (among (section_key k) (sections_of group))

-- where section k starts, if it is there
abbrev pub start_at : List ℕ → ℕ → List ℕ
start_at places k = cond (eqb (get_or places (2 * k + 1) 0) 0) [] (get_or places (2 * k) 0 ∷ [])

-- where the group's sections start, of the `left` sections from number k on
abbrev pub section_starts : Group → List ℕ → ℕ → ℕ → List ℕ
section_starts group places zero k = []
section_starts group places (suc left) k =
    cond (does group places k) (get_or places (2 * k) 0 ∷ section_starts group places left (k + 1)) (section_starts group places left (k + 1))

-- what section k adds to the plan: common and itself, if the group does it
abbrev pub turn : Group → List ℕ → ℕ → List ℕ
turn group places k = cond (does group places k) (start_at places 0 ++ start_at places k) []

-- 02, T-01: 'common runs before each section present in the group, or once where the group has none'
abbrev pub starts_of : Group → List ℕ → List ℕ
starts_of group places = with_common (start_at places 0) (section_starts group places (section_count - 1) 1)

-- those starts were put into the array from n on, and r is the number after the last
abbrev pub Puts : List ℕ → ℕ → Lent → ℕ → Type 0
Puts new n starts r = (left starts ≡ put (was starts) n new) × (r ≡ n + length new)
