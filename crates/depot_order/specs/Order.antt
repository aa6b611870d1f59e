-- The order in which a group runs, by the places of the sections that check reported.
use Rattle.std.specs.Prelude.{ℕ, ◌+◌, ◌*◌, ◌≡◌, Bool, true, false, cond, List, [], ◌∷◌, ◌++◌, eqb, get_or}
use Rattle.rules.specs.declared.answers.Group.{Group}
use Rattle.rules.specs.declared.answers.Group.TheVariants.{Install, Boot}
use Rattle.rules.specs.Bytes.{Bytes}
use Rattle.rules.specs.Commands.{COMMON, section_no}
use Rattle.rules.specs.Run.{sections_of, with_common}
use Rattle.text.specs.Text.{Wrote, ascii, newline}
use Rattle.text_names.specs.Words.{section_words}
use Rattle.depot_order.specs.declared.Told.{Told}

-- where the section under a key ends: its places stand at its number
unfoldable pub end_of : List ℕ → ℕ → ℕ
end_of places key = get_or places (2 * section_no key + 1) 0

-- a section by its key, if it is there: one that is not ends at 0
abbrev pub one : ℕ → ℕ → List ℕ
one end key = cond (eqb end 0) [] (key ∷ [])

-- whether it is there
abbrev pub is_there : List ℕ → ℕ → Bool
is_there places key = cond (eqb (end_of places key) 0) false true

-- a key that is told if its section is there
abbrev pub if_there : Bool → ℕ → List ℕ
if_there there key = cond there (key ∷ []) []

-- those of the keys whose sections are there
abbrev pub present : List ℕ → List ℕ → List ℕ
present places [] = []
present places (key ∷ keys) = one (end_of places key) key ++ present places keys

-- 02, T-01: 'common runs before each section present in the group, or once where the group has none'
abbrev pub order_of : Group → List ℕ → List ℕ
order_of group places = with_common (one (end_of places COMMON) COMMON) (present places (sections_of group))

-- names of sections, parted by commas; `some` says whether a name stands before
unfoldable pub parting : Bool → Bytes
parting some = cond some (ascii ", ") (ascii " ")

unfoldable pub names : Bool → List ℕ → Bytes
names some [] = []
names some (key ∷ keys) = parting some ++ section_words key ++ names true keys

-- whether a name stands behind them
unfoldable pub some_after : Bool → List ℕ → Bool
some_after some [] = some
some_after some (key ∷ keys) = true

-- the names of an order, or the word for none
unfoldable pub order_text : List ℕ → Bytes
order_text [] = ascii " nothing"
order_text (key ∷ keys) = names false (key ∷ keys)

abbrev pub group_text : Group → Bytes
group_text Install = ascii "install:"
group_text Boot = ascii "boot:"

unfoldable pub group_line : Group → List ℕ → Bytes
group_line group places = group_text group ++ order_text (order_of group places) ++ newline

unfoldable pub groups_text : List ℕ → Bytes
groups_text places = group_line Install places ++ group_line Boot places

-- the names of the keys were written behind what had been told
pub record Tells (keys : List ℕ) (told : Told) (room : Bytes) (r : Told) (room' : Bytes) : Type 0 where
  pub wrote : Wrote (names told.some keys) told.to room r.to room'
  pub some : r.some ≡ some_after told.some keys
