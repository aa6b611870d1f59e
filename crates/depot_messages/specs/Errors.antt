-- The words for errors of the system.
use Rattle.std.specs.Prelude.{ℕ, cond, List, [], ◌∷◌, ltb, length}
use Rattle.text.specs.Text.{Bytes, ascii, position}
use Rattle.text_pieces.specs.Pieces.{labelled}
use Rattle.text_rows.specs.Rows.{Row, ◌means◌, word_of, numbers}

-- the errors that have words, as Linux numbers them
unfoldable pub errors : List Row
errors =
    2 means "no such file or folder"
    ∷ 13 means "permission denied"
    ∷ 17 means "there already"
    ∷ 20 means "a part of the name is no folder"
    ∷ 21 means "is a folder"
    ∷ 22 means "no name of a file"
    ∷ 28 means "no space left"
    ∷ 36 means "the name is too long"
    ∷ []

-- any other is told by its number
unfoldable pub error_words : ℕ → Bytes
error_words n = cond (ltb (position n (numbers errors)) (length (numbers errors))) (word_of n errors) (labelled (ascii "error ") n)
