-- A refusal, as text.
use Rattle.std.specs.Prelude.{ℕ, cond, ◌++◌, ltb}
use Rattle.rules.specs.declared.answers.Refusal.TheVariants.{NotCbor, NotVerified}
use Rattle.rules.specs.Answers.{refusal_number}
use Rattle.text.specs.Text.{Bytes, ascii}
use Rattle.text_names.specs.Words.{refusal_words}
use Rattle.text_pieces.specs.Pieces.{labelled}
use Rattle.depot_path.specs.Path.{path_text}
use Rattle.depot_around.specs.Around.{around_text}

unfoldable pub refused_line : ℕ → ℕ → Bytes
refused_line n p = labelled (ascii "refused with ") n ++ labelled (ascii " at ") p ++ ascii ": " ++ refusal_words n ++ ascii "\n"

-- the path to the place
unfoldable pub path_line : Bytes → ℕ → Bytes
path_line s p = ascii "  in " ++ path_text s p ++ ascii "\n"

-- that an envelope is too long is no matter of a place, and from 80 on the place is 0
unfoldable pub refused_text : ℕ → ℕ → Bytes → Bytes
refused_text n p s =
    cond (ltb n (refusal_number NotCbor)) (refused_line n p)
    (cond (ltb n (refusal_number NotVerified)) (refused_line n p ++ path_line s p ++ around_text s p)
    (refused_line n p))
