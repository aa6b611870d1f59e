-- The lines of reports: the places of common's sequence and of sections 8 to 12, 0 and 0 for one that is not there.
use mathlib.Core.Path.{◌≡◌, refl}
use mathlib.Core.List.{[], ◌∷◌}
use Rattle.text.specs.Text.{ascii}
use Rattle.text_rows.specs.Rows.{word_of}
use Rattle.text_names.specs.Words.{sections, section_words}
use Rattle.depot_order.specs.Order.{end_of, parting, names, order_text, group_line, groups_text}

pub all_there : groups_text (20 ∷ 30 ∷ 31 ∷ 40 ∷ 41 ∷ 50 ∷ 51 ∷ 60 ∷ 61 ∷ 70 ∷ 71 ∷ 80 ∷ []) ≡
    ascii "install: common, payload fetch, common, install\nboot: common, validate, common, load, common, run\n"
unfolding groups_text group_line order_text names parting end_of section_words sections word_of
all_there = refl

pub common_alone_lem : groups_text (32 ∷ 74 ∷ 0 ∷ 0 ∷ 0 ∷ 0 ∷ 0 ∷ 0 ∷ 0 ∷ 0 ∷ 76 ∷ 83 ∷ []) ≡ ascii "install: common\nboot: common, run\n"
unfolding groups_text group_line order_text names parting end_of section_words sections word_of
common_alone_lem = refl

pub no_common : groups_text (0 ∷ 0 ∷ 0 ∷ 0 ∷ 0 ∷ 0 ∷ 30 ∷ 31 ∷ 0 ∷ 0 ∷ 32 ∷ 35 ∷ []) ≡ ascii "install: nothing\nboot: validate, run\n"
unfolding groups_text group_line order_text names parting end_of section_words sections word_of
no_common = refl
