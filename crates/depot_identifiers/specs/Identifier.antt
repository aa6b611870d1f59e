-- Identifiers as text. An identifier is an array of byte strings (01, What a manifest may hold); of other bytes only the hexadecimal is told.
use Rattle.std.specs.Prelude.{ℕ, zero, suc, ◌-◌, Bool, true, false, cond, [], ◌∷◌, ◌++◌, eqb, ltb, length}
use Rattle.rules.specs.Bytes.{Bytes, part}
use Rattle.rules.specs.Cbor.{BYTES, ARRAY}
use Rattle.text.specs.Text.{ascii, hex, quoted}
use Rattle.depot_items.specs.declared.Item.{Item}
use Rattle.depot_items.specs.Items.{item_of}

-- ASCII that prints as it is
unfoldable pub all_print : Bytes → Bool
all_print [] = true
all_print (b ∷ s) = cond (ltb b 32) false (cond (ltb 126 b) false (all_print s))

unfoldable pub prints : Bytes → Bool
prints s = cond (eqb (length s) 0) false (all_print s)

-- a part in quotes where it prints, any other in hexadecimal
unfoldable pub value_text : Bytes → Bytes
value_text b = cond (prints b) (quoted b) (hex b)

-- before so many others
unfoldable pub part_text : ℕ → Bytes → Bytes
part_text left b = value_text b ++ cond (eqb left 0) [] (ascii ", ")

module _ (s : Bytes) where
  -- the byte string at `at`, and its bytes
  abbrev pub string_at : ℕ → Item
  string_at at = item_of s (length s) at BYTES

  abbrev pub bytes_of : ℕ → Bytes
  bytes_of at = part s (string_at at).next ((string_at at).after - (string_at at).next)

  -- n byte strings, and nothing behind them
  unfoldable pub strings : ℕ → ℕ → Bool
  strings zero at = eqb at (length s)
  strings (suc n) at = cond (eqb (string_at at).kind BYTES) (strings n (string_at at).after) false

  unfoldable pub one_prints : ℕ → ℕ → Bool
  one_prints zero at = false
  one_prints (suc n) at = cond (prints (bytes_of at)) true (one_prints n (string_at at).after)

  unfoldable pub parts_text : ℕ → ℕ → Bytes
  parts_text zero at = []
  parts_text (suc n) at = part_text n (bytes_of at) ++ parts_text n (string_at at).after

  -- the parts of the array h
  unfoldable pub read_text : Item → Bytes
  read_text h =
      cond (eqb h.kind ARRAY)
      (cond (strings h.num h.next)
      (cond (one_prints h.num h.next) (ascii " (" ++ parts_text h.num h.next ++ ascii ")") []) []) []

  unfoldable pub identifier_text : Bytes
  identifier_text = hex s ++ read_text (item_of s (length s) 0 ARRAY)
