-- Items of any bytes: where none stands whole, an item of no kind that ends with its container.
use Rattle.std.specs.Prelude.{ℕ, cond, eqb, ltb, leb, length, take}
use Rattle.rules.specs.Bytes.{Bytes}
use Rattle.rules.specs.Got.{Got, refused, got}
use Rattle.rules.specs.Cbor.{Head, head, after}
use Rattle.depot_items.specs.declared.Item.{Item}

-- the kind of no item: no kind of an item of CBOR
abbrev pub NO_ITEM : ℕ
NO_ITEM = 31

abbrev pub nothing : ℕ → Item
nothing e = record { kind = NO_ITEM; num = 0; next = e; after = e }

-- by its head: whole in the container that ends at e
unfoldable pub held : ℕ → Head → Item
held e h =
    cond (leb (after h) e) (record { kind = h.kind; num = h.num; next = h.next; after = after h }) (nothing e)

unfoldable pub seen : ℕ → Got Head → Item
seen e (refused r p) = nothing e
seen e (got h) = held e h

-- the item at `at` of s, in a container that ends at e: by the head that the bytes before e have there
unfoldable pub item_at : Bytes → ℕ → ℕ → Item
item_at s e at = cond (ltb (length s) e) (nothing e) (seen e (head (take e s) e at))

-- and of a wanted kind
unfoldable pub item_of : Bytes → ℕ → ℕ → ℕ → Item
item_of s e at kind = cond (eqb (item_at s e at).kind kind) (item_at s e at) (nothing e)
