-- CBOR as a manifest may use it (01, What a manifest may hold): 'definite lengths, shortest heads, numbers to 2^32-1 (eight-byte heads
-- refused); only unsigned numbers, byte and text strings, arrays, maps, false, true, nil'.
use Rattle.std.specs.Prelude.{◌+◌, ◌/◌, ◌%◌, ◌&&◌, ◌||◌}
use Rattle.rules.specs.Base.{ℕ, Bool, true, false, cond, ltb, leb, eqb, get_or, NotCbor, Malformed}
use Rattle.rules.specs.Bytes.{Bytes, part, num}
use Rattle.rules.specs.Got.{Got, got, need, ◌>>=◌}

-- kinds of items: the major type (RFC 8949, 3.1), and for false, true and nil their simple value
abbrev pub NUMBER : ℕ
NUMBER = 0

abbrev pub BYTES : ℕ
BYTES = 2

abbrev pub TEXT : ℕ
TEXT = 3

abbrev pub ARRAY : ℕ
ARRAY = 4

abbrev pub MAP : ℕ
MAP = 5

abbrev pub FALSE : ℕ
FALSE = 20

abbrev pub TRUE : ℕ
TRUE = 21

abbrev pub NIL : ℕ
NIL = 22

-- a head: kind, number (0 for false, true, nil), and the place after it
pub record Head : Type 0 where
  pub kind : ℕ
  pub num : ℕ
  pub next : ℕ

-- first bytes that may stand: of a number, string, array or map whose number is in the byte or in 1, 2 or 4 more; false, true, nil
abbrev pub known : ℕ → Bool
known b =
    cond (leb 0xf4 b) (ltb b 0xf7) (cond (leb 0xc0 b) false (cond (ltb 26 (b % 32)) false (cond (ltb b 0x20) true (leb 0x40 b))))

-- how many bytes follow the first
abbrev pub more : ℕ → ℕ
more b = cond (ltb b 0xe0 && leb 24 (b % 32)) (cond (eqb (b % 32) 24) 1 (cond (eqb (b % 32) 25) 2 4)) 0

-- the least number that needs w bytes: a head is the shortest
abbrev pub least : ℕ → ℕ
least w = cond (eqb w 0) 0 (cond (eqb w 1) 24 (cond (eqb w 2) 256 65536))

-- the head's number: in the first byte, or in the bytes after it
abbrev pub value : Bytes → ℕ → ℕ
value s at =
    let b = get_or s at 0 in
    cond (eqb (more b) 0) (cond (ltb b 0xe0) (b % 32) 0) (num (part s (at + 1) (more b)))

-- the major type, or the simple value
abbrev pub kind_of : ℕ → ℕ
kind_of b = cond (ltb b 0xe0) (b / 32) (b % 32)

-- the head at `at`, in a container that ends at `e`; 65 ('CBOR rule broken') where nothing is left, its first byte may not stand, the head
-- is cut or it is not the shortest
unfoldable pub head : Bytes → ℕ → ℕ → Got Head
head s e at = do
  _ ← need (ltb at e) NotCbor at
  let b = get_or s at 0
  _ ← need (known b) NotCbor at
  _ ← need (leb (at + 1 + more b) e) NotCbor at
  _ ← need (leb (least (more b)) (value s at)) NotCbor at
  got (record { kind = kind_of b; num = value s at; next = at + 1 + more b })

-- the place after an item's head and, of a string, its bytes
abbrev pub after : Head → ℕ
after h = cond (eqb h.kind BYTES || eqb h.kind TEXT) (h.next + h.num) h.next

-- the head of an item whose bytes lie in the container: 65 is also 'item past its container's end'
unfoldable pub whole : Bytes → ℕ → ℕ → Got Head
whole s e at = do
  h ← head s e at
  _ ← need (leb (after h) e) NotCbor at
  got h

-- of an item of that kind, whose number, length or count is from lo to hi: 66 is 'wrong type, key, order, count or length'
unfoldable pub item : ℕ → ℕ → ℕ → Bytes → ℕ → ℕ → Got Head
item kind lo hi s e at = do
  h ← whole s e at
  _ ← need (eqb h.kind kind) Malformed at
  _ ← need (leb lo h.num && leb h.num hi) Malformed at
  got h

-- of an item of either kind, whatever its number
unfoldable pub one_of : ℕ → ℕ → Bytes → ℕ → ℕ → Got Head
one_of kind kind' s e at = do
  h ← whole s e at
  _ ← need (eqb h.kind kind || eqb h.kind kind') Malformed at
  got h
