-- Identifiers as check reads them: all of the list, or up to the first that is refused; then the search for a repeated one.
use Rattle.std.specs.Prelude.{ℕ, zero, suc, ◌*◌, List, [], ◌∷◌, ◌++◌, Bool, true, false, ◌||◌, length, drop, Option, Some, None}
use Rattle.rules.specs.Limits.{limits}
use Rattle.rules.specs.Bytes.{Bytes, Span, span, bytes_at, span_at, same}
use Rattle.rules.specs.Got.{Got, refused, got, ◌>>=◌}
use Rattle.rules.specs.Cbor.{ARRAY, Head, item}
use Rattle.rules.specs.Check.{identifier}
use Rattle.cbor_reading.specs.Reading.{place_of}
use Rattle.component_ids.specs.declared.Listed.{Listed}

-- what a head that was accepted leads to
abbrev pub under : Got Head → (Head → List Span) → List Span
under (refused r p) f = []
under (got h) f = f h

-- places one after the other
abbrev pub flat_spans : List Span → List ℕ
flat_spans [] = []
flat_spans (p ∷ ps) = p.from ∷ p.to ∷ flat_spans ps

-- those places at the start of the array, which keeps the rest
abbrev pub laid : List Span → List ℕ → List ℕ
laid ps a = flat_spans ps ++ drop (2 * length ps) a

pub record Listing : Type 0 where
  pub ids : List Span
  pub end : Got ℕ

abbrev pub onward : ℕ → Got ℕ → (ℕ → Listing) → Listing
onward at (refused r p) f = record { ids = []; end = refused r p }
onward at (got next) f = record { ids = span at next ∷ (f next).ids; end = (f next).end }

module _ (s : Bytes) where
  -- an identifier, whatever stands before it: the place after it
  unfoldable pub plain : ℕ → ℕ → Got ℕ
  plain e at = do
    id ← identifier s [] e at
    got id.to

  -- n identifiers, until one is refused: the places of those that were read, and how the reading ended
  unfoldable pub listing : ℕ → ℕ → ℕ → Listing
  listing zero e at = record { ids = []; end = got at }
  listing (suc n) e at = onward at (plain e at) (λ next. listing n e next)

  -- the identifiers that are read of a component list: all up to the first that is malformed; none where the list's own head is refused
  unfoldable pub ids_read : ℕ → ℕ → List Span
  ids_read e at = under (item ARRAY 1 limits.components s e at) (λ h. (listing h.num e h.next).ids)

  -- identifier j of the array equals number i
  abbrev pub equal : List ℕ → ℕ → ℕ → Bool
  equal a j i = same (bytes_at s (span_at a j)) (bytes_at s (span_at a i))

  -- one of the k identifiers from number i on equals number j
  unfoldable pub among : List ℕ → ℕ → ℕ → ℕ → Bool
  among a j i zero = false
  among a j i (suc k) = equal a j i || among a j (suc i) k

  -- the first of the k identifiers from number j on that equals an earlier one
  unfoldable pub search_from : List ℕ → ℕ → ℕ → Option ℕ
  search_from a j zero = None
  search_from a j (suc k) = elim (among a j 0 j) [ true ↦ Some j | false ↦ search_from a (suc j) k ]

  -- the first equal pair of the first n, the later identifier outside
  unfoldable pub repeated : List ℕ → ℕ → Option ℕ
  repeated a n = search_from a 0 n

-- how many were read, on a refusal too, and how the reading ended
abbrev pub listed : Listing → Listed
listed l = record { count = length l.ids; end = place_of l.end }
