-- The parts of an envelope: how each is written, and what stands under its entries.
use Rattle.std.specs.Prelude.{ℕ, true, false, cond, eqb, ltb}
use Rattle.rules.specs.Cbor.{ARRAY, MAP}
use Rattle.rules.specs.Commands.{COMMON}
use Rattle.rules.specs.declared.tables.Argument.{Argument}
use Rattle.rules.specs.declared.tables.Argument.TheVariants as A
use Rattle.rules_kinds.specs.Kinds.{kind_of}
use Rattle.depot_parts.specs.declared.parts.Shape.{Shape}
use Rattle.depot_parts.specs.declared.parts.Part.{Part}
use Rattle.depot_parts.specs.declared.parts.Part.TheVariants.{Envelope, Manifest, Common, Components, Identifier, Sequence, Alternatives, Parameters, Argument as Plain, Value}

-- the kind of what has no entries: no item has it
abbrev pub LEAF : ℕ
LEAF = 30

abbrev leaf : Shape
leaf = record { kind = LEAF; boxed = false; keyed = false }

-- a map whose keys are numbers, and an array; `boxed` in a byte string
abbrev map : Shape
map = record { kind = MAP; boxed = false; keyed = true }

abbrev boxed_map : Shape
boxed_map = record { kind = MAP; boxed = true; keyed = true }

abbrev array : Shape
array = record { kind = ARRAY; boxed = false; keyed = false }

abbrev boxed_array : Shape
boxed_array = record { kind = ARRAY; boxed = true; keyed = false }

-- an array of codes, each with its argument
abbrev boxed_pairs : Shape
boxed_pairs = record { kind = ARRAY; boxed = true; keyed = true }

unfoldable pub shape_of : Part → Shape
shape_of Envelope = map
shape_of Manifest = boxed_map
shape_of Common = boxed_map
shape_of Components = boxed_array
shape_of Identifier = array
shape_of Sequence = boxed_pairs
shape_of Alternatives = array
shape_of Parameters = map
shape_of Plain = leaf
shape_of Value = leaf

-- keys of the envelope and of common
abbrev pub manifest_key : ℕ
manifest_key = 3

abbrev pub list_key : ℕ
list_key = 2

unfoldable pub in_envelope : ℕ → Part
in_envelope key = cond (eqb key manifest_key) Manifest Value

unfoldable pub in_manifest : ℕ → Part
in_manifest key = cond (ltb COMMON key) Sequence (cond (eqb key COMMON) Common Value)

unfoldable pub in_common : ℕ → Part
in_common key = cond (eqb key list_key) Components Sequence

-- the argument of a command
abbrev pub as_part : Argument → Part
as_part A.Sixteen = Plain
as_part A.Nil = Plain
as_part A.Index = Plain
as_part A.Alternatives = Alternatives
as_part A.Parameters = Parameters
as_part A.Sequence = Sequence

-- what stands under a key, or in an array
unfoldable pub child_of : Part → ℕ → Part
child_of Envelope key = in_envelope key
child_of Manifest key = in_manifest key
child_of Common key = in_common key
child_of Components key = Identifier
child_of Identifier key = Value
child_of Sequence key = as_part (kind_of key)
child_of Alternatives key = Sequence
child_of Parameters key = Value
child_of Plain key = Value
child_of Value key = Value
