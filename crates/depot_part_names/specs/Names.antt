-- The words for the parts of an envelope and their entries.
use Rattle.std.specs.Prelude.{ℕ, ◌-◌, cond, [], ◌++◌, eqb, ltb}
use Rattle.rules.specs.Bytes.{Bytes}
use Rattle.rules.specs.Cbor.{MAP}
use Rattle.rules.specs.Commands.{COMMON}
use Rattle.text.specs.Text.{ascii}
use Rattle.text_pieces.specs.Pieces.{labelled}
use Rattle.text_names.specs.Words.{command_words, parameter_words, section_words}
use Rattle.depot_parts.specs.declared.parts.Part.{Part}
use Rattle.depot_parts.specs.declared.parts.Part.TheVariants.{Envelope, Manifest, Common, Components, Identifier, Sequence, Alternatives, Parameters, Argument, Value}
use Rattle.depot_parts.specs.Parts.{manifest_key, list_key, shape_of}

-- a part, where the path ends with it; the others are named by the entry that they stand in
unfoldable pub name_of : Part → Bytes
name_of Envelope = ascii "envelope"
name_of Manifest = ascii "manifest"
name_of Common = ascii "common"
name_of Components = ascii "common, components"
name_of Identifier = []
name_of Sequence = []
name_of Alternatives = []
name_of Parameters = []
name_of Argument = ascii ", argument"
name_of Value = []

abbrev pub number_key : ℕ
number_key = 2

-- entries, each under its key: those of the envelope, the manifest and common that are parts have names of their own
unfoldable pub envelope_title : ℕ → Bytes
envelope_title key = cond (eqb key manifest_key) [] (ascii "envelope, authentication")

unfoldable pub section_title : ℕ → Bytes
section_title key = labelled (ascii "section ") key ++ ascii " (" ++ section_words key ++ ascii ")"

unfoldable pub manifest_title : ℕ → Bytes
manifest_title key =
    cond (ltb COMMON key) (section_title key)
    (cond (eqb key COMMON) []
    (cond (eqb key number_key) (ascii "manifest, sequence number")
    (ascii "manifest, version")))

unfoldable pub common_title : ℕ → Bytes
common_title key = cond (eqb key list_key) [] (ascii "common sequence")

unfoldable pub command_title : ℕ → ℕ → Bytes
command_title n code = labelled (ascii ", command ") n ++ ascii " (" ++ command_words code ++ ascii ")"

unfoldable pub parameter_title : ℕ → Bytes
parameter_title key = ascii ", " ++ parameter_words key

unfoldable pub component_title : ℕ → Bytes
component_title n = labelled (ascii "common, component ") (n - 1)

-- entry n of a part, under its key
unfoldable pub entry_text : Part → ℕ → ℕ → Bytes
entry_text Envelope n key = envelope_title key
entry_text Manifest n key = manifest_title key
entry_text Common n key = common_title key
entry_text Components n key = component_title n
entry_text Identifier n key = labelled (ascii ", part ") n
entry_text Sequence n key = command_title n key
entry_text Alternatives n key = labelled (ascii ", alternative ") n
entry_text Parameters n key = parameter_title key
entry_text Argument n key = []
entry_text Value n key = []

-- its key, or the code of a command
unfoldable pub key_text : Part → ℕ → ℕ → Bytes
key_text p n key = cond (eqb (shape_of p).kind MAP) (name_of p ++ ascii ", key") (entry_text p n key ++ ascii ", code")

unfoldable pub left_over : Part → Bytes
left_over p = name_of p ++ ascii ", left over"
