-- What a reader answers, by the rule of a head.
use Rattle.std.specs.Prelude.{length, Result, Ok, Err}
use Rattle.rules.specs.declared.answers.Fault.{Fault}
use Rattle.rules.specs.Got.{Got, refused, got}
use Rattle.rules.specs.Cbor as Rules
use Rattle.cbor_heads.specs.declared.Head.{Head}
use Rattle.cbor_reader.specs.declared.Reader.{Reader}

abbrev pub read_of : Got Rules.Head → Result Head Fault
read_of (refused r p) = Err (record { refusal = r; at = p })
read_of (got h) = Ok (record { kind = h.kind; num = h.num; next = h.next })

-- the head at the reader's place. The envelope is its container
abbrev pub head_here : Reader → Got Rules.Head
head_here r = Rules.head r.envelope.now (length r.envelope.now) r.at

-- the reader after a head; a refusal leaves it as it was
abbrev pub moved : Reader → Got Rules.Head → Reader
moved r (refused _ _) = r
moved r (got h) = record { envelope = r.envelope; at = h.next }
