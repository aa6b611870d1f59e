-- What a head's answer means in the rules.
use Rattle.std.specs.Prelude.{Result, Ok, Err}
use Rattle.rules.specs.declared.answers.Fault.{Fault}
use Rattle.rules.specs.Got.{Got, refused, got}
use Rattle.rules.specs.Cbor as Rules
use Rattle.cbor_heads.specs.declared.Head.{Head}

abbrev pub head_of : Head → Rules.Head
head_of h = record { kind = h.kind; num = h.num; next = h.next }

abbrev pub head_means : Result Head Fault → Got Rules.Head
head_means (Ok h) = got (head_of h)
head_means (Err f) = refused f.refusal f.at
