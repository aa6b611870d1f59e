-- What a file that ends within a buffer leaves there.
use Rattle.std.specs.Prelude.{◌≡◌, ℕ, ◌<◌, length, take, Option, None, Some, ⊤}
use Rattle.rules.specs.Bytes.{Bytes}

-- of known bytes: n of them are found where they are the first n of the buffer, and nothing is found where there are more than it has
abbrev pub ReadsWhole : Option Bytes → Bytes → Option ℕ → Type 0
ReadsWhole None buf found = ⊤
ReadsWhole (Some bytes) buf (Some n) = bytes ≡ take n buf
ReadsWhole (Some bytes) buf None = length buf < length bytes
