-- The envelope around the manifest.
use Rattle.std.specs.Prelude.{ℕ}
use Rattle.rules.specs.Limits.{limits}
use Rattle.rules.specs.Bytes.{Bytes}
use Rattle.rules.specs.Got.{Got, ◌>>=◌}
use Rattle.rules.specs.Cbor.{BYTES, Head, item}
use Rattle.rules.specs.Check.{outer_at}

-- the head of the byte string that holds the manifest
abbrev pub manifest_head : Bytes → ℕ → Got Head
manifest_head s e = outer_at s e >>= item BYTES 0 limits.largest s e
