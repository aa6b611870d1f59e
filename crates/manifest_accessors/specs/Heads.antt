-- Heads and strings that check has accepted.
use Rattle.std.specs.Prelude.{ℕ, ◌≤◌, ◌<◌, ◌≡◌, length, get_or}
use Rattle.rules.specs.Bytes.{Bytes}
use Rattle.rules.specs.Got.{got}
use Rattle.rules.specs.Cbor.{Head, head}
use Rattle.rules.specs.Check.{strings}

-- the head of a number, string, array or map
pub record HeadAt (s : Bytes) (at : ℕ) : Type 0 where
  pub e : ℕ
  pub fits : e ≤ length s
  pub head : Head
  pub reads : Rattle.rules.specs.Cbor.head s e at ≡ got head
  pub plain : get_or s at 0 < 0xe0

-- k byte strings
pub record Strings (s : Bytes) (k at : ℕ) : Type 0 where
  pub e : ℕ
  pub fits : e ≤ length s
  pub to : ℕ
  pub reads : strings s k e at ≡ got to
