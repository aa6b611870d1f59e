-- An argument up to the sequences that it holds.
use Rattle.std.specs.Prelude.{ℕ, ltb}
use Rattle.rules.specs.declared.tables.Argument.{Argument}
use Rattle.rules.specs.declared.tables.Argument.TheVariants.{Sixteen, Nil, Index, Alternatives, Parameters, Sequence}
use Rattle.rules.specs.declared.answers.Refusal.TheVariants.{NoSuchComponent}
use Rattle.rules.specs.Limits.{limits}
use Rattle.rules.specs.Bytes.{Bytes}
use Rattle.rules.specs.Got.{Got, got, need, ◌>>=◌}
use Rattle.rules.specs.Cbor.{BYTES, ARRAY, MAP, NIL, after, item}
use Rattle.rules.specs.Check.{nothing, number, entries}

module _ (s : Bytes) where
  -- how many sequences it holds, and where the first is; of one that holds none, the place after it
  unfoldable pub argument_start : ℕ → Argument → ℕ → ℕ → Got (ℕ × ℕ)
  argument_start components Sixteen end at = do
    h ← item BYTES limits.class limits.class s end at
    got (0, after h)
  argument_start components Nil end at = do
    h ← item NIL 0 0 s end at
    got (0, h.next)
  argument_start components Index end at = do
    (k, next) ← number s end at
    _ ← need (ltb k components) NoSuchComponent at
    got (0, next)
  argument_start components Alternatives end at = do
    h ← item ARRAY 1 limits.alternatives s end at
    got (h.num, h.next)
  argument_start components Parameters end at = do
    h ← item MAP 1 limits.parameters s end at
    (given, next) ← entries s components h.num 0 nothing end h.next
    got (0, next)
  argument_start components Sequence end at = got (1, at)
