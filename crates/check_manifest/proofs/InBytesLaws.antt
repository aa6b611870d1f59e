-- One thing in a byte string, as the code reads it: the string's head, what it holds, and no byte left over.
use Prim.Native.Nat.{ℕ, ◌+◌}
use mathlib.Core.Path.{◌≡◌}
use borrow.Author.Tests.{eq-eqb, ne_eqb}
use Rattle.rules.specs.declared.answers.Fault.{Fault}
use Rattle.rules.specs.declared.answers.Refusal.TheVariants.{NotCbor}
use Rattle.rules.specs.Limits.{limits}
use Rattle.rules.specs.Bytes.{Bytes, span}
use Rattle.rules.specs.Got.{refused, got}
use Rattle.rules.specs.Cbor.{BYTES, item}
use Rattle.rules.specs.Check.{Read, in_bytes}

module _ {A : Type 0} (s : Bytes) (read : Read A) (e at : ℕ) where
  pub in_stop : (d : Fault) → item BYTES 0 limits.largest s e at ≡ refused d.refusal d.at → in_bytes s read e at ≡ refused d.refusal d.at
  unfolding in_bytes
  in_stop d x = rw x

  module _ (v p : ℕ) (q : item BYTES 0 limits.largest s e at ≡ got (record { kind = BYTES; num = v; next = p })) where
    pub in_bad : (d : Fault) → read (p + v) p ≡ refused d.refusal d.at → in_bytes s read e at ≡ refused d.refusal d.at
    unfolding in_bytes
    in_bad d x = rw (q, x)

    module _ (a : A) (next : ℕ) (w : read (p + v) p ≡ got (a, next)) where
      pub in_over : (next ≡ p + v → ⊥) → in_bytes s read e at ≡ refused NotCbor next
      unfolding in_bytes
      in_over o = rw (q, w, ne_eqb _ _ o)

      pub in_got : next ≡ p + v → in_bytes s read e at ≡ got (a, span p (p + v))
      unfolding in_bytes
      in_got o = rw (q, w, eq-eqb _ _ o, o)
