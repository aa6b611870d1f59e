-- Nil or a byte string, of which only the place after it counts.
use Prim.Native.Nat.{ℕ, ◌+◌, ◌≤◌}
use mathlib.Core.Path.{◌≡◌}
use mathlib.Core.Logic.{◌⊎◌, inl, inr}
use native.Mathlib.Omega.{arith}
use Rattle.rules.specs.Bytes.{Bytes}
use Rattle.rules.specs.Got.{got}
use Rattle.rules.specs.Cbor.{BYTES, NIL, Head, after, one_of}
use Rattle.rules.specs.Check.{unread}
use Rattle.rules.proofs.CheckLaws.{one_of_law, one_of-kind, bytes_after}

-- nil or a byte string
module _ (s : Bytes) (e at : ℕ) (h : Head) (q : one_of NIL BYTES s e at ≡ got h) where
  pub unread-fits : h.kind ≡ BYTES → h.next + h.num ≤ e
  unread-fits k = omega (arith, (one_of_law s NIL BYTES e at h q).2, bytes_after h k)

  pub unread-bytes : h.kind ≡ BYTES → unread s e at ≡ got (h.next + h.num)
  unfolding unread
  unread-bytes k = rw (q, bytes_after h k)

  pub unread-nil : (h.kind ≡ BYTES → ⊥) → unread s e at ≡ got h.next
  unfolding unread
  unread-nil n = rw (q, nothing (one_of-kind s NIL BYTES e at h q))
    where
      nothing : (h.kind ≡ NIL) ⊎ (h.kind ≡ BYTES) → after h ≡ h.next
      nothing (inl k) = rw k
      nothing (inr k) = absurd (n k)
