-- Escaped bytes, one after the other.
use Prim.Native.Nat.{ℕ, ◌≤◌}
use mathlib.Core.Path.{◌≡◌, refl, sym}
use mathlib.Core.List.{[], ◌∷◌, ◌++◌, append_assoc, append-nil}
use mathlib.Core.Bool.{Bool, true, false}
use lib.Dec.{ltb}
use borrow.Author.Tests.{ltb-false}
use Rattle.text.specs.Text.{Bytes, Wrote}
use Rattle.text.proofs.TextLaws.{wrote_none}
use Rattle.text_escaped.specs.Escaped.{escape, escaped_byte, escaped}

pub escaped-append : (a b : Bytes) → escaped (a ++ b) ≡ escaped a ++ escaped b
unfolding escaped
escaped-append [] b = refl
escaped-append (x ∷ a) b = rw (escaped-append a b) (sym (append_assoc (escaped_byte x) (escaped a) (escaped b)))

pub escaped-one : (b : ℕ) → escaped (b ∷ []) ≡ escaped_byte b
unfolding escaped
escaped-one b = append-nil (escaped_byte b)

pub escaped-none : (at : ℕ) (room : Bytes) → Wrote (escaped []) at room at room
unfolding escaped
escaped-none at room = wrote_none at room

-- a byte below the space, and the one that deletes
pub escaped_control : (b : ℕ) → (32 ≤ b → b ≡ 127) → escaped_byte b ≡ escape b
unfolding escaped_byte
escaped_control b h = go (ltb b 32) refl
  where
    go : (t : Bool) → ltb b 32 ≡ t → escaped_byte b ≡ escape b
    go true e = rw e
    go false e = rw (h (ltb-false b 32 e))
