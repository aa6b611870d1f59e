-- Words that are not the same.
use Prim.Native.Nat.{zero, suc}
use mathlib.Core.Path.{◌≡◌, refl}
use mathlib.Core.List.{[], ◌∷◌}
use mathlib.Core.Bool.{Bool, true, false, ◌&&◌}
use lib.Dec.{eqb, ltb}
use borrow.Author.Tests.{eqb-true, ltb-true}
use native.Mathlib.Omega.{arith}
use Rattle.std.specs.List.{list_all}
use Rattle.std.specs.Str.{IsUtf8, IsAscii}
use Rattle.std.proofs.lemmas.Str.{IsUtf8-from_ascii}
use Rattle.rules.specs.Bytes.{Bytes, same}
use Rattle.rules.proofs.GotLaws.{and-true}

pub not_same : (a b : Bytes) → (a ≡ b → ⊥) → same a b ≡ false
not_same [] [] h = absurd (h refl)
not_same [] (y ∷ b) h = refl
not_same (x ∷ a) [] h = refl
not_same (x ∷ a) (y ∷ b) h = go (eqb x y) refl (not_same a b)
  where
    go : (t : Bool) → eqb x y ≡ t → ((a ≡ b → ⊥) → same a b ≡ false) → (t && same a b) ≡ false
    go true e ih = ih (λ q. h (rw (eqb-true x y e, q) refl))
    go false e ih = refl

is_ascii : (b : Bytes) → list_all (λ x. ltb x 128) b ≡ true → IsAscii b
is_ascii [] e i = omega arith
is_ascii (x ∷ b) e zero = ltb-true x 128 (and-true (ltb x 128) _ e).0
is_ascii (x ∷ b) e (suc i) = is_ascii b (and-true (ltb x 128) _ e).1 i

-- bytes that are no text, and a text
pub not_text : (a b : Bytes) → (IsUtf8 a → ⊥) → list_all (λ x. ltb x 128) b ≡ true → same a b ≡ false
not_text a b h u = not_same a b (λ e. h (rw e (IsUtf8-from_ascii b (is_ascii b u))))
