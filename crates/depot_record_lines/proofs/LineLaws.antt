-- A text, and spaces up to a width.
use Prim.Native.Nat.{ℕ, ◌+◌, ◌-◌, ◌≤◌, ◌<◌}
use mathlib.Core.Path.{◌≡◌, refl, sym, ◌∙◌}
use mathlib.Core.List.{◌++◌}
use mathlib.Core.Bool.{Bool, true, false}
use lib.Dec.{leb}
use lib.ListN.{length, replicate}
use native.Mathlib.Omega.{arith}
use borrow.Author.Tests.{leb-true, leb-false}
use Rattle.text.specs.Text.{Bytes, Wrote, least}
use Rattle.text.proofs.TextLaws.{sets_past, wrote_then, wrote-length}

nothing : (p q x y len : ℕ) → len ≤ p → q ≡ p + least x (len - p) → q ≡ p + least y (len - p)
nothing p q x y len h e = omega arith

-- a text, and spaces up to a width that are counted by the place after it
pub wrote-wide : {a : Bytes} {at : ℕ} {room : Bytes} {p : ℕ} {room₁ : Bytes} {k q : ℕ} {room₂ : Bytes} (width : ℕ) → Wrote a at room p room₁ → k ≡ width - (p - at) →
    Wrote (replicate k 32) p room₁ q room₂ → Wrote (a ++ replicate (width - length a) 32) at room q room₂
wrote-wide {a} {at} {room} {p} {room₁} {k} {q} {room₂} width f e g = wrote_then f (go (leb (at + length a) (length room)) refl)
  where
    same : length room₁ ≡ length room
    same = wrote-length f

    fits : at + length a ≤ length room → Wrote (replicate (width - length a) 32) p room₁ q room₂
    fits h =
        let n : k ≡ width - length a = omega (arith, f.next) in
        rw n at g

    past : length room < at + length a → Wrote (replicate (width - length a) 32) p room₁ q room₂
    past h =
        let after : length room₁ ≤ p = omega (arith, f.next, same) in
        record {
          filled = g.filled ∙ sets_past room₁ p (replicate k 32) after ∙ sym (sets_past room₁ p (replicate (width - length a) 32) after);
          next = nothing p q (length (replicate k 32)) (length (replicate (width - length a) 32)) (length room₁) after g.next;
        }

    go : (t : Bool) → leb (at + length a) (length room) ≡ t → Wrote (replicate (width - length a) 32) p room₁ q room₂
    go true h = fits (leb-true _ _ h)
    go false h = past (leb-false _ _ h)
