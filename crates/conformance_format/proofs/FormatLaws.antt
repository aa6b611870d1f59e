-- One byte more of a template.
use Prim.Native.Nat.{ℕ, ◌+◌}
use mathlib.Core.Path.{◌≡◌, refl}
use mathlib.Core.List.{[], ◌∷◌}
use native.Mathlib.Nat.{add-zero}
use native.Mathlib.Numerals.{add-one}
use borrow.Author.Tests.{eq-eqb, ne_eqb}
use lib.ListN.{length, get_or}
use Rattle.text.specs.Text.{Bytes, Wrote, ascii, digits}
use Rattle.text.proofs.TextLaws.{wrote_none, wrote_then}
use Rattle.conformance_format.specs.Format.{percent, used, piece, formatted, format}

module _ (t : Bytes) where
  pub used-none : 0 ≡ used t 0
  unfolding used
  used-none = refl

  pub used-more : (i k : ℕ) → k ≡ used t i → get_or t i 0 ≡ percent → k + 1 ≡ used t (i + 1)
  unfolding used
  used-more i k e q = rw (add-one i, eq-eqb (get_or t i 0) percent q, e)

  pub used-same : (i k : ℕ) → k ≡ used t i → (get_or t i 0 ≡ percent → ⊥) → k ≡ used t (i + 1)
  unfolding used
  used-same i k e d = rw (add-one i, ne_eqb (get_or t i 0) percent d, add-zero (used t i)) e

  module _ (numbers : Bytes) (at : ℕ) (room : Bytes) where
    pub format-none : Wrote (formatted t numbers 0) at room at room
    unfolding formatted
    format-none = wrote_none at room

    pub format-next : (i k n : ℕ) {p : ℕ} {room₁ : Bytes} {q : ℕ} {room₂ : Bytes} → k ≡ used t i → n ≡ get_or numbers k 0 →
        Wrote (formatted t numbers i) at room p room₁ → Wrote (piece (get_or t i 0) n) p room₁ q room₂ → Wrote (formatted t numbers (i + 1)) at room q room₂
    unfolding formatted
    format-next i k n u e f g = rw (add-one i, ← u, ← e) (wrote_then f g)

    pub format-all : (i : ℕ) {p : ℕ} {room₁ : Bytes} → i ≡ length t → Wrote (formatted t numbers i) at room p room₁ → Wrote (format t numbers) at room p room₁
    unfolding format
    format-all i e f = rw e at f

-- what a template is
pub example : format (ascii "(%, %)") (80 ∷ 4096 ∷ []) ≡ ascii "(80, 4096)"
unfolding format formatted used digits
example = refl
