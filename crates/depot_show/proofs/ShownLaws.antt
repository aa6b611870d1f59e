-- What is shown one after the other.
use Prim.Native.Nat.{ℕ}
use mathlib.Core.Path.{◌≡◌, refl, sym, ap, ◌∙◌}
use mathlib.Core.List.{[], ◌++◌, append_assoc, append-nil}
use lib.ListN.{length}
use Rattle.text.specs.Text.{Bytes, Wrote}
use Rattle.text.proofs.TextLaws.{wrote_none, wrote_then, wrote-length}
use Rattle.depot_show.specs.declared.walk.Put.{Put}
use Rattle.depot_show.specs.Shown.{Shown, none, behind, and_then, Shows}

-- what was written so far, and x, which is left, make the whole
pub record Rest (whole : Shown) (to : ℕ) (room : Bytes) (x : Shown) (end : ℕ) (room' : Bytes) : Type 0 where
  pub done : Bytes
  pub wrote : Wrote done to room end room'
  pub text : whole.0 ≡ done ++ x.0
  pub next : whole.1 ≡ x.1

pub rest-start : (x : Shown) (to : ℕ) (room : Bytes) → Rest x to room x to room
rest-start x to room = record { done = []; wrote = wrote_none to room; text = refl; next = refl }

module _ {whole : Shown} {to : ℕ} {room : Bytes} where
  pub rest-length : {x : Shown} {end : ℕ} {room' : Bytes} → Rest whole to room x end room' → length room' ≡ length room
  rest-length l = wrote-length l.wrote

  pub rest-done : (x : Shown) {n end : ℕ} {room' : Bytes} → Rest whole to room x end room' → x ≡ none n →
      Shows whole to room (record { next = n; to = end }) room'
  rest-done x {n} l q =
      let t : whole.0 ≡ l.done = l.text ∙ ap (λ (y : Shown). l.done ++ y.0) q ∙ append-nil l.done in
      record { next = sym (l.next ∙ ap (λ (y : Shown). y.1) q); wrote = rw t l.wrote }

  -- some text more
  pub rest-text : {b : Bytes} {x : Shown} {p : ℕ} {room₁ : Bytes} {q : ℕ} {room₂ : Bytes} → Rest whole to room (behind b x) p room₁ →
      Wrote b p room₁ q room₂ → Rest whole to room x q room₂
  rest-text {b} {x} l w =
      record {
        done = l.done ++ b;
        wrote = wrote_then l.wrote w;
        text = l.text ∙ sym (append_assoc l.done b x.0);
        next = l.next;
      }

  -- something more shown
  pub rest-shown : (f : ℕ → Shown) {x : Shown} {p : ℕ} {room₁ : Bytes} {r : Put} {room₂ : Bytes} → Rest whole to room (and_then x f) p room₁ →
      Shows x p room₁ r room₂ → Rest whole to room (f r.next) r.to room₂
  rest-shown f l h = rw h.next (rest-text l h.wrote)

-- text before what is shown
pub behind_shows : {b : Bytes} {x : Shown} {to : ℕ} {room : Bytes} {p : ℕ} {room₁ : Bytes} {r : Put} {room₂ : Bytes} → Wrote b to room p room₁ →
    Shows x p room₁ r room₂ → Shows (behind b x) to room r room₂
behind_shows w h = record { next = h.next; wrote = wrote_then w h.wrote }
