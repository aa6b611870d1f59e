-- Bytes put one after the other into lent room.
use Prim.Native.Nat.{ℕ, ◌+◌, ◌≤◌}
use mathlib.Core.Path.{◌≡◌, refl, ap, ◌∙◌}
use mathlib.Core.List.{[], ◌∷◌, ◌++◌}
use native.Mathlib.Omega.{arith}
use borrow.Author.Tests.{eq-eqb, ne_eqb}
use lib.ListN.{length, set, length-append, length-set}
use lib.Seq.{length-sets}
use Rattle.rules.specs.Bytes.{Bytes, put}
use Rattle.rules.specs.ProgramFormat.{entry_size}
use Rattle.rules.specs.Program.{entry}
use Rattle.run_slots.specs.Params.{optional}
use Rattle.rules.proofs.BytesLaws.{put-append}
use Rattle.translate_argument.specs.Argument.{Filled}

-- what is put after bytes that were put
pub put_then : (room : Bytes) (to : ℕ) (a b : Bytes) (room₁ room₂ : Bytes) → room₁ ≡ put room to a → room₂ ≡ put room₁ (to + length a) b → room₂ ≡ put room to (a ++ b)
put_then room to a b room₁ room₂ e f = f ∙ ap (λ (r : Bytes). put r (to + length a) b) e ∙ put-append room to a b

pub put-length : (room : Bytes) (to : ℕ) (a room₁ : Bytes) → room₁ ≡ put room to a → length room₁ ≡ length room
put-length room to a room₁ e = ap length e ∙ length-sets room to a

pub filled_none : (to : ℕ) (room : Bytes) → Filled [] to room to room
filled_none to room = record { filled = refl; next = omega arith }

pub filled-then : (a b : Bytes) (to : ℕ) (room : Bytes) (p : ℕ) (room₁ : Bytes) (q : ℕ) (room₂ : Bytes) → Filled a to room p room₁ → Filled b p room₁ q room₂ →
    Filled (a ++ b) to room q room₂
filled-then a b to room p room₁ q room₂ f g =
    record { filled = g.filled ∙ (rw (f.filled, f.next) (put-append room to a b)); next = omega (arith, f.next, g.next, length-append a b) }

pub filled-length : (b : Bytes) (to : ℕ) (room : Bytes) (p : ℕ) (room₁ : Bytes) → Filled b to room p room₁ → length room₁ ≡ length room
filled-length b to room p room₁ f = rw f.filled (length-sets room to b)

pub length-kept : (room : Bytes) (i x k y to : ℕ) (b room' : Bytes) → room' ≡ put (set (set room i x) k y) to b → length room' ≡ length room
length-kept room i x k y to b room' e = rw (e, length-sets (set (set room i x) k y) to b, length-set (set room i x) k y) (length-set room i x)

-- a parameter that is unset has no bytes
pub unset-filled : {A : Type 0} (k : ℕ) (f : A → Bytes) (n : ℕ) (a : A) (to : ℕ) (room : Bytes) → n ≡ 0 → Filled (entry k f (optional n a)) to room to room
unset-filled k f n a to room z = rw (eq-eqb n 0 z) (filled_none to room)

-- and one that is set has them
pub set-fits : {A : Type 0} (k : ℕ) (f : A → Bytes) (n : ℕ) (a : A) (to l : ℕ) → (n ≡ 0 → ⊥) → to + length (entry k f (optional n a)) ≤ l → to + entry_size + length (f a) ≤ l
set-fits k f n a to l z h = omega (arith, rw (ne_eqb n 0 z) at h)

pub set-filled : {A : Type 0} (k : ℕ) (f : A → Bytes) (n : ℕ) (a : A) (to : ℕ) (room : Bytes) → (n ≡ 0 → ⊥) → (r : ℕ) → r ≡ to + entry_size + length (f a) → (room' : Bytes) →
    room' ≡ put room to (k ∷ length (f a) ∷ f a) → Filled (entry k f (optional n a)) to room r room'
set-filled k f n a to room z r e room' q = rw (ne_eqb n 0 z) (record { filled = q; next = omega arith })
