-- Bytes put one after the other.
use Prim.Native.Nat.{ℕ, suc, ◌+◌, ◌<◌}
use mathlib.Core.Path.{◌≡◌, refl, ◌∙◌}
use mathlib.Core.List.{List, [], ◌∷◌, ◌++◌, append-nil, append_assoc}
use native.Mathlib.Omega.{arith}
use native.Mathlib.Nat.{add-zero, add-suc, suc-add}
use lib.ListN.{length, set, length-append}
use lib.Seq.{set_comm, length-sets}
use Rattle.rules.specs.Bytes.{Bytes, put, flat}
use Rattle.rules.proofs.BytesLaws.{put-append}

set_before : (s : Bytes) (i j x : ℕ) (a : Bytes) → i < j → set (put s j a) i x ≡ put (set s i x) j a
set_before s i j x [] l = refl
set_before s i j x (y ∷ a) l = set_before (set s j y) i (suc j) x a (omega arith) ∙ (rw (set_comm s j i y x (λ e. omega arith)))

-- what is put before may be put after
pub put-before : (s : Bytes) (at : ℕ) (a b : Bytes) → put (put s (at + length a) b) at a ≡ put s at (a ++ b)
put-before s at [] b = rw (add-zero at)
put-before s at (x ∷ a) b =
    rw (add-suc at (length a), set_before s at (suc (at + length a)) x b (omega arith), ← suc-add at (length a)) (put-before (set s at x) (suc at) a b)

-- The pieces one after the other, the first of them k after `at`: as code stores them, each at its own offset from `at`. A byte x that is
-- stored is the piece x ∷ [].
abbrev pub pieces : Bytes → ℕ → ℕ → List Bytes → Bytes
pieces s at k [] = s
pieces s at k (b ∷ bs) = pieces (put s (at + k) b) at (k + length b) bs

-- stores in a row, the first of them at `at`
pub in_a_row : (s : Bytes) (at : ℕ) (a : Bytes) (bs : List Bytes) → pieces (put s at a) at (length a) bs ≡ put s at (flat (a ∷ bs))
in_a_row s at a [] = rw (append-nil a)
in_a_row s at a (b ∷ bs) =
    rw (put-append s at a b, ← length-append a b, in_a_row s at (a ++ b) bs, append_assoc a b (flat bs))

pieces-length : (s : Bytes) (at k : ℕ) (bs : List Bytes) → length (pieces s at k bs) ≡ length s
pieces-length s at k [] = refl
pieces-length s at k (b ∷ bs) = pieces-length (put s (at + k) b) at (k + length b) bs ∙ length-sets s (at + k) b

pub row-length : (s : Bytes) (at : ℕ) (a : Bytes) (bs : List Bytes) → length (pieces (put s at a) at (length a) bs) ≡ length s
row-length s at a bs = pieces-length (put s at a) at (length a) bs ∙ length-sets s at a
