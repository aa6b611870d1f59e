-- The head of a record, by its place.
use Prim.Native.Nat.{ℕ, ◌+◌, ◌≤◌}
use mathlib.Core.Path.{◌≡◌, sym, ◌∙◌}
use lib.ListN.{length}
use Rattle.rules.specs.Bytes.{Bytes, part, num, two_at}
use Rattle.rules.proofs.BytesLaws.{num_2}

-- two bytes, as the code reads them
pub two_is : (p : Bytes) (at k x : ℕ) → at + k + 2 ≤ length p → x ≡ two_at p (at + k) → x ≡ num (part p (at + k) 2)
two_is p at k x l e = e ∙ sym (num_2 p (at + k) l)
