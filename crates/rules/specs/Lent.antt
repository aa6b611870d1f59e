-- Lent memory that a function may write: as it was given, and as it is left. Definitions that take a `&mut` name it by these two.
use Rattle.std.specs.Prelude.{ℕ, List}
use Rattle.std.specs.Borrow.{MutBor}
use denote.Triple.Both.{Both}

abbrev pub Lent : Type 0
Lent = Both (MutBor (List ℕ)) (MutBor (List ℕ))

abbrev pub was : Lent → List ℕ
was x = x.entry.now

abbrev pub left : Lent → List ℕ
left x = x.exit.now
