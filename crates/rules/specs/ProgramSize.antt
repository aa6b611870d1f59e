-- How long the program of a sequence is, for what writes it out: its records are `size`, of 10 bytes and an argument each.
use Rattle.std.specs.Prelude.{◌+◌, ◌∷◌}
use Rattle.rules.specs.Base.{ℕ, List, [], length}
use Rattle.rules.specs.Manifest.{Seq, end, then, Cmd, one, sub, try, Alts, last, or}
use Rattle.rules.specs.Program.{arg_bytes, size}

-- how many bytes their arguments have
unfoldable mutual
  pub arg_size : Seq → ℕ
  arg_size end = 0
  arg_size (then c s) = arg_size_cmd c + arg_size s

  pub arg_size_cmd : Cmd → ℕ
  arg_size_cmd (one p op b) = length (arg_bytes op)
  arg_size_cmd (sub s) = arg_size s
  arg_size_cmd (try a) = arg_size_alts a

  pub arg_size_alts : Alts → ℕ
  arg_size_alts (last s) = arg_size s
  arg_size_alts (or s a) = arg_size s + arg_size_alts a

-- of sequences one after the other
unfoldable pub size_all : List Seq → ℕ
size_all [] = 0
size_all (a ∷ rest) = size a + size_all rest

unfoldable pub arg_size_all : List Seq → ℕ
arg_size_all [] = 0
arg_size_all (a ∷ rest) = arg_size a + arg_size_all rest
