-- A sequence has at most four records for each command: by sequences, commands and alternatives at once. FlatLaws states it.
use Prim.Native.Nat.{ℕ, ◌+◌, ◌*◌, ◌≤◌}
use native.Mathlib.Omega.{arith}
use Rattle.rules.specs.Limits.{limits}
use Rattle.rules.specs.Manifest.{Seq, end, then, Cmd, one, sub, try, Alts, last, or, count, count_cmd, count_alts}
use Rattle.rules.specs.Program.{size, size_cmd, size_alts}
use Rattle.rules_theorems.proofs.TreeLaws.{jumps, GoodSeq, GoodCmd, GoodAlts}

mutual
  unfolding GoodSeq size count

  pub seq_size : (a : Seq) (n sec : ℕ) → GoodSeq a n sec → size a ≤ limits.alternatives * count a
  seq_size end n sec g = omega arith
  seq_size (then c s) n sec g = omega (arith, cmd_size c n sec g.0, seq_size s n sec g.1)

  cmd_size : (c : Cmd) (n sec : ℕ) → GoodCmd c n sec → size_cmd c ≤ limits.alternatives * count_cmd c
  cmd_size (one p op b) n sec g = omega arith
  cmd_size (sub s) n sec g = omega (arith, seq_size s n sec g)
  cmd_size (try a) n sec g = omega (arith, alts_size a n sec g.0, g.1)

  alts_size : (a : Alts) (n sec : ℕ) → GoodAlts a n sec → size_alts a ≤ limits.alternatives * count_alts a + jumps a
  alts_size (last s) n sec g = omega (arith, seq_size s n sec g)
  alts_size (or s a) n sec g = omega (arith, seq_size s n sec g.0, alts_size a n sec g.1)
