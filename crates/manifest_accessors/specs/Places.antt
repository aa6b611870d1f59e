-- Where commands and sequences stand in an accepted envelope.
use Rattle.std.specs.Prelude.{ℕ, ◌≤◌, ◌≡◌, length}
use Rattle.rules.specs.Bytes.{Bytes}
use Rattle.rules.specs.Got.{got}
use Rattle.rules.specs.Manifest.{Seq, Cmd}
use Rattle.rules.specs.Check.{command, sequence_at}

-- the command or sequence at `at` as check read it, after at least as many commands as there are events; those in it may be `depth` deep
pub record CommandAt (s : Bytes) (n depth events at : ℕ) : Type 0 where
  pub section : ℕ
  pub m : ℕ
  pub e : ℕ
  pub fits : e ≤ length s
  pub cmd : Cmd
  pub to : ℕ
  pub reads : command s (sequence_at s n section 1 depth) n section 1 m e at ≡ got (cmd, to)
  pub few : events ≤ m

pub record SequenceAt (s : Bytes) (n depth events at : ℕ) : Type 0 where
  pub section : ℕ
  pub m : ℕ
  pub e : ℕ
  pub fits : e ≤ length s
  pub seq : Seq
  pub to : ℕ
  pub reads : sequence_at s n section 1 depth m e at ≡ got (seq, to)
  pub few : events ≤ m
