-- A checked manifest: what check answers ('sequence number, components and sections', 01, Five jobs), and its commands as a tree with the
-- places of their codes.
use Rattle.std.specs.Prelude.{◌+◌, ◌∷◌}
use Rattle.rules.specs.Base.{ℕ, List, [], map, Bool, Option}
use Rattle.rules.specs.Bytes.{Bytes, Span, bytes_at}
use Rattle.rules.specs.Commands.{Op}

-- 01, What a manifest may hold: 'Sequences hold commands and commands hold sequences'
mutual
  pub data Seq : Type 0 where
    end : Seq
    then : Cmd → Seq → Seq

  -- a command that writes an event, with its code's place and what it makes of coerce; 30 run sequence; 15 try each
  pub data Cmd : Type 0 where
    one : ℕ → Op → Option Bool → Cmd
    sub : Seq → Cmd
    try : Alts → Cmd

  -- the sequences of a try each, in turn
  pub data Alts : Type 0 where
    last : Seq → Alts
    or : Seq → Alts → Alts

-- how many commands, 'nested ones included'; 15 and 30 are commands too
unfoldable mutual
  pub count : Seq → ℕ
  count end = 0
  count (then c s) = count_cmd c + count s

  pub count_cmd : Cmd → ℕ
  count_cmd (one p o b) = 1
  count_cmd (sub s) = 1 + count s
  count_cmd (try a) = 1 + count_alts a

  pub count_alts : Alts → ℕ
  count_alts (last s) = count s
  count_alts (or s a) = count s + count_alts a

-- the commands of several sequences
abbrev pub counts : List Seq → ℕ
counts [] = 0
counts (a ∷ xs) = count a + counts xs

-- a section that is there, common's sequence among them: its key, where the sequence stands, and the sequence
pub record Section : Type 0 where
  pub key : ℕ
  pub place : Span
  pub seq : Seq

abbrev pub count_all : List Section → ℕ
count_all [] = 0
count_all (x ∷ xs) = count x.seq + count_all xs

-- where the manifest stands in the envelope, its sequence number, where its identifiers stand, where common stands, and the sections
pub record Manifest : Type 0 where
  pub part : Span
  pub number : ℕ
  pub ids : List Span
  pub common : Span
  pub sections : List Section

-- the identifiers as encoded, in the envelope s
abbrev pub names : Bytes → Manifest → List Bytes
names s m = map (bytes_at s) m.ids
