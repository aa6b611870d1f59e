-- How many records a sequence has, and how many bytes their arguments have, read off an accepted envelope.
use Rattle.std.specs.Prelude.{ℕ, ◌+◌, ◌≤◌, ◌≡◌, cond, eqb, List}
use Rattle.rules.specs.Bytes.{Bytes}
use Rattle.rules.specs.Limits.{limits}
use Rattle.rules.specs.ProgramFormat.{entry_size, source_bytes, size_bytes}
use Rattle.rules.specs.Tables.{by_number}
use Rattle.rules.specs.declared.tables.Argument.{Argument}
use Rattle.rules.specs.declared.tables.Argument.TheVariants.{Sixteen, Nil, Index, Alternatives, Parameters, Sequence}
use Rattle.rules.specs.Manifest.{Seq, Cmd}
use Rattle.rules.specs.Program.{size, size_cmd}
use Rattle.rules.specs.ProgramSize.{arg_size, arg_size_cmd}
use Rattle.manifest_accessors.specs.declared.arguments.Args.{Args}
use Rattle.manifest_accessors.specs.Places.{CommandAt, SequenceAt}
use Rattle.translate_size.specs.declared.sizes.Size.{Size}

-- the bytes of the parameters that are set: key, length and value
abbrev pub parameters_size : Args → ℕ
parameters_size a =
    cond (eqb a.params.uri 0) 0 a.params.length + cond (eqb a.params.uri 0) 0 entry_size
    + cond (eqb a.params.source 0) 0 (entry_size + source_bytes) + cond (eqb a.params.digest 0) 0 (entry_size + limits.digest)
    + cond (eqb a.params.size 0) 0 (entry_size + size_bytes)

-- the bytes of an argument of that kind
abbrev pub argument_size : Argument → Args → ℕ
argument_size Sixteen a = limits.class
argument_size Nil a = 0
argument_size Index a = 0
argument_size Alternatives a = 0
argument_size Parameters a = parameters_size a
argument_size Sequence a = 0

-- the largest number of 64 bits; a count up to it does not overflow
abbrev pub most : ℕ
most = 0xffffffffffffffff

-- the sequence or command at `at` as check read it, of a size that can be counted; and the lent table
pub record SequenceHere (s : Bytes) (table : List ℕ) (depth at : ℕ) : Type 0 where
  pub rows : table ≡ by_number
  pub n : ℕ
  pub place : SequenceAt s n depth 0 at
  pub small : size place.seq + arg_size place.seq ≤ most

pub record CommandHere (s : Bytes) (table : List ℕ) (depth at : ℕ) : Type 0 where
  pub rows : table ≡ by_number
  pub n : ℕ
  pub place : CommandAt s n depth 0 at
  pub small : size_cmd place.cmd + arg_size_cmd place.cmd ≤ most

-- the size of the sequence or command, and the place after it
pub record SequenceSized (seq : Seq) (to : ℕ) (r : Size) : Type 0 where
  pub records : r.records ≡ size seq
  pub arguments : r.arguments ≡ arg_size seq
  pub next : r.next ≡ to

pub record CommandSized (cmd : Cmd) (to : ℕ) (r : Size) : Type 0 where
  pub records : r.records ≡ size_cmd cmd
  pub arguments : r.arguments ≡ arg_size_cmd cmd
  pub next : r.next ≡ to
