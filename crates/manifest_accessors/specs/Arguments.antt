-- The argument of a command that writes an event, as the runner reads it.
use Rattle.std.specs.Prelude.{ℕ, ◌+◌, ◌≤◌, ◌<◌, ◌≡◌, Bool, cond, eqb, length}
use Rattle.std.proofs.Math.Option.{Option, some}
use Rattle.rules.specs.Bytes.{Bytes}
use Rattle.rules.specs.Got.{got}
use Rattle.rules.specs.Cbor.{TRUE}
use Rattle.rules.specs.declared.tables.Parameter.{Parameter}
use Rattle.rules.specs.Commands.{Op, set_index, code, component, Row, row_of, commands, params, param_of}
use Rattle.rules.specs.Manifest.{Seq, one}
use Rattle.rules.specs.Check.{Read, Given, nothing, over_given, parameter, entries, argument}
use Rattle.manifest_accessors.specs.declared.arguments.Args.{Args}
use Rattle.run_slots.specs.declared.params.Params.{Params}
use Rattle.run_slots.specs.Params.{optional, meaning, Fit}
use Rattle.run_commands.specs.Op.{op_of, SixteenAt}

-- coerce as a number; 0 is unset
abbrev pub coerce_false : ℕ
coerce_false = 1

abbrev pub coerce_true : ℕ
coerce_true = 2

abbrev pub is_true : ℕ → Bool
is_true n = eqb n coerce_true

-- CBOR's true, false and nil are one byte each: 0xe0 and the kind
abbrev pub true_byte : ℕ
true_byte = 0xe0 + TRUE

abbrev pub flag_of : ℕ → ℕ
flag_of b = cond (eqb b true_byte) coerce_true coerce_false

abbrev pub coerce_of : ℕ → Option Bool
coerce_of n = optional n (is_true n)

abbrev pub given_of : Bytes → Args → Given
given_of s a = record { coerce = coerce_of a.coerce; params = meaning s a.params }

-- a URI lies in the bytes s, and its length fits in one
pub record Within (s : Bytes) (p : Params) : Type 0 where
  pub inside : 0 < p.uri → p.uri + p.length ≤ length s
  pub short : p.length < 256

-- no parameters
abbrev pub bare_at : ℕ → ℕ → Args
bare_at value next = record { value = value; params = record { uri = 0; length = 0; source = 0; digest = 0; size = 0 }; coerce = 0; next = next }

-- the value at `at` of the parameter under a key, which check has accepted
pub record EntryAt (s : Bytes) (key at : ℕ) : Type 0 where
  pub n : ℕ
  pub e : ℕ
  pub fits : e ≤ length s
  pub what : Parameter
  pub known : param_of key params ≡ some what
  pub given : Given
  pub to : ℕ
  pub reads : parameter s n what e at ≡ got (given, to)

-- it was put over the parameters of a
pub record EntryPut (s : Bytes) (key at : ℕ) (x : EntryAt s key at) (a r : Args) : Type 0 where
  pub given : given_of s r ≡ over_given x.given (given_of s a)
  pub next : r.next ≡ x.to
  pub fit : Fit s x.n a.params → Fit s x.n r.params
  pub within : Within s a.params → Within s r.params

-- k entries of a map of parameters, which check has accepted
pub record Entries (s : Bytes) (k at : ℕ) : Type 0 where
  pub n : ℕ
  pub e : ℕ
  pub fits : e ≤ length s
  pub given : Given
  pub to : ℕ
  pub reads : entries s n k 0 nothing e at ≡ got (given, to)

-- they were read
abbrev pub EntriesRead : (s : Bytes) (k at : ℕ) → Entries s k at → Args → Type 0
EntriesRead s k at x a = (given_of s a ≡ x.given) × (a.next ≡ x.to) × Fit s x.n a.params × Within s a.params

-- the argument at `at` of a command of code c, which check has accepted
pub record ArgumentAt (s : Bytes) (c at : ℕ) : Type 0 where
  pub deeper : ℕ → Read Seq
  pub n : ℕ
  pub m : ℕ
  pub place : ℕ
  pub e : ℕ
  pub fits : e ≤ length s
  pub row : Row
  pub listed : row_of c commands ≡ some row
  pub op : Op
  pub coerce : Option Bool
  pub to : ℕ
  pub reads : argument s deeper n 1 m place row.form e at ≡ got (one place op coerce, to)

-- the component that a command concerns: the new index where its code sets the index, else the current one
abbrev pub component_of : ℕ → ℕ → ℕ → ℕ
component_of c value index = cond (eqb c (code (set_index value))) value index

-- it was read
pub record ArgumentRead (s : Bytes) (c at : ℕ) (x : ArgumentAt s c at) (a : Args) : Type 0 where
  pub op : op_of s c a.value a.params ≡ x.op
  pub coerce : coerce_of a.coerce ≡ x.coerce
  pub next : a.next ≡ x.to
  pub fit : Fit s x.n a.params
  pub within : Within s a.params
  pub sixteen : SixteenAt s c a.value
  pub inside : (i : ℕ) → i < x.n → component x.op i < x.n
  pub component : (i : ℕ) → component x.op i ≡ component_of c a.value i
