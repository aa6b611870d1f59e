-- The tables of commands and parameters as the code keeps them: constant arrays, and one table by number that is lent to each look-up.
-- 01, The shape of some places: 'constant table of codes, argument kinds and allowed sections, consulted by check, translator and program
-- test'.
use Rattle.std.specs.Prelude.{◌+◌, ◌*◌, ◌∷◌, ◌++◌}
use Rattle.std.specs.Prelude as Rust
use Rattle.rules.specs.Base.{ℕ, zero, suc, List, [], Bool, true, false, cond, Option, some, none, eqb, Argument, Sixteen, Nil, Index}
use Rattle.rules.specs.Base.{Alternatives, Parameters, Sequence, Command, Parameter, Coerce, Uri, Source, Digest, Size, ParameterRow}
use Rattle.rules.specs.Commands.{Form, sixteen, nil, below, alternatives, parameters, sequence, Allowed, anywhere, only, PAYLOAD_FETCH}
use Rattle.rules.specs.Commands.{INSTALL, VALIDATE, LOAD, RUN, swap_code, size_key, Row, commands, row_of, ParamRow, params, param_of}

-- the kind of an argument that the code declares for each form
abbrev pub kind_of : Form → Argument
kind_of (sixteen op) = Sixteen
kind_of (nil op) = Nil
kind_of (below op) = Index
kind_of alternatives = Alternatives
kind_of (parameters op) = Parameters
kind_of sequence = Sequence

-- a set of sections as a number: 1 for common, and 2, 4, 8, 16, 32 for sections 8 to 12
abbrev pub weight_of : ℕ → ℕ
weight_of k =
    cond (eqb k PAYLOAD_FETCH) 2
    (cond (eqb k INSTALL) 4 (cond (eqb k VALIDATE) 8 (cond (eqb k LOAD) 16 (cond (eqb k RUN) 32 1))))

abbrev pub weights : List ℕ → ℕ
weights [] = 0
weights (k ∷ ks) = weight_of k + weights ks

abbrev pub set_of : Allowed → ℕ
set_of anywhere = 63
set_of (only sections) = weights sections

-- the rows of the constant arrays
abbrev pub as_command : Row → Command
as_command r = record { code = r.number; condition = r.condition; argument = kind_of r.form; sections = set_of r.allowed }

abbrev pub as_parameter_row : ParamRow → ParameterRow
as_parameter_row r = record { key = r.number; parameter = r.param }

-- what a look-up answers, as Rust's option
abbrev pub listed : Option Row → Rust.Option Command
listed none = Rust.None
listed (some r) = Rust.Some (as_command r)

abbrev pub known : Option Parameter → Rust.Option Parameter
known none = Rust.None
known (some p) = Rust.Some p

-- an argument and a parameter as numbers, and the way back
abbrev pub argument_number : Argument → ℕ
argument_number Sixteen = 0
argument_number Nil = 1
argument_number Index = 2
argument_number Alternatives = 3
argument_number Parameters = 4
argument_number Sequence = 5

abbrev pub argument_at : ℕ → Argument
argument_at n =
    cond (eqb n 0) Sixteen
    (cond (eqb n 1) Nil (cond (eqb n 2) Index (cond (eqb n 3) Alternatives (cond (eqb n 4) Parameters Sequence))))

abbrev pub parameter_number : Parameter → ℕ
parameter_number Coerce = 1
parameter_number Uri = 2
parameter_number Source = 3
parameter_number Digest = 4
parameter_number Size = 5

abbrev pub known_at : ℕ → Rust.Option Parameter
known_at n =
    cond (eqb n 1) (Rust.Some Coerce)
    (cond (eqb n 2) (Rust.Some Uri)
    (cond (eqb n 3) (Rust.Some Source)
    (cond (eqb n 4) (Rust.Some Digest) (cond (eqb n 5) (Rust.Some Size) Rust.None))))

-- the entries of the table by number: 0 where nothing is listed
abbrev pub bit_of : Bool → ℕ
bit_of false = 0
bit_of true = 1

abbrev pub packed : Rust.Option Command → ℕ
packed Rust.None = 0
packed (Rust.Some c) = bit_of c.condition * 512 + argument_number c.argument * 64 + c.sections

abbrev pub packed_parameter : Rust.Option Parameter → ℕ
packed_parameter Rust.None = 0
packed_parameter (Rust.Some p) = parameter_number p

-- f of 0, 1, .., n - 1
abbrev pub values : {A : Type 0} → (ℕ → A) → ℕ → List A
values f zero = []
values f (suc n) = f 0 ∷ values (λ k. f (suc k)) n

-- at c the command of code c, up to the largest, and behind them at k the parameter of key k
abbrev pub codes : ℕ
codes = swap_code + 1

abbrev pub keys : ℕ
keys = size_key + 1

unfoldable pub table_of : List Row → List ParamRow → List ℕ
table_of rows ps =
    values (λ c. packed (listed (row_of c rows))) codes ++ values (λ k. packed_parameter (known (param_of k ps))) keys

unfoldable pub by_number : List ℕ
by_number = table_of commands params
