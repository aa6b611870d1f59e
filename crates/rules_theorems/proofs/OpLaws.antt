-- The commands and the rows of the table that make them: what a row promises of its commands, and the row of each command.
use Prim.Native.Nat.{ℕ, ◌+◌, ◌-◌, ◌*◌, ◌≤◌, ◌<◌}
use mathlib.Core.Path.{◌≡◌, refl, subst}
use mathlib.Core.List.{List, [], ◌∷◌}
use mathlib.Core.Bool.{Bool, true, false}
use mathlib.Core.Option.{Option, some, none, get_or}
use native.Mathlib.Omega.{arith}
use lib.Dec.{eqb}
use lib.ListN.{length, length-append}
use Rattle.rules.specs.Limits.{limits}
use Rattle.rules.specs.Bytes.{Bytes, be4}
use Rattle.rules.specs.Commands.{Params, unset, or_else, over, Op, vendor, class, image_match, set_index, abort, set_params, override_params, fetch, copy, run, swap, code, component, Form}
use Rattle.rules.specs.Commands.{sixteen, nil, below, alternatives, parameters, sequence, Allowed, anywhere, Row, commands, row_of, uri_key, source_key, digest_key, size_key}
use Rattle.rules.specs.Program.{entry, param_bytes, arg_bytes}
use Rattle.rules.specs.ProgramFormat.{JUMP, entry_size, size_bytes}
use Rattle.rules.proofs.TableLaws.{◌&◌}

-- parameters within their ranges, for n components
pub record Fit (n : ℕ) (p : Params) : Type 0 where
  pub uri : (b : Bytes) → p.uri ≡ some b → (1 ≤ length b) × (length b ≤ limits.uri)
  pub source : (k : ℕ) → p.source ≡ some k → k < n
  pub digest : (b : Bytes) → p.digest ≡ some b → length b ≡ limits.digest
  pub size : (k : ℕ) → p.size ≡ some k → k ≤ limits.largest

pub no_some : {A : Type 0} (P : Type 0) (x : A) → ◌≡◌ {A = Option A} none (some x) → P
no_some P x e = let z : ◌≡◌ {A = ℕ} 0 1 = cc in absurd (omega arith)

pub some_is : {A : Type 0} {a b : A} (P : A → Type 0) → P a → some a ≡ some b → P b
some_is {A} {a} {b} P h e = let f : a ≡ b = cc in subst P f h

pub fit-unset : (n : ℕ) → Fit n unset
fit-unset n =
    record { uri = λ x e. no_some _ x e; source = λ x e. no_some _ x e; digest = λ x e. no_some _ x e; size = λ x e. no_some _ x e }

either : {A : Type 0} (a b : Option A) (x : A) (P : A → Type 0) → ((y : A) → a ≡ some y → P y) → ((y : A) → b ≡ some y → P y) → or_else a b ≡ some x → P x
either none b x P f g e = g x e
either (some y) b x P f g e = f x e

pub fit-over : (n : ℕ) (a b : Params) → Fit n a → Fit n b → Fit n (over a b)
fit-over n a b f g =
    record {
      uri = λ x e. either a.uri b.uri x (λ y. (1 ≤ length y) × (length y ≤ limits.uri)) f.uri g.uri e;
      source = λ x e. either a.source b.source x (λ y. y < n) f.source g.source e;
      digest = λ x e. either a.digest b.digest x (λ y. length y ≡ limits.digest) f.digest g.digest e;
      size = λ x e. either a.size b.size x (λ y. y ≤ limits.largest) f.size g.size e;
    }

-- by how many bytes, at most, a parameter takes more in a record than in an envelope, where a size may have 1; and so an argument
abbrev pub growth : ℕ
growth = entry_size + size_bytes - 1

abbrev pub argument_growth : ℕ
argument_growth = growth * limits.parameters

-- the bytes that parameters take in a record
abbrev pub weight : Params → ℕ
weight p = length (param_bytes p)

pub weight_is : (p : Params) → weight p ≡
    length (entry uri_key (λ b. b) p.uri) + (length (entry source_key (λ (n : ℕ). n ∷ []) p.source) + (length (entry digest_key (λ b. b) p.digest) + length (entry size_key be4 p.size)))
weight_is p = simp (length-append) (omega arith)

entry_le : {A : Type 0} (k : ℕ) (f : A → Bytes) (a b : Option A) → length (entry k f (or_else a b)) ≤ length (entry k f a) + length (entry k f b)
entry_le k f none b = omega arith
entry_le k f (some x) b = omega arith

pub weight-over : (a b : Params) → weight (over a b) ≤ weight a + weight b
weight-over a b =
    omega (
      arith,
      weight_is a,
      weight_is b,
      weight_is (over a b),
      entry_le 6 (λ x. x) a.uri b.uri,
      entry_le 10 (λ (n : ℕ). n ∷ []) a.source b.source,
      entry_le 11 (λ x. x) a.digest b.digest,
      entry_le 12 be4 a.size b.size,
    )

-- a command whose argument is within its ranges, for n components
abbrev pub GoodOp : ℕ → Op → Type 0
GoodOp n (vendor b) = length b ≡ limits.class
GoodOp n (class b) = length b ≡ limits.class
GoodOp n image_match = Unit {0}
GoodOp n (set_index k) = k < n
GoodOp n abort = Unit {0}
GoodOp n (set_params p) = Fit n p
GoodOp n (override_params p) = Fit n p
GoodOp n fetch = Unit {0}
GoodOp n copy = Unit {0}
GoodOp n run = Unit {0}
GoodOp n swap = Unit {0}

pub component-below : (n i : ℕ) (op : Op) → i < n → GoodOp n op → component op i < n
component-below n i (vendor b) h o = h
component-below n i (class b) h o = h
component-below n i image_match h o = h
component-below n i (set_index k) h o = o
component-below n i abort h o = h
component-below n i (set_params p) h o = h
component-below n i (override_params p) h o = h
component-below n i fetch h o = h
component-below n i copy h o = h
component-below n i run h o = h
component-below n i swap h o = h

-- the row of a command
abbrev pub row_for : Op → Row
row_for op = get_or (row_of (code op) commands) (record { number = 0; condition = false; form = sequence; allowed = anywhere })

-- it is in the table, and is no jump
pub row_law : (op : Op) → (row_of (code op) commands ≡ some (row_for op)) × (eqb (code op) JUMP ≡ false)
row_law (vendor b) = (refl, refl)
row_law (class b) = (refl, refl)
row_law image_match = (refl, refl)
row_law (set_index k) = (refl, refl)
row_law abort = (refl, refl)
row_law (set_params p) = (refl, refl)
row_law (override_params p) = (refl, refl)
row_law fetch = (refl, refl)
row_law copy = (refl, refl)
row_law run = (refl, refl)
row_law swap = (refl, refl)

-- what a row promises of each command that it makes: it is good, allowed as the row says, and its argument has w bytes in a record
abbrev Makes : Allowed → ℕ → Op → ℕ → Type 0
Makes a n op w = GoodOp n op × ((row_for op).allowed ≡ a) × (length (arg_bytes op) ≡ w)

abbrev pub RowOk : Form → Allowed → Type 0
RowOk (sixteen op) a = (n : ℕ) (b : Bytes) → length b ≡ limits.class → Makes a n (op b) limits.class
RowOk (nil op) a = (n : ℕ) → Makes a n op 0
RowOk (below op) a = (n k : ℕ) → k < n → Makes a n (op k) 0
RowOk alternatives a = Unit {0}
RowOk (parameters op) a = (n : ℕ) (p : Params) → Fit n p → Makes a n (op p) (weight p)
RowOk sequence a = Unit {0}

abbrev RowsOk : List Row → Type 0
RowsOk [] = Unit {0}
RowsOk (r ∷ rs) = RowOk r.form r.allowed × RowsOk rs

table_ok : RowsOk commands
table_ok =
    (λ n b h. (h, refl, h))
    & (λ n b h. (h, refl, h))
    & (λ n. (tt, refl, refl))
    & (λ n k h. (h, refl, refl))
    & (λ n. (tt, refl, refl))
    & tt
    & (λ n p h. (h, refl, refl))
    & (λ n p h. (h, refl, refl))
    & (λ n. (tt, refl, refl))
    & (λ n. (tt, refl, refl))
    & (λ n. (tt, refl, refl))
    & tt
    & (λ n. (tt, refl, refl))
    & tt

pub row_ok : (c : ℕ) (r : Row) → row_of c commands ≡ some r → RowOk r.form r.allowed
row_ok c r e = find commands table_ok e
  where
    find : (rs : List Row) → RowsOk rs → row_of c rs ≡ some r → RowOk r.form r.allowed
    find [] h e = let z : ◌≡◌ {A = ℕ} 0 1 = cc in absurd (omega arith)
    find (x ∷ xs) h e = go (eqb c x.number) e (λ e'. find xs h.1 e')
      where
        go : (b : Bool) → (elim b as (λ _. Option Row) [ true ↦ some x | false ↦ row_of c xs ]) ≡ some r →
            (row_of c xs ≡ some r → RowOk r.form r.allowed) → RowOk r.form r.allowed
        go true e' k = let f : x ≡ r = cc in subst (λ (y : Row). RowOk y.form y.allowed) f h.0
        go false e' k = k e'

pub code-small : (op : Op) → code op < 256
code-small (vendor b) = omega arith
code-small (class b) = omega arith
code-small image_match = omega arith
code-small (set_index k) = omega arith
code-small abort = omega arith
code-small (set_params p) = omega arith
code-small (override_params p) = omega arith
code-small fetch = omega arith
code-small copy = omega arith
code-small run = omega arith
code-small swap = omega arith
