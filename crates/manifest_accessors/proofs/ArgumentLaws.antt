-- What a command that check has accepted tells of its argument.
use Prim.Native.Nat.{ℕ, ◌+◌, ◌≤◌, ◌<◌}
use mathlib.Core.Path.{◌≡◌, refl, sym, ap, ◌∙◌}
use mathlib.Core.Bool.{Bool, true}
use mathlib.Core.Option.{Option, some, none}
use native.Mathlib.Omega.{arith}
use lib.Dec.{ltb, leb}
use lib.ListN.{length}
use borrow.Author.Tests.{leb-true}
use Rattle.rules.specs.declared.answers.Refusal.TheVariants.{NotAllowed, NoSuchComponent, TooManyCommands, UnknownCommand}
use Rattle.rules.specs.Limits.{limits}
use Rattle.rules.specs.Bytes.{Bytes, part}
use Rattle.rules.specs.Got.{got, found}
use Rattle.rules.specs.Cbor.{BYTES, MAP, NIL, item}
use Rattle.rules.specs.Commands.{Op, Params, Form, sixteen, nil, below, alternatives, parameters, sequence, Row, commands, row_of, is_allowed, try_each_code, run_sequence_code}
use Rattle.rules.specs.Manifest.{Seq, Cmd, one}
use Rattle.rules.specs.Check.{Read, nothing, number, entries, argument, command, sequence_at}
use Rattle.rules.proofs.GotLaws.{passed, both, split, split₂, found-is}
use Rattle.manifest_accessors.specs.Arguments.{ArgumentAt}
use Rattle.rules.specs.Tables as Tables
use Rattle.rules_kinds.specs.Kinds.{kind_of}
use Rattle.rules_kinds.proofs.KindTests.{runs, tries}

pub form_of : (c : ℕ) (r x : Row) → row_of c commands ≡ some r → row_of c commands ≡ some x → r.form ≡ x.form
form_of c r x p q = let same : r ≡ x = cc in rw same

pub kind-is : (c : ℕ) (r : Row) → row_of c commands ≡ some r → kind_of c ≡ Tables.kind_of r.form
unfolding kind_of
kind-is c r e = rw e

module _ (s : Bytes) where
  -- a command's row, and its argument
  pub record Coded (deeper : ℕ → Read Seq) (n m e at : ℕ) (cmd : Cmd) (to c p : ℕ) : Type 0 where
    pub row : Row
    pub listed : row_of c commands ≡ some row
    pub room : m < limits.commands
    pub reads : argument s deeper n 1 (m + 1) at row.form e p ≡ got (cmd, to)

  module _ (deeper : ℕ → Read Seq) (n section m e at : ℕ) (cmd : Cmd) (to : ℕ) (q₀ : command s deeper n section 1 m e at ≡ got (cmd, to)) where
    pub command-coded : (c p : ℕ) → number s e at ≡ got (c, p) → Coded deeper n m e at cmd to c p
    unfolding command
    command-coded c p qn =
        split₂ _ (number s e at) _ (cmd, to) q₀ λ c' p' q q₁.
        split _ (found (row_of c' commands) UnknownCommand at) _ (cmd, to) q₁ λ row qr q₂.
        let (al, q₃) = passed (is_allowed section row.allowed) NotAllowed at _ (cmd, to) q₂ in
        let (room, q₄) = passed (leb (m + 1) limits.commands) TooManyCommands at _ (cmd, to) q₃ in
        let (ec, ep) = both (sym q ∙ qn) in
        rw (← ec, ← ep)
        (record { row = row; listed = found-is (row_of c' commands) UnknownCommand at row qr; room = omega (arith, leb-true (m + 1) limits.commands room); reads = q₄ })

  -- only the rows of 15 and 30 hold sequences
  module _ (deeper : ℕ → Read Seq) (n m place e at : ℕ) (cmd : Cmd) (to : ℕ) where
    abbrev IsOne : Type 0
    IsOne = (op : Op) × (coerce : Option Bool) × (cmd ≡ one place op coerce)

    sixteen-one : (op : Bytes → Op) → argument s deeper n 1 m place (sixteen op) e at ≡ got (cmd, to) → IsOne
    unfolding argument
    sixteen-one op q₀ = split _ (item BYTES limits.class limits.class s e at) _ (cmd, to) q₀ λ h qh q₁. (op (part s h.next limits.class), none, sym (both q₁).0)

    nil-one : (op : Op) → argument s deeper n 1 m place (nil op) e at ≡ got (cmd, to) → IsOne
    unfolding argument
    nil-one op q₀ = split _ (item NIL 0 0 s e at) _ (cmd, to) q₀ λ h qh q₁. (op, none, sym (both q₁).0)

    below_one : (op : ℕ → Op) → argument s deeper n 1 m place (below op) e at ≡ got (cmd, to) → IsOne
    unfolding argument
    below_one op q₀ =
        split₂ _ (number s e at) _ (cmd, to) q₀ λ k next qk q₁.
        let (t, q₂) = passed (ltb k n) NoSuchComponent at _ (cmd, to) q₁ in
        (op k, none, sym (both q₂).0)

    parameters-one : (op : Params → Op) → argument s deeper n 1 m place (parameters op) e at ≡ got (cmd, to) → IsOne
    unfolding argument
    parameters-one op q₀ =
        split _ (item MAP 1 limits.parameters s e at) _ (cmd, to) q₀ λ h qh q₁.
        split₂ _ (entries s n h.num 0 nothing e h.next) _ (cmd, to) q₁ λ g next qg q₂.
        (op g.params, g.coerce, sym (both q₂).0)

    one-row : (c : ℕ) (r : Row) → row_of c commands ≡ some r → (c ≡ run_sequence_code → ⊥) → (c ≡ try_each_code → ⊥) → argument s deeper n 1 m place r.form e at ≡ got (cmd, to) → IsOne
    one-row c r listed a b = go r.form (kind-is c r listed)
      where
        go : (f : Form) → kind_of c ≡ Tables.kind_of f → argument s deeper n 1 m place f e at ≡ got (cmd, to) → IsOne
        go (sixteen op) k = sixteen-one op
        go (nil op) k = nil-one op
        go (below op) k = below_one op
        go alternatives k = absurd (b (tries c (kind_of c) refl true (rw k) refl))
        go (parameters op) k = parameters-one op
        go sequence k = absurd (a (runs c (kind_of c) refl true (rw k) refl))

  module _ (n section depth m e at : ℕ) (cmd : Cmd) (to : ℕ) (f : e ≤ length s)
      (q₀ : command s (sequence_at s n section 1 depth) n section 1 m e at ≡ got (cmd, to)) where
    pub command-one : (c p : ℕ) → number s e at ≡ got (c, p) → (c ≡ run_sequence_code → ⊥) → (c ≡ try_each_code → ⊥) →
        (x : ArgumentAt s c p) × (x.n ≡ n) × (cmd ≡ one at x.op x.coerce) × (x.to ≡ to) × (m < limits.commands)
    command-one c p qn a b =
        let x = command-coded (sequence_at s n section 1 depth) n section m e at cmd to q₀ c p qn in
        let (op, coerce, is) = one-row (sequence_at s n section 1 depth) n (m + 1) at e p cmd to c x.row x.listed a b x.reads in (
          record {
            deeper = sequence_at s n section 1 depth;
            n = n;
            m = m + 1;
            place = at;
            e = e;
            fits = f;
            row = x.row;
            listed = x.listed;
            op = op;
            coerce = coerce;
            to = to;
            reads = x.reads ∙ ap (λ (y : Cmd). got (y, to)) is;
          },
          refl,
          is,
          refl,
          x.room,
        )
