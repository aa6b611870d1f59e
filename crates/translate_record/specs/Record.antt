-- A record of a program, written to lent room.
use Rattle.std.specs.Prelude.{ℕ, ◌+◌, ◌≤◌, ◌<◌, ◌≡◌, List, [], ◌∷◌, ◌++◌, map, length}
use Rattle.rules.specs.Lent.{Lent, was, left}
use Rattle.rules.specs.Bytes.{Bytes, put, flat, be2}
use Rattle.rules.specs.Tables.{by_number}
use Rattle.rules.specs.Manifest.{Cmd, one}
use Rattle.rules.specs.Limits.{limits}
use Rattle.rules.specs.ProgramFormat.{mark, record_size}
use Rattle.rules.specs.Program.{Rec, jump, arg_bytes, flat_cmd, rec_bytes}
use Rattle.rules.specs.Run.{index_after, coerce_after}
use Rattle.manifest_accessors.specs.Arguments.{is_true, ArgumentAt}
use Rattle.translate_record.specs.declared.record.WriteState.{WriteState}

-- a record up to its argument
unfoldable pub head_bytes : ℕ → ℕ → ℕ → ℕ → ℕ → Bytes
head_bytes code component place target size = mark ++ (code ∷ component ∷ be2 place) ++ be2 target ++ be2 size

-- the bytes of the records, one after the other
unfoldable pub written : List Rec → Bytes
written rs = flat (map rec_bytes rs)

-- the records rs were written from the state on
pub record Wrote (rs : List Rec) (state : WriteState) (room : Bytes) (r : WriteState) (room' : Bytes) : Type 0 where
  pub filled : room' ≡ put room state.to (written rs)
  pub to : r.to ≡ state.to + length (written rs)
  pub n : r.n ≡ state.n + length rs

-- the command's records were written from the state on; the state goes on at `to`, with the index and coerce after the command
pub record CommandWrote (cmd : Cmd) (to components target : ℕ) (state : WriteState) (room : Bytes) (r : WriteState) (room' : Bytes) : Type 0 where
  pub wrote : Wrote (flat_cmd cmd state.index target state.n) state room r room'
  pub next : r.next ≡ to
  pub index : r.index ≡ index_after cmd state.index
  pub inside : r.index < components
  pub coerce : is_true r.coerce ≡ coerce_after cmd (is_true state.coerce)

-- a jump was written there
pub record JumpWrote (target : ℕ) (state : WriteState) (room : Bytes) (r : WriteState) (room' : Bytes) : Type 0 where
  pub wrote : Wrote (jump target ∷ []) state room r room'
  pub next : r.next ≡ state.next
  pub index : r.index ≡ state.index
  pub coerce : r.coerce ≡ state.coerce

-- a command that holds no sequence, by its code and argument, the lent table, and room for its record
pub record LeafJob (s : Bytes) (table : List ℕ) (code at : ℕ) (state : WriteState) (room : Bytes) : Type 0 where
  pub rows : table ≡ by_number
  pub argument : ArgumentAt s code at
  pub inside : state.index < argument.n
  pub components : argument.n ≤ limits.components
  pub enough : state.to + record_size + length (arg_bytes argument.op) ≤ length room
  pub count : state.n < limits.records

-- for every such job: its record was written from the state on
abbrev pub LeafWrites : Bytes → Bytes → ℕ → ℕ → ℕ → WriteState → Lent → WriteState → Type 0
LeafWrites s table code at target state room r =
    (j : LeafJob s table code at state (was room)) →
    CommandWrote (one state.next j.argument.op j.argument.coerce) j.argument.to j.argument.n target state (was room) r (left room)
