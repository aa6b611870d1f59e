-- The records of a sequence, written to lent room.
use Rattle.std.specs.Prelude.{ℕ, ◌+◌, ◌*◌, ◌≤◌, ◌<◌, ◌≡◌, Bool, false, List, length}
use Rattle.rules.specs.Lent.{Lent, was, left}
use Rattle.rules.specs.Bytes.{Bytes}
use Rattle.rules.specs.Tables.{by_number}
use Rattle.rules.specs.Limits.{limits}
use Rattle.rules.specs.ProgramFormat.{record_size}
use Rattle.rules.specs.Program.{Rec, size, size_cmd, flat_seq}
use Rattle.rules.specs.ProgramSize.{arg_size, arg_size_cmd}
use Rattle.manifest_accessors.specs.Places.{CommandAt, SequenceAt}
use Rattle.translate_size.specs.Size.{most}
use Rattle.translate_record.specs.declared.record.WriteState.{WriteState}
use Rattle.translate_record.specs.Record.{Wrote, CommandWrote}

-- the sequence at the state's place as check read it, the lent table, and room for its records
pub record SequenceJob (s : Bytes) (table : List ℕ) (depth : ℕ) (state : WriteState) (room : Bytes) : Type 0 where
  pub rows : table ≡ by_number
  pub n : ℕ
  pub place : SequenceAt s n depth 0 state.next
  pub inside : state.index < n
  pub components : n ≤ limits.components
  pub enough : state.to + record_size * size place.seq + arg_size place.seq ≤ length room
  pub few : state.n + size place.seq ≤ limits.records
  pub small : length room ≤ most

pub record CommandJob (s : Bytes) (table : List ℕ) (depth : ℕ) (state : WriteState) (room : Bytes) : Type 0 where
  pub rows : table ≡ by_number
  pub n : ℕ
  pub place : CommandAt s n depth 0 state.next
  pub inside : state.index < n
  pub components : n ≤ limits.components
  pub enough : state.to + record_size * size_cmd place.cmd + arg_size_cmd place.cmd ≤ length room
  pub few : state.n + size_cmd place.cmd ≤ limits.records
  pub small : length room ≤ most

-- the records rs of a sequence that ends at `to` were written from the state on; its index and coerce are as they were
pub record SequenceWrote (rs : List Rec) (to : ℕ) (state : WriteState) (room : Bytes) (r : WriteState) (room' : Bytes) : Type 0 where
  pub wrote : Wrote rs state room r room'
  pub next : r.next ≡ to
  pub index : r.index ≡ state.index
  pub coerce : r.coerce ≡ state.coerce

-- for every such job: the records of the sequence, and of the command, were written from the state on
abbrev pub SequenceWrites : Bytes → Bytes → ℕ → Bool → ℕ → ℕ → WriteState → Lent → WriteState → Type 0
SequenceWrites s table depth coercible target beyond state room r =
    (j : SequenceJob s table depth state (was room)) →
    SequenceWrote (flat_seq j.place.seq coercible state.index false target beyond state.n) j.place.to state (was room) r (left room)

abbrev pub CommandWrites : Bytes → Bytes → ℕ → ℕ → WriteState → Lent → WriteState → Type 0
CommandWrites s table depth target state room r =
    (j : CommandJob s table depth state (was room)) → CommandWrote j.place.cmd j.place.to j.n target state (was room) r (left room)
