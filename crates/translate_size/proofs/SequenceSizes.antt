-- A sequence, command by command, as it is counted.
use Prim.Native.Nat.{ℕ, ◌+◌, ◌-◌, ◌/◌, ◌≤◌, ◌<◌}
use mathlib.Core.Path.{◌≡◌, refl, ap, ◌∙◌}
use mathlib.Core.List.{List}
use native.Mathlib.Omega.{arith}
use Rattle.rules.specs.Bytes.{Bytes}
use Rattle.rules.specs.Tables.{by_number}
use Rattle.rules.specs.Manifest.{Seq}
use Rattle.rules.specs.Program.{size, size_cmd}
use Rattle.rules.specs.ProgramSize.{arg_size, arg_size_cmd}
use Rattle.manifest_accessors.specs.Heads.{HeadAt}
use Rattle.manifest_accessors.proofs.PlaceLaws.{head_later, command_later}
use Rattle.manifest_accessors.proofs.SequencePlaces.{CommandsAt, start, start-head, start-commands, Turn, turn, no_more, all_read}
use Rattle.translate_size.specs.declared.sizes.Size.{Size}
use Rattle.translate_size.specs.Size.{most, SequenceHere, CommandHere, SequenceSized, CommandSized}

-- of n turns, i of which are done
pub turn_left : (n i : ℕ) → i < n → 0 < n - i
turn_left n i l = omega arith

pub turn_less : (n i : ℕ) → n - (i + 1) ≡ n - i - 1
turn_less n i = omega arith

-- the loop over commands: what is counted and the commands that are left make the whole
pub record Commands (s : Bytes) (table : List ℕ) (depth at : ℕ) (seq : Seq) (to k : ℕ) (now : Size) : Type 0 where
  pub rows : table ≡ by_number
  pub n : ℕ
  pub place : CommandsAt s n depth 0 k now.next
  pub ends : place.to ≡ to
  pub behind : at < now.next
  pub records : now.records + size place.cmds ≡ size seq
  pub arguments : now.arguments + arg_size place.cmds ≡ arg_size seq
  pub small : size seq + arg_size seq ≤ most

module _ (s : Bytes) (table : List ℕ) (depth at : ℕ) (j : SequenceHere s table depth at) where
  pub sequence-deep : 0 < depth
  sequence-deep = (start s j.n depth 0 at j.place).deep

  abbrev pub sequence-head : HeadAt s at
  sequence-head = start-head s j.n depth 0 at j.place

  pub commands-start : (v p : ℕ) → (v ≡ sequence-head.head.num) × (p ≡ sequence-head.head.next) →
      Commands s table (depth - 1) at j.place.seq j.place.to (v / 2) (record { next = p; records = 0; arguments = 0 })
  commands-start v p q =
      record {
        rows = j.rows;
        n = j.n;
        place = start-commands s j.n depth 0 at j.place v p q;
        ends = refl;
        behind = omega (arith, q.1, (head_later s at sequence-head).0);
        records = omega arith;
        arguments = omega arith;
        small = j.small;
      }

module _ (s : Bytes) (table : List ℕ) (depth at : ℕ) (seq : Seq) (to k : ℕ) (now : Size) (l : Commands s table depth at seq to k now) where
  pub commands-done : k ≡ 0 → SequenceSized seq to now
  unfolding size arg_size
  commands-done z =
      let e = no_more s l.n depth 0 k now.next l.place z in
      record {
        records = omega (arith, l.records, ap size e);
        arguments = omega (arith, l.arguments, ap arg_size e);
        next = all_read s l.n depth 0 k now.next l.place z ∙ l.ends;
      }

  module _ (h : 0 < k) where
    abbrev its-turn : Turn s l.n depth 0 k now.next l.place
    its-turn = turn s l.n depth 0 k now.next l.place h

    sum : size l.place.cmds ≡ size_cmd its-turn.first.cmd + size its-turn.rest.cmds
    unfolding size
    sum = ap size its-turn.cmds

    weight : arg_size l.place.cmds ≡ arg_size_cmd its-turn.first.cmd + arg_size its-turn.rest.cmds
    unfolding arg_size
    weight = ap arg_size its-turn.cmds

    pub command-small : size_cmd its-turn.first.cmd + arg_size_cmd its-turn.first.cmd ≤ most
    command-small = omega (arith, sum, weight, l.records, l.arguments, l.small)

    abbrev pub command-here : CommandHere s table depth now.next
    command-here = record { rows = l.rows; n = l.n; place = its-turn.first; small = command-small }

    module _ (r : Size) (sized : CommandSized its-turn.first.cmd its-turn.first.to r) where
      pub commands-small : (now.records + r.records ≤ most) × (now.arguments + r.arguments ≤ most)
      commands-small =
          (omega (arith, sum, l.records, l.small, sized.records), omega (arith, weight, l.arguments, l.small, sized.arguments))

      pub commands-on : Commands s table depth at seq to (k - 1) (record { next = r.next; records = now.records + r.records; arguments = now.arguments + r.arguments })
      commands-on =
          let t = its-turn in
          record {
            rows = l.rows;
            n = l.n;
            place =
                record {
                  section = t.rest.section;
                  m = t.rest.m;
                  e = t.rest.e;
                  fits = t.rest.fits;
                  cmds = t.rest.cmds;
                  to = t.rest.to;
                  reads = rw sized.next t.rest.reads;
                  few = omega arith;
                };
            ends = t.ends ∙ l.ends;
            behind = omega (arith, l.behind, sized.next, command_later s l.n depth 0 now.next t.first);
            records = omega (arith, sum, l.records, sized.records);
            arguments = omega (arith, weight, l.arguments, sized.arguments);
            small = l.small;
          }
