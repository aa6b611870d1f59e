-- A command, by its code, as it is counted.
use Prim.Native.Nat.{ℕ, ◌+◌, ◌-◌, ◌≤◌, ◌<◌}
use mathlib.Core.Path.{◌≡◌, sym, ap, ◌∙◌}
use mathlib.Core.List.{List}
use native.Mathlib.Omega.{arith}
use lib.ListN.{length}
use Rattle.rules.specs.Bytes.{Bytes}
use Rattle.rules.specs.Limits.{limits}
use Rattle.rules.specs.Commands.{run_sequence_code, try_each_code}
use Rattle.rules.specs.Tables.{by_number}
use Rattle.rules.specs.declared.tables.Argument.{Argument}
use Rattle.rules_kinds.specs.Kinds.{kind_of}
use Rattle.rules.specs.Manifest.{Cmd, one, Alts, last, or}
use Rattle.rules.specs.Check.{sequence_at}
use Rattle.rules.specs.Program.{size, size_cmd, size_alts}
use Rattle.rules.specs.ProgramSize.{arg_size, arg_size_cmd, arg_size_alts, size_all, arg_size_all}
use Rattle.manifest_accessors.specs.declared.arguments.Args.{Args}
use Rattle.manifest_accessors.specs.Arguments.{ArgumentAt, ArgumentRead}
use Rattle.manifest_accessors.specs.Heads.{HeadAt}
use Rattle.manifest_accessors.proofs.HeadLaws.{number-headed}
use Rattle.manifest_accessors.proofs.PlaceLaws.{head_later, command_starts}
use Rattle.manifest_accessors.proofs.ArgumentLaws.{command-one}
use Rattle.manifest_accessors.proofs.CommandPlaces.{Coded, coded, Sub, its-sequence, Tries, its-alternatives, list_of, alternatives_law, string-head, string-sequence}
use Rattle.manifest_accessors.proofs.TryPlaces.{AltsAt, Choice, choice, no_choice, try-head, try-places}
use Rattle.translate_size.specs.declared.sizes.Size.{Size}
use Rattle.translate_size.specs.Size.{argument_size, most, SequenceHere, CommandHere, SequenceSized, CommandSized}
use Rattle.translate_size.proofs.ArgumentSizes.{argument_is}

size-alts : (a : Alts) → size_alts a + 1 ≡ size_all (list_of a) + length (list_of a)
unfolding size size_all
size-alts (last a) = omega arith
size-alts (or a b) = omega (arith, size-alts b)

arg_size_alts_lem : (a : Alts) → arg_size_alts a ≡ arg_size_all (list_of a)
unfolding arg_size arg_size_all
arg_size_alts_lem (last a) = omega arith
arg_size_alts_lem (or a b) = omega (arith, arg_size_alts_lem b)

-- the loop over alternatives: what is counted and the alternatives that are left make the whole
pub record Choices (s : Bytes) (table : List ℕ) (depth at : ℕ) (cmd : Cmd) (to k : ℕ) (now : Size) : Type 0 where
  pub rows : table ≡ by_number
  pub n : ℕ
  pub place : AltsAt s n depth 0 k now.next to
  pub behind : at < now.next
  pub records : now.records + size_all place.seqs ≡ size_cmd cmd
  pub arguments : now.arguments + arg_size_all place.seqs ≡ arg_size_cmd cmd
  pub small : size_cmd cmd + arg_size_cmd cmd ≤ most

module _ (s : Bytes) (table : List ℕ) (depth at : ℕ) (j : CommandHere s table depth at) where
  abbrev its-code : Coded s j.n depth 0 at j.place
  its-code = coded s j.n depth 0 at j.place

  abbrev pub command-head : HeadAt s at
  command-head = number-headed s j.place.e at its-code.code its-code.from j.place.fits its-code.reads

  pub starts : at < length s
  starts = command_starts s j.n depth 0 at j.place

  module _ (v p : ℕ) (q : (v ≡ its-code.code) × (p ≡ its-code.from)) where
    -- 30
    module _ (z : v ≡ run_sequence_code) where
      abbrev sub_at : Sub s j.n depth 0 at j.place p
      sub_at = its-sequence s j.n depth 0 at j.place its-code p q.1 (sym q.0 ∙ z)

      abbrev pub sub-head : HeadAt s p
      sub-head = string-head s j.n j.place.section depth (j.place.m + 1) j.place.e p sub_at.seq sub_at.inside j.place.fits

      sub-size : size_cmd j.place.cmd ≡ size sub_at.seq
      unfolding size
      sub-size = ap size_cmd sub_at.is

      sub-weight : arg_size_cmd j.place.cmd ≡ arg_size sub_at.seq
      unfolding arg_size
      sub-weight = ap arg_size_cmd sub_at.is

      pub sub_small : size sub_at.seq + arg_size sub_at.seq ≤ most
      sub_small = omega (arith, sub-size, sub-weight, j.small)

      module _ (w from : ℕ) (o : (w ≡ sub_at.inside.head.num) × (from ≡ sub_at.inside.head.next)) where
        pub sub_later : at < from
        sub_later = omega (arith, q.1, (head_later s at command-head).0, o.1, (head_later s p sub-head).0)

        abbrev pub sub-here : SequenceHere s table depth from
        sub-here =
            record {
              rows = j.rows;
              n = j.n;
              place = string-sequence s j.n j.place.section depth (j.place.m + 1) j.place.e p sub_at.seq sub_at.inside j.place.fits 0 from (omega arith) o.1;
              small = sub_small;
            }

        pub sub_sized : (r : Size) → SequenceSized sub_at.seq sub-here.place.to r → CommandSized j.place.cmd j.place.to r
        sub_sized r sized =
            record {
              records = sized.records ∙ sym sub-size;
              arguments = sized.arguments ∙ sym sub-weight;
              next = sized.next ∙ sym sub_at.to;
            }

    -- any other but 15
    module _ (z : v ≡ run_sequence_code → ⊥) (z' : v ≡ try_each_code → ⊥) where
      abbrev pub OneAt : Type 0
      OneAt = (x : ArgumentAt s v p) × (x.n ≡ j.n) × (j.place.cmd ≡ one at x.op x.coerce) × (x.to ≡ j.place.to) × (j.place.m < limits.commands)

      pub one_at : OneAt
      one_at =
          command-one s j.n j.place.section depth j.place.m j.place.e at j.place.cmd j.place.to j.place.fits j.place.reads v p (rw (q.0, q.1) its-code.reads) z z'

      abbrev pub one-here : ArgumentAt s v p
      one-here = one_at.0

      module _ (a : Args) (r : ArgumentRead s v p one-here a) (k : Argument) (e : k ≡ kind_of v) where
        one-weight : arg_size_cmd j.place.cmd ≡ argument_size k a
        unfolding arg_size
        one-weight = ap arg_size_cmd one_at.2 ∙ sym (argument_is s v p one-here a r k e)

        pub one-small : argument_size k a ≤ most
        one-small = omega (arith, one-weight, j.small)

        pub one_sized : (n : ℕ) → n ≡ argument_size k a → CommandSized j.place.cmd j.place.to (record { next = a.next; records = 1; arguments = n })
        unfolding size
        one_sized n i =
            record {
              records = sym (ap size_cmd one_at.2);
              arguments = i ∙ sym one-weight;
              next = r.next ∙ one_at.3;
            }

    -- 15
    module _ (z : v ≡ try_each_code) where
      abbrev tries_at : Tries s j.n depth 0 at j.place p
      tries_at = its-alternatives s j.n depth 0 at j.place its-code p q.1 (sym q.0 ∙ z)

      abbrev pub tries_head : HeadAt s p
      tries_head = try-head s j.n depth 0 at j.place p tries_at

      tries_size : size_cmd j.place.cmd ≡ size_alts tries_at.alts
      unfolding size
      tries_size = ap size_cmd tries_at.is

      tries_weight : arg_size_cmd j.place.cmd ≡ arg_size_alts tries_at.alts
      unfolding arg_size
      tries_weight = ap arg_size_cmd tries_at.is

      module _ (w from : ℕ) (o : (w ≡ tries_at.head.num) × (from ≡ tries_at.head.next)) where
        pub tries_some : 1 ≤ w
        tries_some = omega (arith, o.0, tries_at.some_of)

        pub choices_start : Choices s table depth at j.place.cmd j.place.to w (record { next = from; records = w - 1; arguments = 0 })
        choices_start =
            let many = (alternatives_law s (sequence_at s j.n j.place.section 1 depth) (tries_at.head.num - 1) (j.place.m + 1) j.place.e
            tries_at.head.next tries_at.alts j.place.to tries_at.reads).1 in
            record {
              rows = j.rows;
              n = j.n;
              place = try-places s j.n depth 0 at j.place p tries_at w from o;
              behind = omega (arith, q.1, (head_later s at command-head).0, o.1, (head_later s p tries_head).0);
              records = omega (arith, tries_size, size-alts tries_at.alts, many, o.0, tries_at.some_of);
              arguments = omega (arith, tries_weight, arg_size_alts_lem tries_at.alts);
              small = j.small;
            }

module _ (s : Bytes) (table : List ℕ) (depth at : ℕ) (cmd : Cmd) (to k : ℕ) (now : Size) (l : Choices s table depth at cmd to k now) where
  pub choices_done : k ≡ 0 → CommandSized cmd to now
  unfolding size_all arg_size_all
  choices_done z =
      let (e, end) = no_choice s l.n depth 0 k now.next to l.place z in
      record { records = omega (arith, l.records, ap size_all e); arguments = omega (arith, l.arguments, ap arg_size_all e); next = end }

  module _ (h : 0 < k) where
    abbrev its_choice : Choice s l.n depth 0 k now.next to l.place
    its_choice = choice s l.n depth 0 k now.next to l.place h

    abbrev pub choice_head : HeadAt s now.next
    choice_head = string-head s l.n l.place.section depth l.place.m l.place.e now.next its_choice.first its_choice.inside l.place.fits

    sum : size_all l.place.seqs ≡ size its_choice.first + size_all its_choice.rest.seqs
    unfolding size_all
    sum = ap size_all its_choice.seqs

    weight : arg_size_all l.place.seqs ≡ arg_size its_choice.first + arg_size_all its_choice.rest.seqs
    unfolding arg_size_all
    weight = ap arg_size_all its_choice.seqs

    pub choice_small : size its_choice.first + arg_size its_choice.first ≤ most
    choice_small = omega (arith, sum, weight, l.records, l.arguments, l.small)

    module _ (w from : ℕ) (o : (w ≡ its_choice.inside.head.num) × (from ≡ its_choice.inside.head.next)) where
      pub choice_later : at < from
      choice_later = omega (arith, l.behind, o.1, (head_later s now.next choice_head).0)

      abbrev pub choice_here : SequenceHere s table depth from
      choice_here =
          record {
            rows = l.rows;
            n = l.n;
            place = string-sequence s l.n l.place.section depth l.place.m l.place.e now.next its_choice.first its_choice.inside l.place.fits 0 from (omega arith) o.1;
            small = choice_small;
          }

      module _ (r : Size) (sized : SequenceSized its_choice.first choice_here.place.to r) where
        pub choices_small : (now.records + r.records ≤ most) × (now.arguments + r.arguments ≤ most)
        choices_small =
            (omega (arith, sum, l.records, l.small, sized.records), omega (arith, weight, l.arguments, l.small, sized.arguments))

        pub choices_on : Choices s table depth at cmd to (k - 1) (record { next = r.next; records = now.records + r.records; arguments = now.arguments + r.arguments })
        choices_on =
            let t = its_choice in
            record {
              rows = l.rows;
              n = l.n;
              place =
                  record {
                    section = t.rest.section;
                    m = t.rest.m;
                    e = t.rest.e;
                    fits = t.rest.fits;
                    seqs = t.rest.seqs;
                    size = t.rest.size;
                    reads = rw sized.next t.rest.reads;
                    few = omega arith;
                  };
              behind = omega (arith, choice_later, o.1, sized.next);
              records = omega (arith, sum, l.records, sized.records);
              arguments = omega (arith, weight, l.arguments, sized.arguments);
              small = l.small;
            }
