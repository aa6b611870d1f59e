-- What the program test answers, by the places of a program's bytes.
use Rattle.std.specs.Prelude.{◌≤◌, ◌≡◌, Bool, ◌&&◌, [], Option, Some, None, unwrap_or, leb, length, get_or, drop, replicate}
use Rattle.rules.specs.Bytes.{Bytes, part, num, InBytes}
use Rattle.rules.specs.Got.{Got, refused, got}
use Rattle.rules.specs.Limits.{limits, places}
use Rattle.rules.specs.Program.{Program}
use Rattle.rules.specs.ProgramFormat.{START, group_from, components_from, records_from, start_size}
use Rattle.rules.specs.ProgramTest.{marked, ids_in, records_in, non_jumps}
use Rattle.run_slot_search.specs.Search.{names_at}
use Rattle.program_parameters.specs.Entries.{next_in}
use Rattle.program_names.specs.Names.{places_from}
use Rattle.program_test.specs.declared.test.Tested.{Tested}

-- the tests of a program's start
unfoldable pub start_fits : Bytes → Bool
start_fits p =
    leb (length p) limits.program && leb start_size (length p) && marked START p && leb (get_or p group_from 0) 1
    && (leb 1 (get_or p components_from 0) && leb (get_or p components_from 0) limits.components && leb (num (part p records_from 2)) limits.records)

-- of the program x, by the bytes of its start
abbrev pub tested_of : Bytes → Program → Tested
tested_of p x =
    record {
      group = x.group;
      number = x.number;
      components = get_or p components_from 0;
      records = num (part p records_from 2);
      from = unwrap_or (next_in (length p) (ids_in (get_or p components_from 0) (drop start_size p))) 0;
      ids = places_from p (get_or p components_from 0) 0 start_size (replicate places 0);
    }

-- the program x, as its run needs it
pub record ProgramAt (p : Bytes) (x : Program) (t : Tested) : Type 0 where
  pub exact : t ≡ tested_of p x
  pub small : t.number ≤ limits.largest
  pub some-ids : (1 ≤ t.components) × (t.components ≤ limits.components)
  pub names : names_at p t.ids t.components ≡ x.ids
  pub places : InBytes t.ids t.components (length p)
  pub from : t.from ≤ length p
  pub size : t.records ≤ limits.records
  pub reads : records_in x.group t.components t.records t.records 0 (drop t.from p) ≡ got (x.records, [])
  pub few : non_jumps x.records ≤ limits.commands

abbrev pub TestedAs : Bytes → Got Program → Option Tested → Type 0
TestedAs p (refused r q) t = t ≡ None
TestedAs p (got x) None = ⊥
TestedAs p (got x) (Some t) = ProgramAt p x t
