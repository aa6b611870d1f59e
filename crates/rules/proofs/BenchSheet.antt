-- The bench sheet of document 01: one table, and one proof that the written rules give each of its answers.
use Prim.Native.Nat.{ℕ}
use mathlib.Core.Path.{◌≡◌, refl}
use mathlib.Core.List.{List, [], ◌∷◌, ◌++◌}
use mathlib.Core.Bool.{true, false}
use lib.ListN.{set, replicate}
use Rattle.rules.specs.Base.{Install, Boot}
use Rattle.rules.specs.Limits.{limits}
use Rattle.rules.specs.Bytes.{Bytes, span}
use Rattle.rules.specs.Cbor.{head, whole, item, one_of}
use Rattle.rules.specs.Manifest.{count}
use Rattle.rules.specs.Check.{check, number, key, in_bytes, strings, identifier, identifiers, components, parameter, entries, alternatives_at, argument, command, commands_at}
use Rattle.rules.specs.Check.{sequence_at, section_at, common_seq, common_at, sections_at, common_in, version_at, numbered_at, front_at, manifest_at, unread, outer_at}
use Rattle.rules.specs.Newer.{in_first, newer}
use Rattle.rules.specs.Slots.{slot_at, image_at, put_image, slots_in, slot_of, good_slots}
use Rattle.rules.specs.Step.{unless, given, passes, slot_no, slot, image, filled, matches, fetches, copies, swaps, acts, step}
use Rattle.rules.specs.Run.{Input, on, run_seq, run_all, admit, report, run_of, run_envelope}
use Rattle.rules.specs.Program.{size, flat_seq, flat_all, program_of, rec_bytes, program_bytes, translate}
use Rattle.rules.specs.ProgramTest.{optional, params_in, op_in, record_in, records_in, ids_in, program_in}
use Rattle.rules.specs.ProgramRun.{exec, run_program}
use Rattle.rules.proofs.Cases as Cases
use Rattle.rules.proofs.Cases.{checks, newest, runs, translates, executes, refusal, part, program, ended, Case, case, wanted, lent_slot, traced}

abbrev pub digest : Bytes
digest =
    0x00 ∷ 0x11 ∷ 0x22 ∷ 0x33 ∷ 0x44 ∷ 0x55 ∷ 0x66 ∷ 0x77 ∷ 0x88 ∷ 0x99 ∷ 0xaa ∷ 0xbb ∷ 0xcc ∷ 0xdd ∷ 0xee ∷ 0xff ∷
    0x01 ∷ 0x23 ∷ 0x45 ∷ 0x67 ∷ 0x89 ∷ 0xab ∷ 0xcd ∷ 0xef ∷ 0xfe ∷ 0xdc ∷ 0xba ∷ 0x98 ∷ 0x76 ∷ 0x54 ∷ 0x32 ∷ 0x10 ∷
    []

-- E: 004 example 0
abbrev pub E : Bytes
E =
    0xa2 ∷ 0x01 ∷ 0xf6 ∷ 0x03 ∷ 0x58 ∷ 0x4d ∷ 0xa4 ∷ 0x01 ∷ 0x01 ∷ 0x02 ∷ 0x01 ∷ 0x03 ∷ 0x58 ∷ 0x3c ∷ 0xa2 ∷ 0x02 ∷
    0x4c ∷ 0x81 ∷ 0x82 ∷ 0x45 ∷ 0x46 ∷ 0x6c ∷ 0x61 ∷ 0x73 ∷ 0x68 ∷ 0x43 ∷ 0x00 ∷ 0x34 ∷ 0x01 ∷ 0x04 ∷ 0x58 ∷ 0x2a ∷
    0x82 ∷ 0x13 ∷ 0xa2 ∷ 0x0b ∷ 0x58 ∷ 0x20 ∷ 0x00 ∷ 0x11 ∷ 0x22 ∷ 0x33 ∷ 0x44 ∷ 0x55 ∷ 0x66 ∷ 0x77 ∷ 0x88 ∷ 0x99 ∷
    0xaa ∷ 0xbb ∷ 0xcc ∷ 0xdd ∷ 0xee ∷ 0xff ∷ 0x01 ∷ 0x23 ∷ 0x45 ∷ 0x67 ∷ 0x89 ∷ 0xab ∷ 0xcd ∷ 0xef ∷ 0xfe ∷ 0xdc ∷
    0xba ∷ 0x98 ∷ 0x76 ∷ 0x54 ∷ 0x32 ∷ 0x10 ∷ 0x0c ∷ 0x19 ∷ 0x87 ∷ 0xd0 ∷ 0x0c ∷ 0x47 ∷ 0x86 ∷ 0x0c ∷ 0x00 ∷ 0x03 ∷
    0xf6 ∷ 0x17 ∷ 0xf6 ∷ []

abbrev pub boot_program : Bytes
boot_program =
    0x53 ∷ 0x50 ∷ 0xfe ∷ 0x01 ∷ 0x00 ∷ 0x00 ∷ 0x00 ∷ 0x01 ∷ 0x01 ∷ 0x00 ∷ 0x04 ∷ 0x53 ∷ 0x50 ∷ 0xfd ∷ 0x0b ∷ 0x82 ∷
    0x45 ∷ 0x46 ∷ 0x6c ∷ 0x61 ∷ 0x73 ∷ 0x68 ∷ 0x43 ∷ 0x00 ∷ 0x34 ∷ 0x01 ∷ 0x53 ∷ 0x50 ∷ 0x13 ∷ 0x00 ∷ 0x00 ∷ 0x21 ∷
    0xff ∷ 0xff ∷ 0x00 ∷ 0x28 ∷ 0x0b ∷ 0x20 ∷ 0x00 ∷ 0x11 ∷ 0x22 ∷ 0x33 ∷ 0x44 ∷ 0x55 ∷ 0x66 ∷ 0x77 ∷ 0x88 ∷ 0x99 ∷
    0xaa ∷ 0xbb ∷ 0xcc ∷ 0xdd ∷ 0xee ∷ 0xff ∷ 0x01 ∷ 0x23 ∷ 0x45 ∷ 0x67 ∷ 0x89 ∷ 0xab ∷ 0xcd ∷ 0xef ∷ 0xfe ∷ 0xdc ∷
    0xba ∷ 0x98 ∷ 0x76 ∷ 0x54 ∷ 0x32 ∷ 0x10 ∷ 0x0c ∷ 0x04 ∷ 0x00 ∷ 0x00 ∷ 0x87 ∷ 0xd0 ∷ 0x53 ∷ 0x50 ∷ 0x0c ∷ 0x00 ∷
    0x00 ∷ 0x4d ∷ 0xff ∷ 0xff ∷ 0x00 ∷ 0x00 ∷ 0x53 ∷ 0x50 ∷ 0x03 ∷ 0x00 ∷ 0x00 ∷ 0x4f ∷ 0xff ∷ 0xff ∷ 0x00 ∷ 0x00 ∷
    0x53 ∷ 0x50 ∷ 0x17 ∷ 0x00 ∷ 0x00 ∷ 0x51 ∷ 0xff ∷ 0xff ∷ 0x00 ∷ 0x00 ∷ []

abbrev pub flash : Bytes
flash = 0x82 ∷ 0x45 ∷ 0x46 ∷ 0x6c ∷ 0x61 ∷ 0x73 ∷ 0x68 ∷ 0x43 ∷ 0x00 ∷ 0x34 ∷ 0x01 ∷ []

-- one slot, of that component, which holds 34768 bytes with digest d
abbrev pub holding : Bytes → Bytes
holding d = lent_slot flash (0 ∷ 1 ∷ 0 ∷ 0 ∷ []) 1 (0 ∷ 0 ∷ 0x87 ∷ 0xd0 ∷ []) d

-- a device of that number and that slot
abbrev pub device : ℕ → Bytes → Input
device n slots =
    record {
      verdict = true;
      device = record { vendor = replicate limits.class 0; class = replicate limits.class 0; number = n; event = false };
      slots = slots;
      answers = [];
      trace = replicate limits.trace 0;
    }

abbrev other : Bytes
other = replicate limits.digest 0

abbrev pub events2 : Bytes
events2 =
    0x53 ∷ 0x54 ∷ 0x13 ∷ 0x00 ∷ 0x00 ∷ 0x21 ∷ 0x00 ∷ 0x00 ∷ 0x53 ∷ 0x54 ∷ 0x0c ∷ 0x00 ∷ 0x00 ∷ 0x4d ∷ 0x00 ∷ 0x00 ∷
    0x53 ∷ 0x54 ∷ 0x03 ∷ 0x00 ∷ 0x00 ∷ 0x4f ∷ 0x00 ∷ 0x00 ∷ 0x53 ∷ 0x54 ∷ 0x17 ∷ 0x00 ∷ 0x00 ∷ 0x51 ∷ 0x00 ∷ 0x00 ∷
    []

abbrev pub events3 : Bytes
events3 =
    0x53 ∷ 0x54 ∷ 0x13 ∷ 0x00 ∷ 0x00 ∷ 0x21 ∷ 0x00 ∷ 0x00 ∷ 0x53 ∷ 0x54 ∷ 0x0c ∷ 0x00 ∷ 0x00 ∷ 0x4d ∷ 0x00 ∷ 0x00 ∷
    0x53 ∷ 0x54 ∷ 0x03 ∷ 0x00 ∷ 0x00 ∷ 0x4f ∷ 0x01 ∷ 0x00 ∷ []

abbrev pub events11 : Bytes
events11 = 0x53 ∷ 0x54 ∷ 0x13 ∷ 0x00 ∷ 0x00 ∷ 0x21 ∷ 0x00 ∷ 0x00 ∷ []

-- the sheet's cases; in case 7 the one byte after E is b
abbrev pub cases : ℕ → List Case
cases b =
    -- 1
    case (translates E Boot 106) (program boot_program)
    ∷ case (translates E Boot 105) (refusal 96 0)
    -- 2, 3
    ∷ case (runs E Boot (device 1 (holding digest))) (ended 2 81 4 0 1 (holding digest) (traced events2))
    ∷ case (runs E Boot (device 1 (holding other))) (ended 1 79 3 0 1 (holding other) (traced events3))
    -- 4, 5, 6, 7
    ∷ case (checks []) (refusal 65 0)
    ∷ case (checks (0xa2 ∷ [])) (refusal 65 1)
    ∷ case (checks (0xa1 ∷ [])) (refusal 66 0)
    ∷ case (checks (E ++ (b ∷ []))) (refusal 65 83)
    -- 8, 9, 10
    ∷ case (checks (set E 8 0x02)) (refusal 67 8)
    ∷ case (checks (set E 8 0x18)) (refusal 65 8)
    ∷ case (checks (set E 78 0x01)) (refusal 72 78)
    ∷ case (checks (set E 81 0x0d)) (refusal 69 81)
    ∷ case (checks (set E 81 0x15)) (refusal 71 81)
    -- 11
    ∷ case (runs E Install (device 1 (holding digest))) (refusal 82 0)
    ∷ case (runs E Install (device 0 (holding digest))) (ended 0 0 1 0 1 (holding digest) (traced events11))
    -- 12
    ∷ case (newest E E) (part (in_first (span 6 83)))
    -- beyond the sheet: the program of 1 run on its own, and bytes that are no program
    ∷ case (executes boot_program (device 1 (holding digest))) (ended 2 81 4 0 1 (holding digest) (traced events2))
    ∷ case (executes boot_program (device 1 (holding other))) (ended 1 79 3 0 1 (holding other) (traced events3))
    ∷ case (executes E (device 1 (holding digest))) (refusal 97 0)
    ∷ []

-- for every byte b: check does not look at it
pub bench_sheet : (b : ℕ) → Cases.given (cases b) ≡ wanted (cases b)
unfolding check number key in_bytes strings identifier identifiers components parameter entries alternatives_at argument command commands_at sequence_at
    section_at common_seq common_at sections_at common_in version_at numbered_at front_at manifest_at unread outer_at head whole item one_of count slot_at image_at
    put_image slots_in slot_of good_slots on unless given passes slot_no slot image filled matches fetches copies swaps acts step run_seq run_all admit report
    run_of run_envelope size flat_seq flat_all program_of rec_bytes program_bytes translate optional params_in op_in record_in records_in ids_in program_in exec run_program newer
bench_sheet b = refl
