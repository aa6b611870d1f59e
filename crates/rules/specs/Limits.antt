-- The limits of document 01: 'The limits in this paper belong to the controller type, each named there once'. Here each is a field of
-- `Limits`, in the code a constant of the controller type; the contract of `Controller::limits` ties the two.
use Rattle.std.specs.Prelude.{◌+◌, ◌*◌}
use Rattle.rules.specs.Base.{ℕ, Limits}

-- 01, What a manifest may hold, in this order: 'Envelope, at most 4,096 bytes', 'numbers to 2^32-1', '1 to 8 identifiers', 'each an array
-- of 1 to 4 byte strings, at most 32 bytes as encoded', 'n 0 to 64', 'at most 4 deep', 'At most 256 commands in an envelope', 'array of 1
-- to 4 sequences', 'map, 1 to 5 entries', 'text, 1 to 96 bytes', '32 bytes', '16-byte string'. How a run goes: '1 to 8 slots'. Refusal
-- numbers, 84: 'trace under 2,048 bytes'. The flat program: '1,024 records'. 02, T-01: 'their size limit becomes 49,152 bytes'
abbrev pub limits : Limits
limits =
    record {
      envelope = 4096;
      largest = 4294967295;
      components = 8;
      parts = 4;
      identifier = 32;
      sequence = 64;
      depth = 4;
      commands = 256;
      alternatives = 4;
      parameters = 5;
      uri = 96;
      digest = 32;
      class = 16;
      slots = 8;
      trace = 2048;
      records = 1024;
      program = 49152;
    }

-- lengths that follow from them. Places: the first byte of each identifier, and the one after its last
abbrev pub places : ℕ
places = 2 * limits.components

-- of common's sequence and sections 8 to 12
abbrev pub section_count : ℕ
section_count = 6

abbrev pub section_places : ℕ
section_places = 2 * section_count

-- the sequences that a group does: common before each of at most three sections
abbrev pub plan_sequences : ℕ
plan_sequences = 6

-- the numbers that hold a component's parameters
abbrev pub param_numbers : ℕ
param_numbers = 5

-- what a run keeps of its components: the number of each one's slot, then the parameters of each
abbrev pub memory_numbers : ℕ
memory_numbers = limits.components + param_numbers * limits.components
