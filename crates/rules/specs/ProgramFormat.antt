-- The layout of a program's records (01, The flat program): 'Every record has its mark first, here `53 50`'. Each number stands here once.
use Rattle.std.specs.Prelude.{◌∷◌}
use Rattle.rules.specs.Base.{ℕ, []}
use Rattle.rules.specs.Bytes.{Bytes}

abbrev pub mark : Bytes
mark = 0x53 ∷ 0x50 ∷ []

-- the codes of the records that are no commands, after the mark
abbrev pub START : ℕ
START = 0xfe

abbrev pub NAME : ℕ
NAME = 0xfd

abbrev pub JUMP : ℕ
JUMP = 0xff

-- no target: 'FFFF if uncaught; other codes have FFFF'
abbrev pub NONE : ℕ
NONE = 0xffff

abbrev pub code_from : ℕ
code_from = 2

-- 'Start: mark, FE, group (0 install, 1 boot), sequence number 4, component count 1, command record count 2'
abbrev pub group_from : ℕ
group_from = 3

abbrev pub number_from : ℕ
number_from = 4

abbrev pub components_from : ℕ
components_from = 8

abbrev pub records_from : ℕ
records_from = 9

abbrev pub start_size : ℕ
start_size = 11

-- 'Per component: mark, FD, length 1, identifier'
abbrev pub length_from : ℕ
length_from = 3

abbrev pub name_size : ℕ
name_size = 4

-- 'Command: mark, code, component (for 12 the new one), place 2, target 2, argument length 2, argument'
abbrev pub component_from : ℕ
component_from = 3

abbrev pub place_from : ℕ
place_from = 4

abbrev pub target_from : ℕ
target_from = 6

abbrev pub argument_from : ℕ
argument_from = 8

abbrev pub record_size : ℕ
record_size = 10

-- 'key 1, length 1, value (size 4 bytes, source 1)'
abbrev pub entry_length_from : ℕ
entry_length_from = 1

abbrev pub entry_size : ℕ
entry_size = 2

abbrev pub source_bytes : ℕ
source_bytes = 1

abbrev pub size_bytes : ℕ
size_bytes = 4
