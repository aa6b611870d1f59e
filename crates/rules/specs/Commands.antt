-- Commands, parameters, and the command table (01, What a manifest may hold).
use Rattle.std.specs.Prelude.{◌+◌, ◌-◌, ◌∷◌, ◌||◌}
use Rattle.rules.specs.Base.{ℕ, List, [], Bool, true, false, cond, Option, some, none, eqb, Parameter, Coerce, Uri, Source, Digest, Size}
use Rattle.rules.specs.Bytes.{Bytes}

-- the parameters of a component; of a command, those that it gives
pub record Params : Type 0 where
  pub uri : Option Bytes
  pub source : Option ℕ
  pub digest : Option Bytes
  pub size : Option ℕ

abbrev pub unset : Params
unset = record { uri = none; source = none; digest = none; size = none }

abbrev pub or_else : {A : Type 0} → Option A → Option A → Option A
or_else none b = b
or_else (some a) b = some a

-- those of a, and those of b that a leaves unset: '19 skips a parameter already set; 20 replaces it'
abbrev pub over : Params → Params → Params
over a b =
    record {
      uri = or_else a.uri b.uri;
      source = or_else a.source b.source;
      digest = or_else a.digest b.digest;
      size = or_else a.size b.size;
    }

-- the codes of the commands, as in the command table's column Code, and the keys of the parameters
abbrev pub vendor_code : ℕ
vendor_code = 1

abbrev pub class_code : ℕ
class_code = 2

abbrev pub image_match_code : ℕ
image_match_code = 3

abbrev pub set_index_code : ℕ
set_index_code = 12

abbrev pub abort_code : ℕ
abort_code = 14

abbrev pub try_each_code : ℕ
try_each_code = 15

abbrev pub set_parameters_code : ℕ
set_parameters_code = 19

abbrev pub override_code : ℕ
override_code = 20

abbrev pub fetch_code : ℕ
fetch_code = 21

abbrev pub copy_code : ℕ
copy_code = 22

abbrev pub run_code : ℕ
run_code = 23

abbrev pub run_sequence_code : ℕ
run_sequence_code = 30

abbrev pub swap_code : ℕ
swap_code = 32

abbrev pub coerce_key : ℕ
coerce_key = 2

abbrev pub uri_key : ℕ
uri_key = 6

abbrev pub source_key : ℕ
source_key = 10

abbrev pub digest_key : ℕ
digest_key = 11

abbrev pub size_key : ℕ
size_key = 12

-- the eleven commands that write an event ('Each command but 15 and 30 writes one'), with their arguments
pub data Op : Type 0 where
  vendor : Bytes → Op
  class : Bytes → Op
  image_match : Op
  set_index : ℕ → Op
  abort : Op
  set_params : Params → Op
  override_params : Params → Op
  fetch : Op
  copy : Op
  run : Op
  swap : Op

abbrev pub code : Op → ℕ
code (vendor b) = vendor_code
code (class b) = class_code
code image_match = image_match_code
code (set_index k) = set_index_code
code abort = abort_code
code (set_params p) = set_parameters_code
code (override_params p) = override_code
code fetch = fetch_code
code copy = copy_code
code run = run_code
code swap = swap_code

-- the component in a command's event and record: 'component (for 12 the new one)'; it is also the index after the command
abbrev pub component : Op → ℕ → ℕ
component (vendor b) i = i
component (class b) i = i
component image_match i = i
component (set_index k) i = k
component abort i = i
component (set_params p) i = i
component (override_params p) i = i
component fetch i = i
component copy i = i
component run i = i
component swap i = i

-- the command table's column Argument, each with the command that it makes: '16-byte string', 'nil', 'number below component count', 'array
-- of 1 to 4 sequences, each in a byte string', 'map, 1 to 5 entries, ascending', 'a sequence in a byte string'
pub data Form : Type 0 where
  sixteen : (Bytes → Op) → Form
  nil : Op → Form
  below : (ℕ → Op) → Form
  alternatives : Form
  parameters : (Params → Op) → Form
  sequence : Form

-- '3 common', '8 payload fetch, 9 install, 10 validate, 11 load, 12 run'; common's own sequence goes by the key of common
abbrev pub COMMON : ℕ
COMMON = 3

abbrev pub PAYLOAD_FETCH : ℕ
PAYLOAD_FETCH = 8

abbrev pub INSTALL : ℕ
INSTALL = 9

abbrev pub VALIDATE : ℕ
VALIDATE = 10

abbrev pub LOAD : ℕ
LOAD = 11

abbrev pub RUN : ℕ
RUN = 12

-- all of them, in the order of a manifest
abbrev pub all_sections : List ℕ
all_sections = COMMON ∷ PAYLOAD_FETCH ∷ INSTALL ∷ VALIDATE ∷ LOAD ∷ RUN ∷ []

-- sections by number, common's sequence first: the key of section j, and the number of the section under a key
abbrev pub section_key : ℕ → ℕ
section_key j = cond (eqb j 0) COMMON (j + (PAYLOAD_FETCH - 1))

abbrev pub section_no : ℕ → ℕ
section_no key = cond (eqb key COMMON) 0 (key - (PAYLOAD_FETCH - 1))

-- the command table's column Allowed: 'anywhere', or the keys of sections
pub data Allowed : Type 0 where
  anywhere : Allowed
  only : List ℕ → Allowed

-- `condition`: of 1, 2 and 3, whose failure is one that a run sequence or a try each may catch ('Only condition failures are caught')
pub record Row : Type 0 where
  pub number : ℕ
  pub condition : Bool
  pub form : Form
  pub allowed : Allowed

abbrev condition : ℕ → Form → Allowed → Row
condition n f a = record { number = n; condition = true; form = f; allowed = a }

abbrev directive : ℕ → Form → Allowed → Row
directive n f a = record { number = n; condition = false; form = f; allowed = a }

-- 'The command table is kept as data': code, argument, allowed
abbrev pub commands : List Row
commands =
    condition vendor_code (sixteen vendor) anywhere
    ∷ condition class_code (sixteen class) anywhere
    ∷ condition image_match_code (nil image_match) anywhere
    ∷ directive set_index_code (below set_index) anywhere
    ∷ directive abort_code (nil abort) anywhere
    ∷ directive try_each_code alternatives anywhere
    ∷ directive set_parameters_code (parameters set_params) anywhere
    ∷ directive override_code (parameters override_params) anywhere
    ∷ directive fetch_code (nil fetch) (only (PAYLOAD_FETCH ∷ INSTALL ∷ []))
    ∷ directive copy_code (nil copy) (only (PAYLOAD_FETCH ∷ INSTALL ∷ LOAD ∷ []))
    ∷ directive run_code (nil run) (only (RUN ∷ []))
    ∷ directive run_sequence_code sequence anywhere
    ∷ directive swap_code (nil swap) (only (PAYLOAD_FETCH ∷ INSTALL ∷ LOAD ∷ []))
    ∷ []

-- the row of a code, if it is listed
abbrev pub row_of : ℕ → List Row → Option Row
row_of n [] = none
row_of n (r ∷ rs) = elim (eqb n r.number) [ true ↦ some r | false ↦ row_of n rs ]

-- the table's column of conditions, at a code and at a command
abbrev pub condition_in : Option Row → Bool
condition_in none = false
condition_in (some r) = r.condition

abbrev pub is_condition : Op → Bool
is_condition op = condition_in (row_of (code op) commands)

abbrev pub among : ℕ → List ℕ → Bool
among n [] = false
among n (x ∷ xs) = eqb n x || among n xs

-- '"Allowed" is by the outermost section'
abbrev pub is_allowed : ℕ → Allowed → Bool
is_allowed section anywhere = true
is_allowed section (only sections) = among section sections

-- 'Parameters: 2 coerce (boolean), 6 URI (text, 1 to 96 bytes, not examined), 10 source (number below component count), 11 digest (32
-- bytes), 12 size (number)'
pub record ParamRow : Type 0 where
  pub number : ℕ
  pub param : Parameter

abbrev pub params : List ParamRow
params =
    record { number = coerce_key; param = Coerce }
    ∷ record { number = uri_key; param = Uri }
    ∷ record { number = source_key; param = Source }
    ∷ record { number = digest_key; param = Digest }
    ∷ record { number = size_key; param = Size }
    ∷ []

-- the parameter of a key, if it is listed
abbrev pub param_of : ℕ → List ParamRow → Option Parameter
param_of n [] = none
param_of n (r ∷ rs) = elim (eqb n r.number) [ true ↦ some r.param | false ↦ param_of n rs ]
