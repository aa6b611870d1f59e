-- The flat program of a manifest and a group: its records, and their bytes (01, The flat program).
use Rattle.std.specs.Prelude.{◌+◌, ◌∷◌, ◌++◌, ◌&&◌}
use Rattle.rules.specs.Base.{ℕ, List, [], map, Bool, true, false, cond, Option, some, none, leb, length, Group, ShortRoom}
use Rattle.rules.specs.Answers.{group_number}
use Rattle.rules.specs.Bytes.{Bytes, be2, be4, flat}
use Rattle.rules.specs.Got.{Got, got, need, ◌>>=◌}
use Rattle.rules.specs.Commands.{Op, vendor, class, image_match, set_index, abort, set_params, override_params, fetch, copy, run, swap}
use Rattle.rules.specs.Commands.{Params, code, component, is_condition, uri_key, source_key, digest_key, size_key}
use Rattle.rules.specs.Manifest.{Seq, end, then, Cmd, one, sub, try, Alts, last, or, Manifest, names}
use Rattle.rules.specs.Check.{check}
use Rattle.rules.specs.ProgramFormat.{mark, START, NAME, JUMP, NONE}
use Rattle.rules.specs.Run.{index_after, coerce_after, plan_of}

-- a command at a component, with its place and target; a jump to a record
pub data Rec : Type 0 where
  does : Op → ℕ → ℕ → ℕ → Rec
  jump : ℕ → Rec

-- 'A condition's target is the record where a failure goes on, FFFF if uncaught; other codes have FFFF'
abbrev pub target_of : Op → ℕ → ℕ
target_of op t = cond (is_condition op) t NONE

-- how many records: '15 and 30 leave no record', and a jump 'follows each alternative but the last'
unfoldable mutual
  pub size : Seq → ℕ
  size end = 0
  size (then c s) = size_cmd c + size s

  pub size_cmd : Cmd → ℕ
  size_cmd (one p op b) = 1
  size_cmd (sub s) = size s
  size_cmd (try a) = size_alts a

  pub size_alts : Alts → ℕ
  size_alts (last s) = size s
  size_alts (or s a) = size s + (1 + size_alts a)

-- the records, the first of which has number n ('Record numbers count command records from 0'). t: where a failed condition goes on
unfoldable mutual
  -- `coercible`: code 30 runs it, so that under its coerce a failed condition goes on at z, the record after it
  pub flat_seq : Seq → Bool → ℕ → Bool → ℕ → ℕ → ℕ → List Rec
  flat_seq end coercible i c t z n = []
  flat_seq (then x xs) coercible i c t z n =
      flat_cmd x i (cond (coercible && c) z t) n ++ flat_seq xs coercible (index_after x i) (coerce_after x c) t z (n + size_cmd x)

  pub flat_cmd : Cmd → ℕ → ℕ → ℕ → List Rec
  flat_cmd (one p op b) i t n = does op (component op i) p (target_of op t) ∷ []
  flat_cmd (sub s) i t n = flat_seq s true i false t (n + size s) n
  flat_cmd (try a) i t n = flat_alts a i t (n + size_alts a) n

  -- z: 'the record after the try each', to which a jump 'follows each alternative but the last'. A failure goes on at the next alternative;
  -- that of the last goes where the try each's own does
  pub flat_alts : Alts → ℕ → ℕ → ℕ → ℕ → List Rec
  flat_alts (last s) i t z n = flat_seq s false i false t z n
  flat_alts (or s a) i t z n =
      flat_seq s false i false (n + size s + 1) z n ++ jump z ∷ flat_alts a i t z (n + size s + 1)

-- sequences one after the other, each from index 0; nothing catches their failures
unfoldable pub flat_all : List Seq → ℕ → List Rec
flat_all [] n = []
flat_all (s ∷ ss) n = flat_seq s false 0 false NONE 0 n ++ flat_all ss (n + size s)

pub record Program : Type 0 where
  pub group : Group
  pub number : ℕ
  pub ids : List Bytes
  pub records : List Rec

-- 'Its program is the records written out above for that envelope and group' (01, What we hold you to): of s, whose manifest is m
unfoldable pub program_of : Bytes → Group → Manifest → Program
program_of s g m = record { group = g; number = m.number; ids = names s m; records = flat_all (plan_of g m) 0 }

-- 'for each parameter but coerce: key 1, length 1, value (size 4 bytes, source 1)'
abbrev pub entry : {A : Type 0} → ℕ → (A → Bytes) → Option A → Bytes
entry k f none = []
entry k f (some a) = k ∷ length (f a) ∷ f a

abbrev pub param_bytes : Params → Bytes
param_bytes p =
    flat (entry uri_key (λ b. b) p.uri ∷ entry source_key (λ n. n ∷ []) p.source ∷ entry digest_key (λ b. b) p.digest ∷ entry size_key be4 p.size ∷ [])

-- 'Arguments: 1 and 2, the 16 bytes; 19 and 20, for each parameter but coerce .. other codes none'
abbrev pub arg_bytes : Op → Bytes
arg_bytes (vendor b) = b
arg_bytes (class b) = b
arg_bytes image_match = []
arg_bytes (set_index k) = []
arg_bytes abort = []
arg_bytes (set_params p) = param_bytes p
arg_bytes (override_params p) = param_bytes p
arg_bytes fetch = []
arg_bytes copy = []
arg_bytes run = []
arg_bytes swap = []

-- 'Command: mark, code, component (for 12 the new one), place 2, target 2, argument length 2, argument'; 'Jump FF (component 0, place 0; no
-- argument; no event)'
unfoldable pub rec_bytes : Rec → Bytes
rec_bytes (does op i p t) = mark ++ (code op ∷ i ∷ be2 p) ++ be2 t ++ be2 (length (arg_bytes op)) ++ arg_bytes op
rec_bytes (jump t) = mark ++ (JUMP ∷ 0 ∷ be2 0) ++ be2 t ++ be2 0

-- 'Per component: mark, FD, length 1, identifier'
abbrev pub id_bytes : Bytes → Bytes
id_bytes id = mark ++ (NAME ∷ length id ∷ id)

-- 'Start: mark, FE, group (0 install, 1 boot), sequence number 4, component count 1, command record count 2'
unfoldable pub program_bytes : Program → Bytes
program_bytes p =
    mark ++ (START ∷ group_number p.group ∷ be4 p.number) ++ (length p.ids ∷ be2 (length p.records))
    ++ (flat (map id_bytes p.ids) ++ flat (map rec_bytes p.records))

-- 'Translate an envelope and group into a program', into a room of that length; 96: 'program longer than the room'
unfoldable pub translate : Bytes → Group → ℕ → Got Bytes
translate s g room = do
  m ← check s
  let p = program_bytes (program_of s g m)
  _ ← need (leb (length p) room) ShortRoom 0
  got p
