-- The program test: the program that bytes are, or refusal 97 at place 0 (01, The flat program: 'Well formed').
use Rattle.std.specs.Prelude.{◌+◌, ◌∷◌, ◌++◌, ◌&&◌, ◌||◌}
use Rattle.rules.specs.Base.{ℕ, zero, suc, List, [], Bool, true, false, cond, not, Option, some}
use Rattle.rules.specs.Base.{none, ltb, leb, eqb, length, get_or, take, drop, Group, Install, Boot, BadProgram}
use Rattle.rules.specs.Limits.{limits}
use Rattle.rules.specs.Bytes.{Bytes, part, num, same, repeats}
use Rattle.rules.specs.Got.{Got, refused, got, found, ◌>>=◌}
use Rattle.rules.specs.Got as G
use Rattle.rules.specs.Commands.{Op, Params, Form, sixteen, nil, below, alternatives, parameters, sequence, Allowed, anywhere}
use Rattle.rules.specs.Commands.{COMMON, only, commands, row_of, among, uri_key, source_key, digest_key, size_key}
use Rattle.rules.specs.Run.{sections_of}
use Rattle.rules.specs.ProgramFormat.{mark, START, NAME, JUMP, NONE, code_from, group_from, number_from, components_from, records_from, start_size, length_from}
use Rattle.rules.specs.ProgramFormat.{name_size, component_from, place_from, target_from, argument_from, record_size, source_bytes, size_bytes}
use Rattle.rules.specs.Program.{Rec, does, jump, Program, target_of}

abbrev pub need : Bool → Got (Unit {0})
need b = G.need b BadProgram 0

abbrev pub bad : {A : Type 0} → Got A
bad = refused BadProgram 0

-- a record's mark and code
abbrev pub marked : ℕ → Bytes → Bool
marked c p = same (take 3 p) (mark ++ (c ∷ []))

-- the parameter of key k, of lo to hi bytes, if it stands next ('key 1, length 1, value'); and what follows
unfoldable pub optional : {A : Type 0} → ℕ → ℕ → ℕ → (Bytes → A) → Bytes → Got (Option A × Bytes)
optional k lo hi f [] = got (none, [])
optional k lo hi f (x ∷ []) = elim (eqb x k) [ false ↦ got (none, x ∷ []) | true ↦ bad ]
optional k lo hi f (x ∷ n ∷ p) =
    elim (eqb x k) [
      | false ↦ got (none, x ∷ n ∷ p)
      | true ↦ do
        _ ← need (leb lo n && leb n hi && leb n (length p))
        got (some (f (take n p)), drop n p)
    ]

abbrev pub is_below : Option ℕ → ℕ → Bool
is_below none n = true
is_below (some k) n = ltb k n

-- the argument of 19 or 20, for n components: 'parameter keys ascend (there may be none)'
unfoldable pub params_in : ℕ → Bytes → Got Params
params_in n p = do
  (uri, p₁) ← optional uri_key 1 limits.uri (λ b. b) p
  (source, p₂) ← optional source_key source_bytes source_bytes num p₁
  (digest, p₃) ← optional digest_key limits.digest limits.digest (λ b. b) p₂
  (size, p₄) ← optional size_key size_bytes size_bytes num p₃
  _ ← need (same p₄ [])
  _ ← need (is_below source n)
  got (record { uri = uri; source = source; digest = digest; size = size })

-- the command of a form with component i and those bytes as its argument: '1 and 2, the 16 bytes', 'other codes none'; '15 and 30 leave no
-- record'
unfoldable pub op_in : ℕ → ℕ → Form → Bytes → Got Op
op_in n i (sixteen op) p = do
  _ ← need (eqb (length p) limits.class)
  got (op p)
op_in n i (nil op) p = do
  _ ← need (same p [])
  got op
op_in n i (below op) p = do
  _ ← need (same p [])
  got (op i)
op_in n i alternatives p = bad
op_in n i (parameters op) p = do
  ps ← params_in n p
  got (op ps)
op_in n i sequence p = bad

-- common or a section of the group allows it: 'fetch only in group 0, run only in 1'
abbrev pub any_of : List ℕ → List ℕ → Bool
any_of [] ys = false
any_of (x ∷ xs) ys = among x ys || any_of xs ys

abbrev pub group_allows : Group → Allowed → Bool
group_allows g anywhere = true
group_allows g (only sections) = any_of (COMMON ∷ sections_of g) sections

-- record number n of `total`, at the start of p, and what follows it: 'any place but in jumps'; 'targets of jumps and conditions are
-- greater than the record's own number and at most the count (a condition's may be FFFF)'; 'other codes have FFFF'
unfoldable pub record_in : Group → ℕ → ℕ → ℕ → Bytes → Got (Rec × Bytes)
record_in g comps total n p = do
  _ ← need (leb record_size (length p) && same (take 2 p) mark)
  let i = get_or p component_from 0
  let place = num (part p place_from 2)
  let target = num (part p target_from 2)
  let len = num (part p argument_from 2)
  let rest = drop len (drop record_size p)
  _ ← need (leb (record_size + len) (length p))
  let forward = ltb n target && leb target total
  elim (eqb (get_or p code_from 0) JUMP) [
    | true ↦ do
      _ ← need (eqb i 0 && eqb place 0 && eqb len 0 && forward)
      got (jump target, rest)
    | false ↦ do
      row ← found (row_of (get_or p code_from 0) commands) BadProgram 0
      _ ← need (group_allows g row.allowed)
      _ ← need (ltb i comps)
      op ← op_in comps i row.form (part p record_size len)
      _ ← need (eqb target NONE || eqb (target_of op target) target && forward)
      got (does op i place target, rest)
  ]

-- k records more, from number n on
unfoldable pub records_in : Group → ℕ → ℕ → ℕ → ℕ → Bytes → Got (List Rec × Bytes)
records_in g comps total zero n p = got ([], p)
records_in g comps total (suc k) n p = do
  (r, p₁) ← record_in g comps total n p
  (rs, p₂) ← records_in g comps total k (n + 1) p₁
  got (r ∷ rs, p₂)

-- k identifiers: '1 to 32 bytes, not read as CBOR'
unfoldable pub ids_in : ℕ → Bytes → Got (List Bytes × Bytes)
ids_in zero p = got ([], p)
ids_in (suc k) p = do
  let len = get_or p length_from 0
  _ ← need (leb name_size (length p) && marked NAME p && leb 1 len && leb len limits.identifier && leb (name_size + len) (length p))
  (ids, q) ← ids_in k (drop len (drop name_size p))
  got (part p name_size len ∷ ids, q)

abbrev pub non_jumps : List Rec → ℕ
non_jumps [] = 0
non_jumps (does op i p t ∷ rs) = suc (non_jumps rs)
non_jumps (jump t ∷ rs) = non_jumps rs

abbrev pub group_in : ℕ → Option Group
group_in g = cond (eqb g 0) (some Install) (cond (eqb g 1) (some Boot) none)

-- 'Well formed: all this holds for the lengths and ranges above', 'no identifier stands twice', 'at most 256 non-jumps, 1,024 records,
-- .. nothing left over', and 49,152 bytes (02, T-01)
unfoldable pub program_in : Bytes → Got Program
program_in p = do
  _ ← need (leb (length p) limits.program && leb start_size (length p) && marked START p)
  let comps = get_or p components_from 0
  let total = num (part p records_from 2)
  g ← found (group_in (get_or p group_from 0)) BadProgram 0
  _ ← need (leb 1 comps && leb comps limits.components && leb total limits.records)
  (ids, p₁) ← ids_in comps (drop start_size p)
  _ ← need (not (repeats ids))
  (rs, p₂) ← records_in g comps total total 0 p₁
  _ ← need (leb (non_jumps rs) limits.commands)
  _ ← need (same p₂ [])
  got (record { group = g; number = num (part p number_from 4); ids = ids; records = rs })
