-- A program is read back from its bytes.
use Prim.Native.Nat.{ℕ, ◌+◌, ◌*◌, ◌/◌, ◌%◌, ◌≤◌, ◌<◌}
use mathlib.Core.Path.{◌≡◌, refl}
use mathlib.Core.List.{List, [], ◌∷◌, ◌++◌, map, append_assoc, append-nil}
use mathlib.Core.Bool.{true, false, ◌&&◌, ◌||◌}
use mathlib.Core.Option.{Option, some, none}
use native.Mathlib.Omega.{arith}
use native.Mathlib.Nat.{div-div-eq-div-mul, div-add-mod', mod-eq_of_lt}
use lib.Dec.{eqb, leb, ltb}
use lib.ListN.{length, length-append}
use lib.Seq.{take-append_seam, drop-append_seam}
use borrow.Author.Tests.{lt-ltb, le-leb, eq-eqb, ne_eqb}
use Rattle.rules.specs.declared.answers.Group.{Group}
use Rattle.rules.specs.declared.answers.Group.TheVariants.{Install, Boot}
use Rattle.rules.specs.Answers.{group_number}
use Rattle.rules.specs.Limits.{limits}
use Rattle.rules.specs.Bytes.{Bytes, num, be2, be4, flat, repeats}
use Rattle.rules.specs.Got.{got}
use Rattle.rules.specs.Commands.{Op, vendor, class, image_match, set_index, abort, set_params, override_params, fetch, copy, run, swap, Params, component, uri_key, source_key, digest_key, size_key}
use Rattle.rules.specs.Program.{Rec, does, jump, Program, target_of, arg_bytes, param_bytes, rec_bytes, id_bytes, program_bytes, entry}
use Rattle.rules.specs.ProgramFormat.{NONE, record_size, start_size, name_size, source_bytes, size_bytes}
use Rattle.rules.specs.ProgramTest.{optional, params_in, op_in, record_in, records_in, group_allows, is_below, ids_in, group_in, program_in, non_jumps}
use Rattle.rules_theorems.proofs.OpLaws.{Fit, GoodOp, row_for, row_law}

num-be2 : (n : ℕ) → n < 65536 → num (be2 n) ≡ n
num-be2 n h = omega arith

four : (z c y b x a n : ℕ) → z * 256 + c ≡ y → y * 256 + b ≡ x → x * 256 + a ≡ n → (((0 * 256 + z) * 256 + c) * 256 + b) * 256 + a ≡ n
four z c y b x a n p q r = omega arith

num-be4 : (n : ℕ) → n < 4294967296 → num (be4 n) ≡ n
num-be4 n h =
    let a : n / 65536 / 256 ≡ n / 16777216 = div-div-eq-div-mul n 65536 256 in
    let b : n / 256 / 256 ≡ n / 65536 = div-div-eq-div-mul n 256 256 in
    let top : n / 256 / 256 / 256 % 256 ≡ n / 256 / 256 / 256 = mod-eq_of_lt (omega arith) in
    rw (← a, ← b, top)
    (four _ _ _ _ _ _ n (div-add-mod' (n / 256 / 256) 256) (div-add-mod' (n / 256) 256) (div-add-mod' n 256))

module _ (g : Group) (comps total n : ℕ) (rest : Bytes) where
  jump_law : (t : ℕ) → n < t → t ≤ total → t < 65536 → record_in g comps total n (rec_bytes (jump t) ++ rest) ≡ got (jump t, rest)
  unfolding record_in rec_bytes
  jump_law t h l s =
      let a : record_size ≤ length (rec_bytes (jump t) ++ rest) = omega arith in
      rw (le-leb _ _ a, num-be2 t s, lt-ltb n t h, le-leb t total l)

  does_law : (op : Op) (i p t : ℕ) → i < comps → p < 65536 → t < 65536 → length (arg_bytes op) < 65536 → group_allows g (row_for op).allowed ≡ true →
      (eqb t NONE || eqb (target_of op t) t && (ltb n t && leb t total)) ≡ true → op_in comps i (row_for op).form (arg_bytes op) ≡ got op →
      record_in g comps total n (rec_bytes (does op i p t) ++ rest) ≡ got (does op i p t, rest)
  unfolding record_in rec_bytes
  does_law op i p t hi hp ht hl ha htarget hop =
      let j : length (arg_bytes op ++ rest) ≡ length (arg_bytes op) + length rest = length-append (arg_bytes op) rest in
      let a : record_size ≤ length (rec_bytes (does op i p t) ++ rest) = omega arith in
      let b : record_size + length (arg_bytes op) ≤ length (rec_bytes (does op i p t) ++ rest) = omega arith in
      rw (
        le-leb _ _ a,
        num-be2 (length (arg_bytes op)) hl,
        le-leb _ _ b,
        (row_law op).1,
        (row_law op).0,
        ha,
        lt-ltb i comps hi,
        num-be2 (length (arg_bytes op)) hl,
        take-append_seam (arg_bytes op) rest,
        hop,
        num-be2 t ht,
        htarget,
        num-be2 p hp,
        drop-append_seam (arg_bytes op) rest,
      )

-- nothing with a key up to k stands first
abbrev Later : ℕ → Bytes → Type 0
Later k [] = Unit {0}
Later k (x ∷ xs) = k < x

later : {A : Type 0} (k k' : ℕ) (enc : A → Bytes) (o : Option A) (rest : Bytes) → k < k' → Later k rest → Later k (entry k' enc o ++ rest)
later k k' enc none rest h l = l
later k k' enc (some a) rest h l = h

optional-none : {A : Type 0} (k lo hi : ℕ) (dec : Bytes → A) (rest : Bytes) → Later k rest → optional k lo hi dec rest ≡ got (none, rest)
unfolding optional
optional-none k lo hi dec [] l = refl
optional-none k lo hi dec (x ∷ []) l = rw (ne_eqb x k (λ e. omega arith), optional)
optional-none k lo hi dec (x ∷ n ∷ p) l = rw (ne_eqb x k (λ e. omega arith), optional)

optional_law : {A : Type 0} (k lo hi : ℕ) (enc : A → Bytes) (dec : Bytes → A) (o : Option A) (rest : Bytes) → Later k rest →
    ((a : A) → o ≡ some a → (lo ≤ length (enc a)) × (length (enc a) ≤ hi) × (dec (enc a) ≡ a)) →
    optional k lo hi dec (entry k enc o ++ rest) ≡ got (o, rest)
unfolding optional
optional_law k lo hi enc dec none rest l g = optional-none k lo hi dec rest l
optional_law k lo hi enc dec (some a) rest l g =
    let (x, y, z) = g a refl in
    let j : length (enc a ++ rest) ≡ length (enc a) + length rest = length-append (enc a) rest in
    let f : length (enc a) ≤ length (enc a ++ rest) = omega arith in
    rw (eq-eqb k k refl, optional, le-leb _ _ x, le-leb _ _ y, le-leb _ _ f, take-append_seam (enc a) rest, drop-append_seam (enc a) rest, z)

below_law : (o : Option ℕ) (n : ℕ) → ((k : ℕ) → o ≡ some k → k < n) → is_below o n ≡ true
below_law none n h = refl
below_law (some k) n h = lt-ltb k n (h k refl)

params_law : (n : ℕ) (p : Params) → Fit n p → params_in n (param_bytes p) ≡ got p
unfolding params_in
params_law n p f =
    let p₃ : Bytes = entry size_key be4 p.size ++ [] in
    let p₂ : Bytes = entry digest_key (λ b. b) p.digest ++ p₃ in
    let p₁ : Bytes = entry source_key (λ k. k ∷ []) p.source ++ p₂ in
    rw (
      optional_law uri_key 1 limits.uri (λ b. b) (λ b. b) p.uri p₁
          (later uri_key source_key (λ k. k ∷ []) p.source p₂ (omega arith)
          (later uri_key digest_key (λ b. b) p.digest p₃ (omega arith) (later uri_key size_key be4 p.size [] (omega arith) tt)))
          (λ b e. ((f.uri b e).0, (f.uri b e).1, refl)),
      optional_law source_key source_bytes source_bytes (λ k. k ∷ []) num p.source p₂
          (later source_key digest_key (λ b. b) p.digest p₃ (omega arith) (later source_key size_key be4 p.size [] (omega arith) tt))
          (λ k e. (omega arith, omega arith, omega arith)),
      optional_law digest_key limits.digest limits.digest (λ b. b) (λ b. b) p.digest p₃ (later digest_key size_key be4 p.size [] (omega arith) tt)
          (λ b e. (omega (arith, f.digest b e), omega (arith, f.digest b e), refl)),
      optional_law size_key size_bytes size_bytes be4 num p.size [] tt (λ k e. (omega arith, omega arith, num-be4 k (omega (arith, f.size k e)))),
      below_law p.source n f.source,
    )

op_law : (n j : ℕ) (op : Op) → GoodOp n op → op_in n (component op j) (row_for op).form (arg_bytes op) ≡ got op
unfolding op_in
op_law n j (vendor b) h = rw (eq-eqb (length b) limits.class h)
op_law n j (class b) h = rw (eq-eqb (length b) limits.class h)
op_law n j image_match h = refl
op_law n j (set_index k) h = refl
op_law n j abort h = refl
op_law n j (set_params p) h = rw (params_law n p h)
op_law n j (override_params p) h = rw (params_law n p h)
op_law n j fetch h = refl
op_law n j copy h = refl
op_law n j run h = refl
op_law n j swap h = refl

-- a command's record number n that is well formed: its component is that of its command at some index
pub record GoodDoes (g : Group) (comps total n : ℕ) (op : Op) (i p t : ℕ) : Type 0 where
  pub index : ℕ
  pub is : component op index ≡ i
  pub below : i < comps
  pub place : p < 65536
  pub target : t < 65536
  pub forward : (eqb t NONE || eqb (target_of op t) t && (ltb n t && leb t total)) ≡ true
  pub allowed : group_allows g (row_for op).allowed ≡ true
  pub short : length (arg_bytes op) < 65536
  pub good : GoodOp comps op

abbrev pub GoodRec : Group → ℕ → ℕ → ℕ → Rec → Type 0
GoodRec g comps total n (does op i p t) = GoodDoes g comps total n op i p t
GoodRec g comps total n (jump t) = (n < t) × (t ≤ total) × (t < 65536)

abbrev pub GoodRecs : Group → ℕ → ℕ → ℕ → List Rec → Type 0
GoodRecs g comps total n [] = Unit {0}
GoodRecs g comps total n (r ∷ rs) = GoodRec g comps total n r × GoodRecs g comps total (n + 1) rs

record_law : (g : Group) (comps total n : ℕ) (rest : Bytes) (r : Rec) → GoodRec g comps total n r → record_in g comps total n (rec_bytes r ++ rest) ≡ got (r, rest)
record_law g comps total n rest (does op i p t) h =
    does_law g comps total n rest op i p t h.below h.place h.target h.short h.allowed h.forward (rw h.is at (op_law comps h.index op h.good))
record_law g comps total n rest (jump t) h = jump_law g comps total n rest t h.0 h.1 h.2

records_law : (g : Group) (comps total n : ℕ) (rest : Bytes) (rs : List Rec) → GoodRecs g comps total n rs →
    records_in g comps total (length rs) n (flat (map rec_bytes rs) ++ rest) ≡ got (rs, rest)
unfolding records_in
records_law g comps total n rest [] h = refl
records_law g comps total n rest (r ∷ rs) h =
    rw (
      append_assoc (rec_bytes r) (flat (map rec_bytes rs)) rest,
      record_law g comps total n (flat (map rec_bytes rs) ++ rest) r h.0,
      records_law g comps total (n + 1) rest rs h.1,
    )

abbrev pub GoodIds : List Bytes → Type 0
GoodIds [] = Unit {0}
GoodIds (x ∷ xs) = (1 ≤ length x) × (length x ≤ limits.identifier) × GoodIds xs

ids_law : (ids : List Bytes) (rest : Bytes) → GoodIds ids → ids_in (length ids) (flat (map id_bytes ids) ++ rest) ≡ got (ids, rest)
unfolding ids_in
ids_law [] rest h = refl
ids_law (x ∷ xs) rest h =
    let q : Bytes = flat (map id_bytes xs) ++ rest in
    let j : length (x ++ q) ≡ length x + length q = length-append x q in
    let a : name_size ≤ length (id_bytes x ++ q) = omega arith in
    let b : name_size + length x ≤ length (id_bytes x ++ q) = omega arith in
    rw (
      append_assoc x (flat (map id_bytes xs)) rest,
      le-leb name_size _ a,
      le-leb 1 (length x) h.0,
      le-leb (length x) limits.identifier h.1,
      le-leb _ _ b,
      drop-append_seam x q,
      ids_law xs rest h.2,
      take-append_seam x q,
    )

pub record GoodProgram (p : Program) : Type 0 where
  pub number : p.number ≤ limits.largest
  pub some-ids : (1 ≤ length p.ids) × (length p.ids ≤ limits.components)
  pub ids : GoodIds p.ids
  pub distinct : repeats p.ids ≡ false
  pub records : GoodRecs p.group (length p.ids) (length p.records) 0 p.records
  pub few : length p.records ≤ limits.records
  pub commands : non_jumps p.records ≤ limits.commands
  pub short : length (program_bytes p) ≤ limits.program

group_law : (g : Group) → group_in (group_number g) ≡ some g
group_law Install = refl
group_law Boot = refl

pub program_law : (p : Program) → GoodProgram p → program_in (program_bytes p) ≡ got p
unfolding program_in program_bytes
program_law p h =
    let q : Bytes = flat (map rec_bytes p.records) in
    let a : start_size ≤ length (program_bytes p) = omega arith in
    let r : records_in p.group (length p.ids) (length p.records) (length p.records) 0 q ≡ got (p.records, []) =
    rw append-nil at (records_law p.group (length p.ids) (length p.records) 0 [] p.records h.records) in
    rw (
      le-leb _ _ h.short,
      le-leb _ _ a,
      group_law p.group,
      le-leb _ _ h.some-ids.0,
      le-leb _ _ h.some-ids.1,
      num-be2 (length p.records) (omega (arith, h.few)),
      le-leb _ _ h.few,
      ids_law p.ids q h.ids,
      h.distinct,
      r,
      le-leb _ _ h.commands,
      num-be4 p.number (omega (arith, h.number)),
    )
