-- Every fault of a program is refused with 97 at place 0 (01, Refusal numbers: '97: program not well formed'; '80 to 97 have place 0').
use Prim.Native.Nat.{ℕ, zero, suc, ◌+◌, ◌%◌, ◌<◌}
use mathlib.Core.Path.{◌≡◌, refl}
use mathlib.Core.List.{List, [], ◌∷◌}
use mathlib.Core.Bool.{Bool, true, false, ◌&&◌, ◌||◌, not}
use mathlib.Core.Option.{Option, some, none}
use native.Mathlib.Omega.{arith}
use lib.Dec.{eqb, ltb, leb}
use lib.ListN.{get_or, length, take, drop}
use Rattle.rules.specs.declared.answers.Group.{Group}
use Rattle.rules.specs.declared.answers.Refusal.{Refusal}
use Rattle.rules.specs.declared.answers.Refusal.TheVariants.{BadProgram, NotVerified, EventOpen, WrongNumber, BadSlots, NoSlot, BadAnswers, ShortTrace}
use Rattle.rules.specs.Answers.{refusal_number}
use Rattle.rules.specs.Bytes.{Bytes, part, num, same, all_in, repeats}
use Rattle.rules.specs.Limits.{limits}
use Rattle.rules.specs.Got as Got
use Rattle.rules.specs.Got.{Got, refused, got, found, ◌>>=◌}
use Rattle.rules.specs.Commands.{commands, row_of, Form, sixteen, nil, below, alternatives, parameters, sequence, uri_key, source_key, digest_key, size_key}
use Rattle.rules.specs.ProgramTest.{need, marked, optional, is_below, params_in, op_in, group_allows, record_in, records_in, ids_in, non_jumps, group_in, program_in}
use Rattle.rules.specs.Program.{Program, target_of}
use Rattle.rules.specs.ProgramRun.{exec, run_program}
use Rattle.rules.specs.Slots.{answer_bytes, slot_names, good_slots}
use Rattle.rules.specs.Step.{Env, State, Out}
use Rattle.rules.specs.Run.{Input, Ran, may_start, number_fits, admit, run_of}
use Rattle.rules.specs.ProgramFormat.{NONE, mark, START, NAME, JUMP, code_from, group_from, number_from, components_from, records_from, start_size, length_from}
use Rattle.rules.specs.ProgramFormat.{name_size, component_from, place_from, target_from, argument_from, record_size, source_bytes, size_bytes}

abbrev pub Only97 : {A : Type 0} → Got A → Type 0
Only97 (refused r p) = (r ≡ BadProgram) × (p ≡ 0)
Only97 (got a) = Unit {0}

then97 : {A B : Type 0} (x : Got A) (f : A → Got B) → Only97 x → ((a : A) → Only97 (f a)) → Only97 (x >>= f)
then97 (refused r p) f h k = h
then97 (got a) f h k = k a

need97 : {B : Type 0} (b : Bool) (f : Unit {0} → Got B) → Only97 (f tt) → Only97 (need b >>= f)
need97 true f h = h
need97 false f h = (refl, refl)

found97 : {A : Type 0} (o : Option A) → Only97 (found o BadProgram 0)
found97 none = (refl, refl)
found97 (some a) = tt

either97 : {A : Type 0} (b : Bool) (x y : Got A) → Only97 x → Only97 y → Only97 {A = A} (elim b as (λ _. Got A) [ true ↦ x | false ↦ y ])
either97 true x y h k = h
either97 false x y h k = k

optional97 : {A : Type 0} (k lo hi : ℕ) (f : Bytes → A) (p : Bytes) → Only97 (optional k lo hi f p)
unfolding optional
optional97 k lo hi f [] = tt
optional97 k lo hi f (x ∷ []) = either97 (eqb x k) (refused BadProgram 0) (got (none, x ∷ [])) (refl, refl) tt
optional97 k lo hi f (x ∷ n ∷ p) =
    either97 (eqb x k) (need (leb lo n && leb n hi && leb n (length p)) >>= λ u. got (some (f (take n p)), drop n p)) (got (none, x ∷ n ∷ p))
    (need97 (leb lo n && leb n hi && leb n (length p)) (λ u. got (some (f (take n p)), drop n p)) tt) tt

params97 : (n : ℕ) (p : Bytes) → Only97 (params_in n p)
unfolding params_in
params97 n p =
    then97 (optional uri_key 1 limits.uri (λ b. b) p) _ (optional97 uri_key 1 limits.uri (λ b. b) p) λ a.
    then97 (optional source_key source_bytes source_bytes num a.1) _ (optional97 source_key source_bytes source_bytes num a.1) λ b.
    then97 (optional digest_key limits.digest limits.digest (λ b. b) b.1) _ (optional97 digest_key limits.digest limits.digest (λ b. b) b.1) λ c.
    then97 (optional size_key size_bytes size_bytes num c.1) _ (optional97 size_key size_bytes size_bytes num c.1) λ d.
    need97 (same d.1 []) _ (need97 (is_below b.0 n) _ tt)

op97 : (n i : ℕ) (form : Form) (p : Bytes) → Only97 (op_in n i form p)
unfolding op_in
op97 n i (sixteen op) p = need97 (eqb (length p) limits.class) _ tt
op97 n i (nil op) p = need97 (same p []) _ tt
op97 n i (below op) p = need97 (same p []) _ tt
op97 n i alternatives p = (refl, refl)
op97 n i (parameters op) p = then97 (params_in n p) _ (params97 n p) λ a. tt
op97 n i sequence p = (refl, refl)

record97 : (g : Group) (comps total n : ℕ) (p : Bytes) → Only97 (record_in g comps total n p)
unfolding record_in
record97 g comps total n p =
    let i : ℕ = get_or p component_from 0 in
    let place : ℕ = num (part p place_from 2) in
    let target : ℕ = num (part p target_from 2) in
    let len : ℕ = num (part p argument_from 2) in
    let forward : Bool = ltb n target && leb target total in
    need97 (leb record_size (length p) && same (take 2 p) mark) _
    (need97 (leb (record_size + len) (length p)) _
    (either97 (eqb (get_or p code_from 0) JUMP) _ _ (need97 (eqb i 0 && eqb place 0 && eqb len 0 && forward) _ tt)
    (then97 (found (row_of (get_or p code_from 0) commands) BadProgram 0) _ (found97 (row_of (get_or p code_from 0) commands)) λ row.
    need97 (group_allows g row.allowed) _
    (need97 (ltb i comps) _
    (then97 (op_in comps i row.form (part p record_size len)) _ (op97 comps i row.form (part p record_size len)) λ op.
    need97 (eqb target NONE || eqb (target_of op target) target && forward) _ tt)))))

records97 : (g : Group) (comps total k n : ℕ) (p : Bytes) → Only97 (records_in g comps total k n p)
unfolding records_in
records97 g comps total zero n p = tt
records97 g comps total (suc k) n p =
    then97 (record_in g comps total n p) _ (record97 g comps total n p) λ a.
    then97 (records_in g comps total k (n + 1) a.1) _ (records97 g comps total k (n + 1) a.1) λ b. tt

ids97 : (k : ℕ) (p : Bytes) → Only97 (ids_in k p)
unfolding ids_in
ids97 zero p = tt
ids97 (suc k) p =
    need97 (leb name_size (length p) && marked NAME p && leb 1 (get_or p length_from 0) && leb (get_or p length_from 0) limits.identifier && leb (name_size + get_or p length_from 0) (length p)) _
    (then97 (ids_in k (drop (get_or p length_from 0) (drop name_size p))) _ (ids97 k (drop (get_or p length_from 0) (drop name_size p))) λ a. tt)

-- the program test but for the size: 'Well formed: all this holds for the lengths and ranges above', 'at most 256 non-jumps, 1,024 records',
-- 'nothing left over'. ProgramLength shows that the size adds nothing to it
unfoldable pub well_formed : Bytes → Got Program
well_formed p = do
  _ ← need (leb start_size (length p) && marked START p)
  let comps = get_or p components_from 0
  let total = num (part p records_from 2)
  g ← found (group_in (get_or p group_from 0)) BadProgram 0
  _ ← need (leb 1 comps && leb comps limits.components && leb total limits.records)
  (ids, p₁) ← ids_in comps (drop start_size p)
  _ ← need (not (repeats ids))
  (rs, p₂) ← records_in g comps total total 0 p₁
  _ ← need (leb (non_jumps rs) limits.commands)
  _ ← need (same p₂ [])
  got (record { group = g; number = num (part p number_from 4); ids = ids; records = rs })

-- the size is tested first
pub size_fits : (p : Bytes) → leb (length p) limits.program ≡ true → program_in p ≡ well_formed p
unfolding program_in well_formed
size_fits p e = rw e

pub size-over : (p : Bytes) → leb (length p) limits.program ≡ false → program_in p ≡ refused BadProgram 0
unfolding program_in
size-over p e = rw e

pub formed97 : (p : Bytes) → Only97 (well_formed p)
unfolding well_formed
formed97 p =
    let comps : ℕ = get_or p components_from 0 in
    let total : ℕ = num (part p records_from 2) in
    need97 (leb start_size (length p) && marked START p) _
    (then97 (found (group_in (get_or p group_from 0)) BadProgram 0) _ (found97 (group_in (get_or p group_from 0))) λ g.
    need97 (leb 1 comps && leb comps limits.components && leb total limits.records) _
    (then97 (ids_in comps (drop start_size p)) _ (ids97 comps (drop start_size p)) λ a.
    need97 (not (repeats a.0)) _
    (then97 (records_in g comps total total 0 a.1) _ (records97 g comps total total 0 a.1) λ b.
    need97 (leb (non_jumps b.0) limits.commands) _ (need97 (same b.1 []) _ tt))))

pub program97 : (p : Bytes) → Only97 (program_in p)
program97 p = go (leb (length p) limits.program) refl
  where
    go : (t : Bool) → leb (length p) limits.program ≡ t → Only97 (program_in p)
    go true e = rw (size_fits p e) (formed97 p)
    go false e = rw (size-over p e) (refl, refl)

-- a run's own tests have numbers below 97
abbrev Below97 : {A : Type 0} → Got A → Type 0
Below97 (refused r p) = refusal_number r < refusal_number BadProgram
Below97 (got a) = Unit {0}

then-below : {A B : Type 0} (x : Got A) (f : A → Got B) → Below97 x → ((a : A) → Below97 (f a)) → Below97 (x >>= f)
then-below (refused r p) f h k = h
then-below (got a) f h k = k a

need-below : (b : Bool) (r : Refusal) → refusal_number r < refusal_number BadProgram → Below97 (Got.need b r 0)
need-below true r h = tt
need-below false r h = h

admit-below : (g : Group) (n : ℕ) (ids : List Bytes) (x : Input) → Below97 (admit g n ids x)
unfolding admit
admit-below g n ids x =
    then-below (Got.need x.verdict NotVerified 0) _ (need-below x.verdict NotVerified (omega arith)) λ _.
    then-below (Got.need (may_start g x.device) EventOpen 0) _ (need-below (may_start g x.device) EventOpen (omega arith)) λ _.
    then-below (Got.need (number_fits g n x.device) WrongNumber 0) _ (need-below (number_fits g n x.device) WrongNumber (omega arith)) λ _.
    then-below (Got.need (good_slots x.slots) BadSlots 0) _ (need-below (good_slots x.slots) BadSlots (omega arith)) λ _.
    then-below (Got.need (all_in ids (slot_names x.slots)) NoSlot 0) _ (need-below (all_in ids (slot_names x.slots)) NoSlot (omega arith)) λ _.
    then-below (Got.need (eqb (length x.answers % answer_bytes) 0) BadAnswers 0) _
    (need-below (eqb (length x.answers % answer_bytes) 0) BadAnswers (omega arith)) λ _.
    need-below (leb limits.trace (length x.trace)) ShortTrace (omega arith)

run-below : (g : Group) (n : ℕ) (ids : List Bytes) (body : Env → State → Out) (x : Input) → Below97 (run_of g n ids body x)
unfolding run_of
run-below g n ids body x = then-below (admit g n ids x) _ (admit-below g n ids x) λ _. tt

-- the run of a program that is well formed is never refused with 97
pub never97 : (b : Bytes) (p : Program) (x : Input) (k : ℕ) → program_in b ≡ got p → run_program b x ≡ refused BadProgram k → ⊥
unfolding run_program
never97 b p x k e q =
    let r : run_of p.group p.number p.ids (λ env st. exec env p.records 0 0 st) x ≡ refused BadProgram k = rw e at q in
    let h : Below97 {A = Ran} (refused BadProgram k) = rw r at (run-below p.group p.number p.ids (λ env st. exec env p.records 0 0 st) x) in
    absurd (omega (arith, h))
