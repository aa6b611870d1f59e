-- What is well formed by every test but that of the size has at most 46,635 bytes (02, T-01: 'their size limit becomes 49,152 bytes').
use Prim.Native.Nat.{ℕ, zero, suc, ◌+◌, ◌-◌, ◌*◌, ◌≤◌}
use mathlib.Core.Path.{◌≡◌, refl, ap}
use mathlib.Core.List.{List, [], ◌∷◌}
use mathlib.Core.Bool.{Bool, true, false, ◌&&◌, ◌||◌, not}
use mathlib.Core.Option.{Option}
use native.Mathlib.Omega.{arith}
use lib.Dec.{eqb, ltb, leb}
use lib.ListN.{length, get_or, take, drop, length-drop}
use borrow.Author.Tests.{leb-true, eqb-true}
use Rattle.rules.specs.declared.answers.Group.{Group}
use Rattle.rules.specs.declared.answers.Refusal.TheVariants.{BadProgram}
use Rattle.rules.specs.Bytes.{Bytes, part, num, same, repeats}
use Rattle.rules.specs.Limits.{limits}
use Rattle.rules.specs.Got.{Got, got, found}
use Rattle.rules.specs.Commands.{Op, Params, commands, row_of, Form, sixteen, nil, below, alternatives, parameters, sequence}
use Rattle.rules.specs.Commands.{uri_key, source_key, digest_key, size_key}
use Rattle.rules.specs.Program.{Rec, Program, target_of}
use Rattle.rules.specs.ProgramFormat.{NONE, mark, START, NAME, JUMP, code_from, group_from, components_from, records_from, start_size, length_from}
use Rattle.rules.specs.ProgramFormat.{name_size, component_from, place_from, target_from, argument_from, record_size, entry_size, source_bytes, size_bytes}
use Rattle.rules.specs.ProgramTest.{marked, optional, params_in, op_in, group_allows, record_in, records_in, ids_in, non_jumps, group_in}
use Rattle.rules.proofs.GotLaws.{and-true, passed, split, split₂, both}
use Rattle.rules.proofs.BytesLaws.{length_part}
use Rattle.rules_theorems.proofs.FlatLaws.{non_jumps-append}
use Rattle.rules_theorems.proofs.ProgramFaults.{well_formed}

-- all four entries of a set or override: '19 and 20, for each parameter but coerce: key 1, length 1, value (size 4 bytes, source 1)', with
-- 'text, 1 to 96 bytes' and '32 bytes'. 1 and 2 have 16 bytes, 'other codes none'
abbrev pub longest_argument : ℕ
longest_argument = (entry_size + limits.uri) + (entry_size + source_bytes) + (entry_size + limits.digest) + (entry_size + size_bytes)

-- the start, 8 names of 'identifiers 1 to 32 bytes', '1,024 records', and the arguments of 'at most 256 non-jumps'
abbrev pub longest : ℕ
longest =
    start_size + (name_size + limits.identifier) * limits.components + record_size * limits.records + longest_argument * limits.commands

pub longest-is : longest ≡ 46635
longest-is = refl

same-nil : (p : Bytes) → same p [] ≡ true → length p ≡ 0
same-nil [] e = refl
same-nil (x ∷ p) e = let z : ◌≡◌ {A = ℕ} 0 1 = cc in absurd (omega arith)

-- a value of two branches is that of one of them
either : {A : Type 0} (C : Type 0) (t : Bool) (x y : Got A) (a : A) → ◌≡◌ {A = Got A} (elim t as (λ _. Got A) [ true ↦ x | false ↦ y ]) (got a) →
    (x ≡ got a → C) → (y ≡ got a → C) → C
either C true x y a e f g = f e
either C false x y a e f g = g e

-- an entry, if it stands there, and what follows
optional-length : {A : Type 0} (k lo hi : ℕ) (f : Bytes → A) (p : Bytes) (o : Option A) (q : Bytes) → optional k lo hi f p ≡ got (o, q) →
    length p ≤ entry_size + hi + length q
unfolding optional
optional-length k lo hi f [] o q e = omega arith
optional-length k lo hi f (x ∷ []) o q e = omega arith
optional-length k lo hi f (x ∷ n ∷ p) o q e =
    either _ (eqb x k) _ _ (o, q) e
    (λ e₁.
    let (t, e₂) = passed (leb lo n && leb n hi && leb n (length p)) BadProgram 0 _ (o, q) e₁ in
    let (t₁, _) = and-true (leb lo n && leb n hi) _ t in
    omega (arith, leb-true n hi (and-true (leb lo n) _ t₁).1, ap length (both e₂).1, length-drop n p))
    (λ e₁. omega (arith, ap length (both e₁).1))

params-length : (n : ℕ) (p : Bytes) (a : Params) → params_in n p ≡ got a → length p ≤ longest_argument
unfolding params_in
params-length n p a q₀ =
    split₂ _ (optional uri_key 1 limits.uri (λ b. b) p) _ a q₀ λ uri p₁ e₁ q₁.
    split₂ _ (optional source_key source_bytes source_bytes num p₁) _ a q₁ λ source p₂ e₂ q₂.
    split₂ _ (optional digest_key limits.digest limits.digest (λ b. b) p₂) _ a q₂ λ digest p₃ e₃ q₃.
    split₂ _ (optional size_key size_bytes size_bytes num p₃) _ a q₃ λ size p₄ e₄ q₄.
    let (t, _) = passed (same p₄ []) BadProgram 0 _ a q₄ in
    omega (
      arith,
      optional-length uri_key 1 limits.uri (λ b. b) p uri p₁ e₁,
      optional-length source_key source_bytes source_bytes num p₁ source p₂ e₂,
      optional-length digest_key limits.digest limits.digest (λ b. b) p₂ digest p₃ e₃,
      optional-length size_key size_bytes size_bytes num p₃ size p₄ e₄,
      same-nil p₄ t,
    )

op-length : (n i : ℕ) (form : Form) (p : Bytes) (op : Op) → op_in n i form p ≡ got op → length p ≤ longest_argument
unfolding op_in
op-length n i (sixteen f) p op q = omega (arith, eqb-true (length p) limits.class (passed (eqb (length p) limits.class) BadProgram 0 _ op q).0)
op-length n i (nil f) p op q = omega (arith, same-nil p (passed (same p []) BadProgram 0 _ op q).0)
op-length n i (below f) p op q = omega (arith, same-nil p (passed (same p []) BadProgram 0 _ op q).0)
op-length n i alternatives p op q = let z : ◌≡◌ {A = ℕ} 0 1 = cc in absurd (omega arith)
op-length n i (parameters f) p op q = split _ (params_in n p) _ op q λ a e _. params-length n p a e
op-length n i sequence p op q = let z : ◌≡◌ {A = ℕ} 0 1 = cc in absurd (omega arith)

-- 'Command: mark, code, component .., place 2, target 2, argument length 2, argument'; 'Jump FF (component 0, place 0; no argument ..)'
record_length : (g : Group) (comps total n : ℕ) (p : Bytes) (r : Rec) (q : Bytes) → record_in g comps total n p ≡ got (r, q) →
    length p ≤ record_size + longest_argument * non_jumps (r ∷ []) + length q
unfolding record_in
record_length g comps total n p r q q₀ =
    let i : ℕ = get_or p component_from 0 in
    let place : ℕ = num (part p place_from 2) in
    let target : ℕ = num (part p target_from 2) in
    let len : ℕ = num (part p argument_from 2) in
    let forward : Bool = ltb n target && leb target total in
    let rest : length (drop len (drop record_size p)) ≡ length p - record_size - len = simp length-drop in
    let (_, q₁) = passed (leb record_size (length p) && same (take 2 p) mark) BadProgram 0 _ (r, q) q₀ in
    let (t, q₂) = passed (leb (record_size + len) (length p)) BadProgram 0 _ (r, q) q₁ in
    let fits : record_size + len ≤ length p = leb-true _ _ t in
    either _ (eqb (get_or p code_from 0) JUMP) _ _ (r, q) q₂
    (λ q₃.
    let (t₁, q₄) = passed (eqb i 0 && eqb place 0 && eqb len 0 && forward) BadProgram 0 _ (r, q) q₃ in
    let (t₂, _) = and-true (eqb i 0 && eqb place 0 && eqb len 0) _ t₁ in
    let empty : len ≡ 0 = eqb-true _ _ (and-true (eqb i 0 && eqb place 0) _ t₂).1 in
    omega (arith, ap length (both q₄).1)) λ q₃.
    split _ (found (row_of (get_or p code_from 0) commands) BadProgram 0) _ (r, q) q₃ λ row _ q₄.
    let (_, q₅) = passed (group_allows g row.allowed) BadProgram 0 _ (r, q) q₄ in
    let (_, q₆) = passed (ltb i comps) BadProgram 0 _ (r, q) q₅ in
    split _ (op_in comps i row.form (part p record_size len)) _ (r, q) q₆ λ op e q₇.
    let (_, q₈) = passed (eqb target NONE || eqb (target_of op target) target && forward) BadProgram 0 _ (r, q) q₇ in
    let (er, eq) = both q₈ in
    let one : non_jumps (r ∷ []) ≡ 1 = rw (← er) in
    omega (arith, ap length eq, op-length comps i row.form _ op e, length_part p record_size len fits)

-- k records, of which the jumps have no argument
records-length : (g : Group) (comps total k n : ℕ) (p : Bytes) (rs : List Rec) (q : Bytes) → records_in g comps total k n p ≡ got (rs, q) →
    length p ≤ record_size * k + longest_argument * non_jumps rs + length q
unfolding records_in
records-length g comps total zero n p rs q e = omega (arith, ap length (both e).1)
records-length g comps total (suc k) n p rs q q₀ =
    split₂ _ (record_in g comps total n p) _ (rs, q) q₀ λ r p₁ e₁ q₁.
    split₂ _ (records_in g comps total k (n + 1) p₁) _ (rs, q) q₁ λ rs₁ p₂ e₂ q₂.
    let (er, eq) = both q₂ in
    let jumps : non_jumps rs ≡ non_jumps (r ∷ []) + non_jumps rs₁ = rw (← er) (non_jumps-append (r ∷ []) rs₁) in
    omega (arith, ap length eq, record_length g comps total n p r p₁ e₁, records-length g comps total k (n + 1) p₁ rs₁ p₂ e₂)

-- 'Per component: mark, FD, length 1, identifier'
ids-length : (k : ℕ) (p : Bytes) (ids : List Bytes) (q : Bytes) → ids_in k p ≡ got (ids, q) →
    length p ≤ (name_size + limits.identifier) * k + length q
unfolding ids_in
ids-length zero p ids q e = omega (arith, ap length (both e).1)
ids-length (suc k) p ids q q₀ =
    let len : ℕ = get_or p length_from 0 in
    let rest : length (drop len (drop name_size p)) ≡ length p - name_size - len = simp length-drop in
    let start : Bool = leb name_size (length p) && marked NAME p && leb 1 len in
    let (t, q₁) = passed (start && leb len limits.identifier && leb (name_size + len) (length p)) BadProgram 0 _ (ids, q) q₀ in
    let (t₁, _) = and-true (start && leb len limits.identifier) _ t in
    let short : len ≤ limits.identifier = leb-true _ _ (and-true start _ t₁).1 in
    split₂ _ (ids_in k (drop len (drop name_size p))) _ (ids, q) q₁ λ ids₁ p₁ e₁ q₂.
    omega (arith, ap length (both q₂).1, ids-length k (drop len (drop name_size p)) ids₁ p₁ e₁)

-- the other tests bound the size
pub program-short : (b : Bytes) (p : Program) → well_formed b ≡ got p → length b ≤ longest
unfolding well_formed
program-short b p q₀ =
    let comps : ℕ = get_or b components_from 0 in
    let total : ℕ = num (part b records_from 2) in
    let rest : length (drop start_size b) ≡ length b - start_size = length-drop start_size b in
    let (_, q₁) = passed (leb start_size (length b) && marked START b) BadProgram 0 _ p q₀ in
    split _ (found (group_in (get_or b group_from 0)) BadProgram 0) _ p q₁ λ g _ q₂.
    let (t, q₃) = passed (leb 1 comps && leb comps limits.components && leb total limits.records) BadProgram 0 _ p q₂ in
    let (t₁, t₂) = and-true (leb 1 comps && leb comps limits.components) _ t in
    let few-ids : comps ≤ limits.components = leb-true _ _ (and-true (leb 1 comps) _ t₁).1 in
    let few-records : total ≤ limits.records = leb-true _ _ t₂ in
    split₂ _ (ids_in comps (drop start_size b)) _ p q₃ λ ids p₁ e₁ q₄.
    let (_, q₅) = passed (not (repeats ids)) BadProgram 0 _ p q₄ in
    split₂ _ (records_in g comps total total 0 p₁) _ p q₅ λ rs p₂ e₂ q₆.
    let (t₃, q₇) = passed (leb (non_jumps rs) limits.commands) BadProgram 0 _ p q₆ in
    let few : non_jumps rs ≤ limits.commands = leb-true _ _ t₃ in
    let (t₄, _) = passed (same p₂ []) BadProgram 0 _ p q₇ in
    omega (arith, ids-length comps (drop start_size b) ids p₁ e₁, records-length g comps total total 0 p₁ rs p₂ e₂, same-nil p₂ t₄)
