-- One record of a program, by its place.
use Prim.Native.Nat.{ℕ, ◌+◌, ◌-◌, ◌≤◌, ◌<◌}
use mathlib.Core.Path.{◌≡◌, refl, sym, ap, ◌∙◌}
use mathlib.Core.Bool.{Bool, true, false, ◌&&◌, ◌||◌, true≢false}
use mathlib.Core.Option.{Option, some, none}
use Rattle.std.proofs.Common.{Some, None}
use native.Mathlib.Omega.{arith}
use native.Mathlib.Nat.{add-zero}
use lib.Dec.{eqb, ltb, leb}
use lib.ListN.{length, get_or, take, drop, length-drop}
use lib.Seq.{get_or-drop, drop-drop}
use borrow.Author.Tests.{eq-eqb, ne_eqb, lt-ltb, le-ltb, le-leb, lt-leb, eqb-true, eqb-false, ltb-true, ltb-false, leb-true, leb-false}
use Rattle.rules.specs.declared.answers.Group.{Group}
use Rattle.rules.specs.declared.answers.Group.TheVariants.{Install, Boot}
use Rattle.rules.specs.declared.answers.Refusal.TheVariants.{BadProgram}
use Rattle.rules.specs.Bytes.{Bytes, part, num, same}
use Rattle.rules.specs.Commands.{Op, is_condition, Form, Row, row_of, commands}
use Rattle.rules.specs.Tables.{kind_of, argument_number, codes}
use Rattle.rules.specs.Got.{Got, refused, got, found, ◌>>=◌, accepted}
use Rattle.rules.specs.Program.{Rec, does, jump, target_of}
use Rattle.rules.specs.ProgramFormat.{mark, JUMP, NONE, code_from, component_from, place_from, target_from, argument_from, record_size}
use Rattle.rules.specs.ProgramTest.{need, op_in, group_allows, record_in}
use Rattle.rules.proofs.GotLaws.{and-true}
use Rattle.rules_lookup.specs.declared.Entry.{Entry}
use Rattle.rules_lookup.specs.Entry.{entry_of}
use Rattle.rules_lookup.proofs.LookUpLaws.{no_row}
use Rattle.program_arguments.specs.Arguments.{allows_in, target_fits}
use Rattle.program_arguments.proofs.FormLaws.{op-code}
use Rattle.program_arguments.proofs.ArgumentLaws.{row_allows, targeted}
use Rattle.program_heads.specs.Heads.{mark₁, mark₂, next_at, record_fits, record_end, jump_fits}
use Rattle.program_record.specs.Record.{command_at, record_at}
use Rattle.program_parameters.proofs.PartLaws.{part-drop, same_2}

-- a command's answer is handed on
handed : {B : Type 0} (o : Option Row) (f : Row → Bool) (t : Bool) (h : Row → Got Op) (u : Op → Bool) (k : Op → B) →
    (found o BadProgram 0 >>= λ row. need (f row) >>= λ _. need t >>= λ _. h row >>= λ op. need (u op) >>= λ _. got (k op))
    ≡ ((found o BadProgram 0 >>= λ row. need (f row) >>= λ _. need t >>= λ _. h row >>= λ op. need (u op) >>= λ _. got op) >>= λ op. got (k op))
handed none f t h u k = refl
handed {B} (some row) f t h u k = go (f row) t (h row)
  where
    last : (op : Op) (b : Bool) → (need b >>= λ _. got (k op)) ≡ ((need b >>= λ _. got op) >>= λ x. got (k x))
    last op true = refl
    last op false = refl

    go : (a b : Bool) (x : Got Op) →
        (need a >>= λ _. need b >>= λ _. x >>= λ op. need (u op) >>= λ _. got (k op))
        ≡ ((need a >>= λ _. need b >>= λ _. x >>= λ op. need (u op) >>= λ _. got op) >>= λ op. got (k op))
    go false b x = refl
    go true false x = refl
    go true true (refused r p) = refl
    go true true (got op) = last op (u op)

-- nothing lies between the places m and m + n
nothing : (m n : ℕ) → eqb (m + n) m ≡ eqb n 0
nothing m n = go (eqb n 0) refl
  where
    go : (b : Bool) → eqb n 0 ≡ b → eqb (m + n) m ≡ b
    go true e = eq-eqb (m + n) m (omega (arith, eqb-true n 0 e))
    go false e = ne_eqb (m + n) m (λ z. eqb-false n 0 e (omega arith))

module _ (p : Bytes) (at : ℕ) where
  byte : (k : ℕ) → get_or (drop at p) k 0 ≡ get_or p (at + k) 0
  byte k = get_or-drop at p k 0

  first : get_or (drop at p) 0 0 ≡ get_or p at 0
  first = rw add-zero at (byte 0)

  number : (k : ℕ) → num (part (drop at p) k 2) ≡ num (part p (at + k) 2)
  number k = ap num (part-drop p at k 2)

  argument : (n : ℕ) → part (drop at p) record_size n ≡ part p (at + record_size) (at + record_size + n - (at + record_size))
  argument n = let e : at + record_size + n - (at + record_size) ≡ n = omega arith in rw e (part-drop p at record_size n)

  rest : (n : ℕ) → drop n (drop record_size (drop at p)) ≡ drop (at + record_size + n) p
  rest n = rw (drop-drop record_size at p, drop-drop n (at + record_size) p)

  module _ (h : at + record_size ≤ length p) where
    marked : same (take 2 (drop at p)) mark ≡ (eqb (get_or p at 0) mark₁ && (eqb (get_or p (at + 1) 0) mark₂ && true))
    marked = let l : 2 ≤ length (drop at p) = omega (arith, length-drop at p) in same_2 (drop at p) mark₁ mark₂ l ∙ (rw (first, byte 1))

    long : leb record_size (length (drop at p)) ≡ true
    long = le-leb record_size (length (drop at p)) (omega (arith, length-drop at p))

    room : (n : ℕ) → leb (record_size + n) (length (drop at p)) ≡ leb (at + record_size + n) (length p)
    room n = go (leb (at + record_size + n) (length p)) refl
      where
        go : (b : Bool) → leb (at + record_size + n) (length p) ≡ b → leb (record_size + n) (length (drop at p)) ≡ b
        go true e = le-leb (record_size + n) (length (drop at p)) (omega (arith, length-drop at p, leb-true (at + record_size + n) (length p) e))
        go false e = lt-leb (record_size + n) (length (drop at p)) (omega (arith, length-drop at p, leb-false (at + record_size + n) (length p) e))

  short : length p < at + record_size → leb record_size (length (drop at p)) ≡ false
  short h = lt-leb record_size (length (drop at p)) (omega (arith, length-drop at p))

module _ (g : Group) (comps total n : ℕ) (p : Bytes) (at : ℕ) where
  abbrev code : ℕ
  code = get_or p (at + code_from) 0

  pub record_at_lem : record_in g comps total n (drop at p) ≡ record_at g comps total n p at
  unfolding record_in record_at command_at
  record_at_lem = fits (leb (at + record_size) (length p)) refl
    where
      -- the bytes' places
      whole : at + record_size ≤ length p → (a b c d j : Bool) → eqb (get_or p at 0) mark₁ ≡ a → eqb (get_or p (at + 1) 0) mark₂ ≡ b →
          leb (next_at p at) (length p) ≡ c → ltb code codes ≡ d → eqb code JUMP ≡ j → record_in g comps total n (drop at p) ≡ record_at g comps total n p at
      whole h false b c d j ea eb ec ed ej = rw (long p at h, marked p at h, le-leb _ _ h, ea)
      whole h true false c d j ea eb ec ed ej = rw (long p at h, marked p at h, le-leb _ _ h, ea, eb)
      whole h true true false d j ea eb ec ed ej = rw (long p at h, marked p at h, le-leb _ _ h, ea, eb, number p at argument_from, room p at h, ec)
      whole h true true true false true ea eb ec ed ej = rw (
        long p at h,
        marked p at h,
        le-leb _ _ h,
        ea,
        eb,
        number p at argument_from,
        room p at h,
        ec,
        byte p at code_from,
        ed,
        ej,
        byte p at component_from,
        number p at place_from,
        number p at target_from,
        rest p at,
        number p at argument_from,
        nothing (at + record_size),
      )
      whole h true true true false false ea eb ec ed ej = rw (
        long p at h,
        marked p at h,
        le-leb _ _ h,
        ea,
        eb,
        number p at argument_from,
        room p at h,
        ec,
        byte p at code_from,
        ed,
        ej,
        byte p at code_from,
        no_row codes commands code refl (ltb-false _ _ ed),
      )
      whole h true true true true j ea eb ec ed ej =
          let target : ℕ = num (part p (at + target_from) 2) in
          let next : ℕ = next_at p at in
          rw (
            long p at h,
            marked p at h,
            le-leb _ _ h,
            ea,
            eb,
            number p at argument_from,
            room p at h,
            ec,
            byte p at code_from,
            ed,
            ne_eqb code JUMP (λ z. omega (arith, ltb-true code codes ed)),
            byte p at component_from,
            number p at place_from,
            number p at target_from,
            argument p at,
            rest p at,
            byte p at code_from,
            number p at argument_from,
          )
          (handed (row_of code commands) (λ row. group_allows g row.allowed) (ltb (get_or p (at + component_from) 0) comps)
          (λ row. op_in comps (get_or p (at + component_from) 0) row.form (part p (at + record_size) (next - (at + record_size))))
          (λ op. eqb target NONE || eqb (target_of op target) target && (ltb n target && leb target total))
          (λ op. (does op (get_or p (at + component_from) 0) (num (part p (at + place_from) 2)) target, drop next p)))

      fits : (b : Bool) → leb (at + record_size) (length p) ≡ b → record_in g comps total n (drop at p) ≡ record_at g comps total n p at
      fits true e =
          whole (leb-true _ _ e) (eqb (get_or p at 0) mark₁) (eqb (get_or p (at + 1) 0) mark₂) (leb (next_at p at) (length p)) (ltb code codes) (eqb code JUMP) refl refl refl refl refl
      fits false e = rw (short p at (leb-false _ _ e), e)

-- nothing is allowed where no command is listed
none_allowed : (g : Group) → allows_in g 0 ≡ false
none_allowed Install = refl
none_allowed Boot = refl

-- a command, by the entry of its code
module _ (g : Group) (comps total n : ℕ) (p : Bytes) (at to : ℕ) where
  abbrev asked : Got Op
  asked = command_at g comps total n p at to

  module _ (c : ℕ) (ec : c ≡ get_or p (at + code_from) 0) (x : Entry) (ex : x ≡ entry_of (row_of c commands)) (a : Bool) (ea : a ≡ allows_in g x.sections) where
    allows_row : (row : Row) → row_of c commands ≡ some row → a ≡ group_allows g row.allowed
    allows_row row e = ea ∙ ap (λ (y : Entry). allows_in g y.sections) (ex ∙ ap entry_of e) ∙ row_allows c row g e

    pub not-allowed : a ≡ false → false ≡ accepted asked
    unfolding command_at
    not-allowed h = go (row_of c commands) refl
      where
        go : (o : Option Row) → row_of c commands ≡ o → false ≡ accepted asked
        go none e = rw (← ec, e)
        go (some row) e = rw (← ec, e, ← allows_row row e, h)

    module _ (ha : a ≡ true) where
      -- its row
      found-row : (row : Row) × (row_of c commands ≡ some row) × (entry_of (some row) ≡ x)
      found-row = go (row_of c commands) refl
        where
          go : (o : Option Row) → row_of c commands ≡ o → (row : Row) × (row_of c commands ≡ some row) × (entry_of (some row) ≡ x)
          go none e =
              let z : true ≡ false = sym ha ∙ ea ∙ ap (λ (y : Entry). allows_in g y.sections) (ex ∙ ap entry_of e) ∙ none_allowed g in
              absurd (true≢false z)
          go (some row) e = (row, e, sym (ex ∙ ap entry_of e))

      abbrev row : Row
      row = found-row.0

      is_row : row_of c commands ≡ some row
      is_row = found-row.1

      is-entry : entry_of (some row) ≡ x
      is-entry = found-row.2

      allowed : group_allows g row.allowed ≡ true
      allowed = sym (allows_row row is_row) ∙ ha

      pub no_component : comps ≤ get_or p (at + component_from) 0 → false ≡ accepted asked
      unfolding command_at
      no_component h = rw (← ec, is_row, allowed, le-ltb _ _ h)

      module _ (hc : get_or p (at + component_from) 0 < comps) (b : Bool) (eb : (f : Form) (i : ℕ) → argument_number (kind_of f) ≡ x.kind →
          b ≡ accepted (op_in comps i f (part p (at + record_size) (to - (at + record_size))))) where
        abbrev made : Got Op
        made = op_in comps (get_or p (at + component_from) 0) row.form (part p (at + record_size) (to - (at + record_size)))

        fitting : b ≡ accepted made
        fitting = eb row.form (get_or p (at + component_from) 0) (ap (λ (y : Entry). y.kind) is-entry)

        pub not_fitting : b ≡ false → false ≡ accepted asked
        unfolding command_at
        not_fitting h = go made refl
          where
            go : (y : Got Op) → made ≡ y → false ≡ accepted asked
            go (refused r q) e = rw (← ec, is_row, allowed, lt-ltb _ _ hc, e)
            go (got op) e = let z : true ≡ false = ap accepted (sym e) ∙ sym fitting ∙ h in absurd (true≢false z)

        is-condition : (op : Op) → made ≡ got op → is_condition op ≡ x.condition
        is-condition op e =
            rw (op-code comps (get_or p (at + component_from) 0) _ op c row is_row e, is_row) (ap (λ (y : Entry). y.condition) is-entry)

        -- the command is made, and its target decides
        pub decided : b ≡ true → (y : ℕ) → y ≡ num (part p (at + target_from) 2) →
            (u : Bool) → u ≡ target_fits x.condition y n total → u ≡ accepted asked
        unfolding command_at
        decided h y ey u eu = go made refl
          where
            last : (op : Op) (v : Bool) → v ≡ accepted (need v >>= λ _. got op)
            last op true = refl
            last op false = refl

            go : (m : Got Op) → made ≡ m → u ≡ accepted asked
            go (refused r q) e = let z : true ≡ false = sym h ∙ fitting ∙ ap accepted e in absurd (true≢false z)
            go (got op) e =
                rw (← ec, is_row, allowed, lt-ltb _ _ hc, e, ← ey, ← targeted op x.condition y n total (is-condition op e), ← eu) (last op u)

not-accepted : {A B : Type 0} (x : Got A) (f : A → B) → accepted x ≡ false → accepted (x >>= λ a. got (f a)) ≡ false
not-accepted (refused r p) f e = refl
not-accepted (got a) f e = absurd (true≢false e)

-- a record that ends at r
module _ (p : Bytes) (at r : ℕ) (q : Some r ≡ record_end p at) where
  lies : record_fits p at ≡ true
  unfolding record_end
  lies = go (record_fits p at) refl
    where
      go : (b : Bool) → record_fits p at ≡ b → b ≡ true
      go false e = let n : Some r ≡ None = q ∙ rw e in cc
      go true e = refl

  ends : next_at p at ≡ r
  unfolding record_end
  ends = let e : Some r ≡ Some (next_at p at) = q ∙ rw lies in cc

  pub end-room : (at + record_size ≤ r) × (r ≤ length p)
  end-room =
      let marks : Bool = leb (at + record_size) (length p) && eqb (get_or p at 0) mark₁ && eqb (get_or p (at + 1) 0) mark₂ in
      let (_, h) = and-true marks (leb (next_at p at) (length p)) lies in
      (omega (arith, ends), omega (arith, ends, leb-true (next_at p at) (length p) h))

module _ (g : Group) (comps total n : ℕ) (p : Bytes) (at : ℕ) where
  abbrev pub one : Got (Rec × Bytes)
  one = record_in g comps total n (drop at p)

  refuses : accepted (record_at g comps total n p at) ≡ false → accepted one ≡ false
  refuses = rw (record_at_lem g comps total n p at) (λ h. h)

  pub no_end : None ≡ record_end p at → accepted one ≡ false
  unfolding record_at record_end
  no_end q = refuses (go (record_fits p at) refl)
    where
      go : (b : Bool) → record_fits p at ≡ b → accepted (record_at g comps total n p at) ≡ false
      go false e = rw e
      go true e = let k : None ≡ Some (next_at p at) = q ∙ rw e in cc

  module _ (r : ℕ) (q : Some r ≡ record_end p at) (c : ℕ) (ec : c ≡ get_or p (at + code_from) 0) where
    module _ (l : c < codes) (t : Bool) (e : t ≡ accepted (command_at g comps total n p at r)) where
      pub no_command : t ≡ false → accepted one ≡ false
      unfolding record_at
      no_command h =
          refuses (rw (lies p at r q, ← ec, lt-ltb _ _ l, ends p at r q) (not-accepted (command_at g comps total n p at r) _ (sym e ∙ h)))

      pub is-command : t ≡ true → (op : Op) × (one ≡ got (does op (get_or p (at + component_from) 0) (num (part p (at + place_from) 2)) (num (part p (at + target_from) 2)), drop r p))
      unfolding record_at
      is-command h = go (command_at g comps total n p at r) refl
        where
          go : (x : Got Op) → command_at g comps total n p at r ≡ x →
              (op : Op) × (one ≡ got (does op (get_or p (at + component_from) 0) (num (part p (at + place_from) 2)) (num (part p (at + target_from) 2)), drop r p))
          go (refused k m) w = absurd (true≢false (sym h ∙ e ∙ ap accepted w))
          go (got op) w = (op, rw (record_at_lem g comps total n p at, lies p at r q, ← ec, lt-ltb _ _ l, ends p at r q, w))

    module _ (l : codes ≤ c) (t : Bool) (e : t ≡ jump_fits p at r total n) where
      pub no_jump : t ≡ false → accepted one ≡ false
      unfolding record_at
      no_jump h = refuses (rw (lies p at r q, ← ec, le-ltb _ _ l, ends p at r q, ← e, h))

      pub is-jump : t ≡ true → one ≡ got (jump (num (part p (at + target_from) 2)), drop r p)
      unfolding record_at
      is-jump h = rw (record_at_lem g comps total n p at, lies p at r q, ← ec, le-ltb _ _ l, ends p at r q, ← e, h)
