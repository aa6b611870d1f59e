-- The program test: the start, then the identifiers, then the records.
use Prim.Native.Nat.{ℕ, ◌-◌, ◌≤◌, ◌<◌}
use mathlib.Core.Path.{◌≡◌, refl, sym, ap, ◌∙◌}
use mathlib.Core.List.{List, [], ◌∷◌}
use mathlib.Core.Bool.{Bool, true, false, ◌&&◌, not}
use mathlib.Core.Option.{some, none}
use native.Mathlib.Omega.{arith}
use lib.Dec.{leb, eqb}
use lib.ListN.{length, get_or, drop}
use borrow.Author.Tests.{le-leb, lt-leb, leb-true, leb-false, eq-eqb, ne_eqb, eqb-true, eqb-false}
use Rattle.rules.specs.declared.answers.Group.{Group}
use Rattle.rules.specs.declared.answers.Group.TheVariants.{Install, Boot}
use Rattle.rules.specs.declared.answers.Refusal.{Refusal}
use Rattle.rules.specs.Limits.{limits}
use Rattle.rules.specs.Bytes.{Bytes, part, num, two_at, four_at, same, repeats}
use Rattle.rules.specs.Got.{Got, refused, got, ◌>>=◌}
use Rattle.rules.specs.Program.{Rec, Program}
use Rattle.rules.specs.ProgramFormat.{START, code_from, group_from, number_from, components_from, records_from, start_size}
use Rattle.rules.specs.ProgramTest.{need, bad, marked, ids_in, records_in, non_jumps, group_in, program_in}
use Rattle.rules.proofs.BytesLaws.{num_2, num_4}
use Rattle.rules.proofs.GotLaws.{and-true}
use Rattle.rules.proofs.SameLaws.{same_lengths}
use Rattle.run_slot_search.specs.Search.{names_at}
use Rattle.std.specs.Prelude.{Option, Some, None, is_some}
use Rattle.component_ids.specs.Identifiers.{repeated}
use Rattle.program_records.specs.declared.Records.{Records}
use Rattle.program_test.specs.declared.test.Tested.{Tested}
use Rattle.program_parameters.specs.Entries.{next_in}
use Rattle.program_heads.specs.Heads.{mark₁, mark₂}
use Rattle.program_records.specs.Records.{records_are}
use Rattle.program_names.specs.Names.{NamesAre}
use Rattle.program_test.specs.Test.{start_fits, TestedAs}
use Rattle.program_names.proofs.NameLaws.{Named, none_named, all_named}
use Rattle.program_parameters.proofs.PartLaws.{same_3}
use Rattle.program_test.proofs.RepeatLaws.{repeated_law}

module _ (m : ℕ) where
  pub install : m ≡ 0 → group_in m ≡ some Install
  install e = rw (eq-eqb m 0 e)

  pub boot : (m ≡ 0 → ⊥) → m ≤ 1 → group_in m ≡ some Boot
  boot d h = rw (ne_eqb m 0 d, eq-eqb m 1 (omega arith))

  no_group : 1 < m → group_in m ≡ none
  no_group h = rw (ne_eqb m 0 (λ e. omega arith), ne_eqb m 1 (λ e. omega arith))

  one-group : m ≤ 1 → (g : Group) × (group_in m ≡ some g)
  one-group h = go (eqb m 0) refl
    where
      go : (t : Bool) → eqb m 0 ≡ t → (g : Group) × (group_in m ≡ some g)
      go true e = (Install, install (eqb-true m 0 e))
      go false e = (Boot, boot (eqb-false m 0 e) h)

module _ (p : Bytes) where
  abbrev counts : Bool
  counts = leb 1 (get_or p components_from 0) && leb (get_or p components_from 0) limits.components && leb (num (part p records_from 2)) limits.records

  -- the start's tests, as the code makes them
  pub start-read : start_fits p
      ≡ (leb (length p) limits.program
      && (leb start_size (length p)
      && (eqb (get_or p 0 0) mark₁ && (eqb (get_or p 1 0) mark₂ && (eqb (get_or p code_from 0) START
      && (leb (get_or p group_from 0) 1 && (leb 1 (get_or p components_from 0) && (leb (get_or p components_from 0) limits.components && leb (num (part p records_from 2)) limits.records))))))))
  unfolding start_fits
  start-read = go (leb start_size (length p)) refl (leb (length p) limits.program)
    where
      turn : (a b c d : Bool) (e f g : Bool) → ((a && (b && (c && true))) && d && (e && f && g)) ≡ (a && (b && (c && (d && (e && (f && g))))))
      turn true true true true true f g = refl
      turn true true true true false f g = refl
      turn true true true false e f g = refl
      turn true true false d e f g = refl
      turn true false c d e f g = refl
      turn false b c d e f g = refl

      go : (t : Bool) → leb start_size (length p) ≡ t → (b : Bool) →
          (b && leb start_size (length p) && marked START p && leb (get_or p group_from 0) 1 && counts)
          ≡ (b && (leb start_size (length p)
          && (eqb (get_or p 0 0) mark₁ && (eqb (get_or p 1 0) mark₂ && (eqb (get_or p code_from 0) START
          && (leb (get_or p group_from 0) 1 && (leb 1 (get_or p components_from 0) && (leb (get_or p components_from 0) limits.components && leb (num (part p records_from 2)) limits.records))))))))
      go t e false = refl
      go true e true =
          rw (e, same_3 p mark₁ mark₂ START (omega (arith, leb-true start_size (length p) e)))
          (turn
          (eqb (get_or p 0 0) mark₁) (eqb (get_or p 1 0) mark₂) (eqb (get_or p code_from 0) START) (leb (get_or p group_from 0) 1)
          (leb 1 (get_or p components_from 0)) (leb (get_or p components_from 0) limits.components) (leb (num (part p records_from 2)) limits.records))
      go false e true = rw e

  abbrev first : Bool
  first = leb (length p) limits.program && leb start_size (length p) && marked START p

  pub start-bad : start_fits p ≡ false → program_in p ≡ bad
  unfolding start_fits program_in
  start-bad e = go first (leb (get_or p group_from 0) 1) counts refl refl refl e
    where
      go : (a b c : Bool) → first ≡ a → leb (get_or p group_from 0) 1 ≡ b → counts ≡ c → (a && b && c) ≡ false → program_in p ≡ bad
      go false b c ea eb ec e = rw ea
      go true false c ea eb ec e = rw (ea, no_group (get_or p group_from 0) (leb-false _ _ eb))
      go true true false ea eb ec e = let (g, f) = one-group (get_or p group_from 0) (leb-true _ _ eb) in rw (ea, f, ec)
      go true true true ea eb ec e = let z : ◌≡◌ {A = ℕ} 0 1 = cc in absurd (omega arith)

  -- what a start that fits tells
  pub record Started : Type 0 where
    pub room : start_size ≤ length p
    pub mark : first ≡ true
    pub group : get_or p group_from 0 ≤ 1
    pub numbers : counts ≡ true
    pub least : 1 ≤ get_or p components_from 0
    pub most : get_or p components_from 0 ≤ limits.components
    pub records : two_at p records_from ≤ limits.records

  pub start-good : start_fits p ≡ true → Started
  unfolding start_fits
  start-good e =
      let (ab, c) = and-true (first && leb (get_or p group_from 0) 1) counts e in
      let (a, b) = and-true first (leb (get_or p group_from 0) 1) ab in
      let room : start_size ≤ length p = leb-true start_size (length p) (and-true (leb (length p) limits.program) (leb start_size (length p))
      (and-true (leb (length p) limits.program && leb start_size (length p)) (marked START p) a).0).1 in
      let (c₁₂, c₃) = and-true (leb 1 (get_or p components_from 0) && leb (get_or p components_from 0) limits.components) (leb (num (part p records_from 2)) limits.records) c in
      let (c₁, c₂) = and-true (leb 1 (get_or p components_from 0)) (leb (get_or p components_from 0) limits.components) c₁₂ in
      record {
        room = room;
        mark = a;
        group = leb-true _ _ b;
        numbers = c;
        least = leb-true _ _ c₁;
        most = leb-true _ _ c₂;
        records = omega (arith, leb-true (num (part p records_from 2)) limits.records c₃, num_2 p records_from (omega arith));
      }

  -- after the start, with n components and m records
  abbrev finish : Group → List Bytes → List Rec × Bytes → Got Program
  finish g ids x = do
    _ ← need (leb (non_jumps x.0) limits.commands)
    _ ← need (same x.1 [])
    got (record { group = g; number = num (part p number_from 4); ids = ids; records = x.0 })

  abbrev named : Group → ℕ → ℕ → List Bytes × Bytes → Got Program
  named g n m x = do
    _ ← need (not (repeats x.0))
    y ← records_in g n m m 0 x.1
    finish g x.0 y

  abbrev started : Group → ℕ → ℕ → Got Program
  started g n m = ids_in n (drop start_size p) >>= named g n m

  program-on : (g : Group) → Started → group_in (get_or p group_from 0) ≡ some g → program_in p ≡ started g (get_or p components_from 0) (num (part p records_from 2))
  unfolding program_in
  program-on g s e = rw (s.mark, e, s.numbers)

reject : (p : Bytes) (x : Option Tested) (r : Refusal) (k : ℕ) → program_in p ≡ refused r k → x ≡ None → TestedAs p (program_in p) x
reject p x r k e h = rw e h

pub start-refused : (p : Bytes) (x : Option Tested) → start_fits p ≡ false → x ≡ None → TestedAs p (program_in p) x
start-refused p x e h = rw (start-bad p e) h

empty : (q : Bytes) → length q ≡ 0 → q ≡ []
empty [] z = refl
empty (x ∷ q) z = absurd (omega arith)

-- a start that fits, as the code reads it: the group, n components and m records
pub record Front (p : Bytes) (g : Group) (n m : ℕ) : Type 0 where
  pub start : Started p
  pub group : group_in (get_or p group_from 0) ≡ some g
  pub components : n ≡ get_or p components_from 0
  pub records : m ≡ two_at p records_from

-- the test after the start, as the code makes it
module _ (p : Bytes) (g : Group) (n m : ℕ) (h : Front p g n m) where
  on : program_in p ≡ started p g n m
  on =
      let t : m ≡ num (part p records_from 2) = h.records ∙ sym (num_2 p records_from (omega (arith, h.start.room))) in
      program-on p g h.start h.group ∙ rw (h.components, t)

  abbrev pub Names : Option ℕ → List ℕ → Type 0
  Names r a = (r ≡ next_in (length p) (ids_in n (drop start_size p))) × NamesAre p start_size n (ids_in n (drop start_size p)) a

  pub names-refused : (a : List ℕ) → Names None a → (x : Option Tested) → x ≡ None → TestedAs p (program_in p) x
  names-refused a f x b = let (r, k, u) = none_named p start_size n a h.start.room f in reject p x r k (on ∙ rw u) b

  module _ (from : ℕ) (a : List ℕ) (f : Names (Some from) a) where
    pub read : Named p start_size n from a
    read = all_named p start_size n a h.start.room from f

    abbrev ids : List Bytes
    ids = names_at p a n

    abbrev records : Got (List Rec × Bytes)
    records = records_in g n m m 0 (drop from p)

    on-names : program_in p ≡ (need (not (repeats ids)) >>= λ _. records >>= finish p g ids)
    on-names = on ∙ rw read.reads

    module _ (w : Option ℕ) (v : w ≡ repeated p a n) where
      repeats-is : (b : Bool) → is_some w ≡ b → repeats ids ≡ b
      repeats-is b o = sym (repeated_law p a n) ∙ ap is_some (sym v) ∙ o

      pub repeat_refused : (x : Option Tested) → is_some w ≡ true → x ≡ None → TestedAs p (program_in p) x
      repeat_refused x o b = rw (on-names, repeats-is true o) b

      module _ (o : is_some w ≡ false) where
        on-records : program_in p ≡ (records >>= finish p g ids)
        on-records = on-names ∙ rw (repeats-is false o)

        abbrev Answer : Option Tested → Type 0
        Answer x = TestedAs p (program_in p) x

        pub none-read : None ≡ records_are (length p) records → (x : Option Tested) → x ≡ None → Answer x
        none-read u x b = go records refl
          where
            go : (z : Got (List Rec × Bytes)) → records ≡ z → Answer x
            go (refused i j) l = reject p x i j (on-records ∙ rw l) b
            go (got y) l =
                let k : Records = record { next = length p - length y.1; commands = non_jumps y.0 } in
                let z : None ≡ Some k = u ∙ ap (records_are (length p)) l in cc

        module _ (r : Records) (u : Some r ≡ records_are (length p) records) where
          read-as : (y : List Rec × Bytes) → records ≡ got y → r ≡ record { next = length p - length y.1; commands = non_jumps y.0 }
          read-as y l = let z : Some r ≡ Some (record { next = length p - length y.1; commands = non_jumps y.0 }) = u ∙ ap (records_are (length p)) l in cc

          -- with records that are refused, and with others
          either : (x : Option Tested) → x ≡ None → ((y : List Rec × Bytes) → records ≡ got y → r ≡ record { next = length p - length y.1; commands = non_jumps y.0 } →
              finish p g ids y ≡ bad) → Answer x
          either x b k = go records refl
            where
              go : (z : Got (List Rec × Bytes)) → records ≡ z → Answer x
              go (refused i j) l = reject p x i j (on-records ∙ rw l) b
              go (got y) l = rw (on-records, l, k y l (read-as y l)) b

          pub records-refused : (x : Option Tested) → (r.next ≡ length p → ⊥) → x ≡ None → Answer x
          records-refused x c b =
              either x b λ y l i.
              let nonempty : length y.1 ≡ 0 → ⊥ = λ z. c (ap (λ (y : Records). y.next) i ∙ omega arith) in
              go y (leb (non_jumps y.0) limits.commands) refl (same_lengths y.1 [] nonempty)
            where
              go : (y : List Rec × Bytes) (b : Bool) → leb (non_jumps y.0) limits.commands ≡ b → same y.1 [] ≡ false → finish p g ids y ≡ bad
              go y true f₁ f₂ = rw (f₁, f₂)
              go y false f₁ f₂ = rw f₁

          pub commands-refused : (x : Option Tested) → limits.commands < r.commands → x ≡ None → Answer x
          commands-refused x c b =
              either x b λ y l i.
              let f₁ : leb (non_jumps y.0) limits.commands ≡ false =
              lt-leb (non_jumps y.0) limits.commands (omega (arith, ap (λ (y : Records). y.commands) i)) in
              rw f₁

          pub program-good : (k : ℕ) → (k ≡ four_at p number_from) × (k < 4294967296) → r.next ≡ length p → r.commands ≤ limits.commands →
              Answer (Some (record { group = g; number = k; components = n; records = m; from = from; ids = a }))
          program-good k b c few = go records refl
            where
              go : (z : Got (List Rec × Bytes)) → records ≡ z → Answer (Some (record { group = g; number = k; components = n; records = m; from = from; ids = a }))
              go (refused i j) l = let z : Some r ≡ None = u ∙ ap (records_are (length p)) l in cc
              go (got y) l =
                  let i = read-as y l in
                  let none_left : y.1 ≡ [] = empty y.1 (omega (arith, h.start.room, ap (λ (y : Records). y.next) i)) in
                  let fewer : non_jumps y.0 ≤ limits.commands = omega (arith, ap (λ (y : Records). y.commands) i) in
                  let number : k ≡ num (part p number_from 4) = b.0 ∙ sym (num_4 p number_from (omega (arith, h.start.room))) in
                  let whole : program_in p ≡ got (record { group = g; number = num (part p number_from 4); ids = ids; records = y.0 }) =
                  on-records ∙ rw (l, le-leb (non_jumps y.0) limits.commands fewer, none_left) in
                  let counted : m ≡ num (part p records_from 2) = h.records ∙ sym (num_2 p records_from (omega (arith, h.start.room))) in
                  rw whole
                  (record {
                    exact = rw (number, counted, read.exact, ← h.components, ← f.0);
                    small = omega (arith, b.1);
                    some-ids = (omega (arith, h.start.least, h.components), omega (arith, h.start.most, h.components));
                    names = refl;
                    places = read.within;
                    from = read.here;
                    size = omega (arith, h.start.records, h.records);
                    reads = l ∙ ap (λ (z : Bytes). got (y.0, z)) none_left;
                    few = fewer;
                  })
