-- The sequences that a group does stand where its plan says.
use Prim.Native.Nat.{ℕ, zero, suc, ◌+◌, ◌-◌, ◌*◌, ◌≤◌, ◌<◌}
use mathlib.Core.Path.{◌≡◌, refl, sym, ap, ◌∙◌}
use mathlib.Core.List.{List, [], ◌∷◌, ◌++◌}
use mathlib.Core.Bool.{Bool, true, false}
use native.Mathlib.Omega.{arith}
use native.Mathlib.Nat.{add-zero}
use lib.Dec.{eqb}
use lib.ListN.{length, get_or}
use borrow.Author.Tests.{eqb-true, eqb-false, ne_eqb}
use Rattle.rules.specs.declared.answers.Group.{Group}
use Rattle.rules.specs.Bytes.{Bytes, put}
use Rattle.rules.specs.Limits.{limits, section_count, plan_sequences}
use Rattle.rules.specs.Commands.{COMMON, PAYLOAD_FETCH, among, section_key, section_no}
use Rattle.rules.specs.Manifest.{Seq, count, counts, Section}
use Rattle.rules.specs.Run.{sections_of, chosen, each, with_common, plan_of}
use Rattle.rules_theorems.proofs.FlatLaws.{not-common, plan_law}
use Rattle.run_slots.proofs.ParamsLaws.{get_or-among}
use Rattle.manifest_accessors.specs.Accepted.{Accepted}
use Rattle.manifest_accessors.specs.Places.{SequenceAt}
use Rattle.manifest_accessors.proofs.AcceptedLaws.{known}
use Rattle.manifest_plan.specs.Plan.{section_starts, starts_of}
use Rattle.manifest_plan.specs.Standing.{Stand, Stands, Left}
use Rattle.manifest_plan.proofs.SectionsRead.{ReadAll, Rest, Here, rest-start, rest_end, rest-none, rest_some}
use Rattle.manifest_plan.proofs.StartLaws.{few_starts}

module _ (s : Bytes) (n : ℕ) where
  stands-append : (ps qs : List ℕ) (xs ys : List Seq) → Stands s n ps xs → Stands s n qs ys → Stands s n (ps ++ qs) (xs ++ ys)
  stands-append [] qs [] ys x y = y
  stands-append [] qs (a ∷ xs) ys x y = absurd x
  stands-append (p ∷ ps) qs [] ys x y = absurd x
  stands-append (p ∷ ps) qs (a ∷ xs) ys x y = (x.0, stands-append ps qs xs ys x.1 y)

  stands-each : (cs ps : List ℕ) (c xs : List Seq) → Stands s n cs c → Stands s n ps xs → Stands s n (each cs ps) (each c xs)
  stands-each cs [] c [] x y = tt
  stands-each cs [] c (a ∷ xs) x y = absurd y
  stands-each cs (p ∷ ps) c [] x y = absurd y
  stands-each cs (p ∷ ps) c (a ∷ xs) x y = stands-append cs (p ∷ each cs ps) c (a ∷ each c xs) x (y.0, stands-each cs ps c xs x y.1)

  stands_with : (cs ps : List ℕ) (c xs : List Seq) → Stands s n cs c → Stands s n ps xs → Stands s n (with_common cs ps) (with_common c xs)
  stands_with cs [] c [] x y = x
  stands_with cs [] c (a ∷ xs) x y = absurd y
  stands_with cs (p ∷ ps) c [] x y = absurd y
  stands_with cs (p ∷ ps) c (a ∷ xs) x y = stands-each cs (p ∷ ps) c (a ∷ xs) x y

  module _ (places : List ℕ) where
    stand : (k : ℕ) (rest : List Section) (x : Here s n places k rest) → Stand s n (get_or places (2 * k) 0) x.section.seq
    stand k rest x =
        record {
          section = x.section.key;
          to = x.section.place.to;
          fits = x.read.fits;
          reads = λ m room. rw x.from (x.read.reads m room);
        }

    -- the group's sections, from number k on
    sections-stand : (group : Group) (left k : ℕ) (rest : List Section) → k + left ≡ section_count → Rest s n places k rest →
        Stands s n (section_starts group places left k) (chosen (sections_of group) rest)
    sections-stand group zero k rest l r = rw (rest_end s n places k rest (omega arith) r) tt
    sections-stand group (suc left) k rest l r =
        go (λ (xs : List Section) (x : Rest s n places (k + 1) xs). sections-stand group left (k + 1) xs (omega arith) x) (eqb (get_or places (2 * k + 1) 0) 0) refl
      where
        here : ((xs : List Section) → Rest s n places (k + 1) xs → Stands s n (section_starts group places left (k + 1)) (chosen (sections_of group) xs)) →
            Here s n places k rest → eqb (get_or places (2 * k + 1) 0) 0 ≡ false → (b : Bool) → among (section_key k) (sections_of group) ≡ b →
            Stands s n (section_starts group places (suc left) k) (chosen (sections_of group) rest)
        here later x e true a = rw (e, a, x.all, x.key, a) (stand k rest x, later x.others x.left)
        here later x e false a = rw (e, a, x.all, x.key, a) (later x.others x.left)

        go : ((xs : List Section) → Rest s n places (k + 1) xs → Stands s n (section_starts group places left (k + 1)) (chosen (sections_of group) xs)) →
            (b : Bool) → eqb (get_or places (2 * k + 1) 0) 0 ≡ b → Stands s n (section_starts group places (suc left) k) (chosen (sections_of group) rest)
        go later true e = rw e (later rest (rest-none s n places k rest (eqb-true _ 0 e) r))
        go later false e = here later (rest_some s n places k rest (omega arith) (eqb-false _ 0 e) r) e (among (section_key k) (sections_of group)) refl

    -- sections after common's sequence are not common's
    no_common : (k : ℕ) (rest : List Section) → 0 < k → ReadAll s n k rest → chosen (COMMON ∷ []) rest ≡ []
    no_common k [] h r = refl
    no_common k (x ∷ xs) h r = rw (ne_eqb x.key COMMON other) (no_common (section_no x.key + 1) xs (omega arith) r.1)
      where
        other : x.key ≡ COMMON → ⊥
        other e =
            let z : x.key ≡ section_no x.key + (PAYLOAD_FETCH - 1) = r.0.named ∙ rw (ne_eqb (section_no x.key) 0 (λ q. omega (arith, r.0.low))) in
            omega (arith, r.0.low)

    plan-stands : (group : Group) (sections : List Section) → Rest s n places 0 sections →
        Stands s n (starts_of group places) (with_common (chosen (COMMON ∷ []) sections) (chosen (sections_of group) sections))
    plan-stands group sections r = go (eqb (get_or places 1 0) 0) refl
      where
        -- the sections that are not common's
        after : (rest : List Section) → Rest s n places 1 rest → Stands s n (section_starts group places (section_count - 1) 1) (chosen (sections_of group) rest)
        after rest r₁ = sections-stand group (section_count - 1) 1 rest (omega arith) r₁

        here : Here s n places 0 sections → eqb (get_or places 1 0) 0 ≡ false →
            Stands s n (starts_of group places) (with_common (chosen (COMMON ∷ []) sections) (chosen (sections_of group) sections))
        here x e =
            rw (e, x.all, x.key, not-common group COMMON refl, no_common 1 x.others (omega arith) x.left.read)
            (stands_with (get_or places 0 0 ∷ []) (section_starts group places (section_count - 1) 1) (x.section.seq ∷ []) (chosen (sections_of group) x.others)
            (stand 0 sections x, tt) (after x.others x.left))

        go : (b : Bool) → eqb (get_or places 1 0) 0 ≡ b →
            Stands s n (starts_of group places) (with_common (chosen (COMMON ∷ []) sections) (chosen (sections_of group) sections))
        go true e =
            let r₁ = rest-none s n places 0 sections (eqb-true _ 0 e) r in
            rw (e, no_common 1 sections (omega arith) r₁.read)
            (stands_with [] (section_starts group places (section_count - 1) 1) [] (chosen (sections_of group) sections) tt (after sections r₁))
        go false e = here (rest_some s n places 0 sections (omega arith) (eqb-false _ 0 e) r) e

-- the plan of an accepted envelope, once its starts were put
pub plan-left : (s : Bytes) (number n : ℕ) (ids sections : List ℕ) (a : Accepted s number n ids sections) (group : Group) (starts₀ starts : List ℕ) (total : ℕ) →
    length starts₀ ≡ plan_sequences → (starts ≡ put starts₀ 0 (starts_of group sections)) × (total ≡ 0 + length (starts_of group sections)) →
    Left s n starts total 0 0 (plan_of group a.manifest)
plan-left s number n ids sections a group starts₀ starts total l (p, t) =
    let fits : length (starts_of group sections) ≤ plan_sequences = few_starts group sections in
    record {
      places = starts_of group sections;
      stands = plan-stands s n sections group a.manifest.sections (rest-start s n sections a.manifest (sym a.count) a.checks a.places);
      array = λ i h. rw p (get_or-among starts₀ 0 (starts_of group sections) i h (omega arith));
      size = omega (arith, t);
      inside = omega (arith, t);
      few = omega (arith, (plan_law s group a.manifest (known s number n ids sections a)).few);
    }

-- the first sequence of what is left, and the others
pub record First (s : Bytes) (n : ℕ) (starts : List ℕ) (total k commands : ℕ) (rest : List Seq) : Type 0 where
  pub seq : Seq
  pub others : List Seq
  pub all : rest ≡ seq ∷ others
  pub stand : Stand s n (get_or starts k 0) seq
  pub room : commands + count seq ≤ limits.commands
  pub left : Left s n starts total (k + 1) (commands + count seq) others

module _ (s : Bytes) (n : ℕ) (starts : List ℕ) (total k commands : ℕ) (rest : List Seq) (l : Left s n starts total k commands rest) where
  pub plan-first : k < total → First s n starts total k commands rest
  plan-first h = go l.places rest refl refl l.stands
    where
      go : (ps : List ℕ) (xs : List Seq) → l.places ≡ ps → rest ≡ xs → Stands s n ps xs → First s n starts total k commands rest
      go [] [] e f x = absurd (omega (arith, l.size, ap length e))
      go [] (a ∷ xs) e f x = absurd x
      go (p ∷ ps) [] e f x = absurd x
      go (p ∷ ps) (a ∷ xs) e f x =
          let len : length l.places ≡ suc (length ps) = ap length e in
          let all : counts rest ≡ count a + counts xs = ap counts f in
          let at : (i : ℕ) → i < length (p ∷ ps) → get_or starts (k + i) 0 ≡ get_or (p ∷ ps) i 0 = rw e at l.array in
          let first : get_or starts k 0 ≡ p = ap (λ (i : ℕ). get_or starts i 0) (sym (add-zero k)) ∙ at 0 (omega arith) in
          record {
            seq = a;
            others = xs;
            all = f;
            stand = rw first x.0;
            room = omega (arith, l.few);
            left =
                record {
                  places = ps;
                  stands = x.1;
                  array = λ i h. ap (λ (j : ℕ). get_or starts j 0) (omega arith) ∙ at (suc i) (omega arith);
                  size = omega (arith, l.size);
                  inside = l.inside;
                  few = omega (arith, l.few);
                };
          }

  pub plan-ends : total ≤ k → rest ≡ []
  plan-ends h = go l.places rest refl l.stands
    where
      go : (ps : List ℕ) (xs : List Seq) → l.places ≡ ps → Stands s n ps xs → xs ≡ []
      go [] [] e x = refl
      go [] (a ∷ xs) e x = absurd x
      go (p ∷ ps) [] e x = refl
      go (p ∷ ps) (a ∷ xs) e x = let len : length l.places ≡ suc (length ps) = ap length e in absurd (omega (arith, l.size))

  -- the first sequence, for a run that has written no more events than there were commands
  abbrev pub sequence-at : (f : First s n starts total k commands rest) (events : ℕ) → events ≤ commands → SequenceAt s n limits.depth events (get_or starts k 0)
  sequence-at f events few =
      record {
        section = f.stand.section;
        m = commands;
        e = f.stand.to;
        fits = f.stand.fits;
        seq = f.seq;
        to = f.stand.to;
        reads = f.stand.reads commands f.room;
        few = few;
      }
