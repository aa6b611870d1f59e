-- The program of an accepted manifest is well formed.
use Prim.Native.Nat.{ℕ, ◌+◌, ◌*◌, ◌≤◌, ◌<◌}
use mathlib.Core.Path.{◌≡◌, refl, sym, ◌∙◌}
use mathlib.Core.List.{List, [], ◌∷◌, ◌++◌, map}
use mathlib.Core.Bool.{Bool, true, false, ◌&&◌, ◌||◌, cond}
use native.Mathlib.Omega.{arith}
use native.Mathlib.Nat.{mul-add, mul-le-mul_right, suc-mul}
use lib.Dec.{T, ltb, leb, eqb}
use lib.ListN.{length, length-append}
use borrow.Author.Tests.{leb-true, eqb-true, eq-eqb, lt-ltb, le-leb}
use Rattle.rules.specs.declared.answers.Group.{Group}
use Rattle.rules.specs.declared.answers.Group.TheVariants.{Install, Boot}
use Rattle.rules.specs.Limits.{limits}
use Rattle.rules.specs.Bytes.{Bytes, flat}
use Rattle.rules.specs.Commands.{COMMON, Op, component, is_condition, among, Allowed, anywhere, only, is_allowed}
use Rattle.rules.specs.Manifest.{Seq, end, then, Cmd, one, sub, try, Alts, last, or, count, count_cmd, count_alts, counts, Section, Manifest, names}
use Rattle.rules.specs.Check.{check}
use Rattle.rules.specs.Got.{got}
use Rattle.rules.specs.Run.{index_after, coerce_after, sections_of, chosen, each, with_common, plan_of}
use Rattle.rules.specs.Program.{Rec, does, jump, target_of, size, size_cmd, size_alts, flat_seq, flat_cmd, flat_alts, flat_all, program_of, arg_bytes, rec_bytes, id_bytes, program_bytes}
use Rattle.rules.specs.ProgramFormat.{NONE, record_size, start_size}
use Rattle.rules.specs.ProgramSize.{arg_size, arg_size_cmd, arg_size_alts, size_all, arg_size_all}
use Rattle.rules.specs.ProgramTest.{group_allows, any_of, non_jumps}
use Rattle.rules_theorems.proofs.OpLaws.{argument_growth, row_for, component-below}
use Rattle.rules_theorems.proofs.RoundTrip.{GoodRecs, GoodIds, GoodProgram}
use Rattle.rules_theorems.proofs.TreeLaws.{GoodSeq, GoodCmd, GoodAlts}
use Rattle.rules_theorems.proofs.ManifestLaws.{Sound, sound, GoodSections, others, weighed, weight_of, weighted_sum, weight_law}
use Rattle.rules_theorems.proofs.RunLaws.{length-seq, length-cmd}
use Rattle.rules_theorems.proofs.SizeLaws.{seq_size}

-- counts: proved with those of commands and alternatives (SizeLaws)
pub size-seq : (a : Seq) (n sec : ℕ) → GoodSeq a n sec → size a ≤ limits.alternatives * count a
size-seq = seq_size

pub non_jumps-append : (xs ys : List Rec) → non_jumps (xs ++ ys) ≡ non_jumps xs + non_jumps ys
non_jumps-append [] ys = omega arith
non_jumps-append (does op i p t ∷ xs) ys = omega (arith, non_jumps-append xs ys)
non_jumps-append (jump t ∷ xs) ys = non_jumps-append xs ys

-- how many bytes records have
unfoldable pub bytes : List Rec → ℕ
bytes rs = length (flat (map rec_bytes rs))

bytes-append : (xs ys : List Rec) → bytes (xs ++ ys) ≡ bytes xs + bytes ys
unfolding bytes
bytes-append [] ys = omega arith
bytes-append (x ∷ xs) ys =
    omega (arith, bytes-append xs ys, length-append (rec_bytes x) (flat (map rec_bytes (xs ++ ys))), length-append (rec_bytes x) (flat (map rec_bytes xs)))

bytes-does : (op : Op) (i p t : ℕ) → bytes (does op i p t ∷ []) ≡ record_size + length (arg_bytes op)
unfolding bytes rec_bytes
bytes-does op i p t = omega (arith, length-append (arg_bytes op) [])

bytes-jump : (t : ℕ) (rs : List Rec) → bytes (jump t ∷ rs) ≡ record_size + bytes rs
unfolding bytes rec_bytes
bytes-jump t rs = omega arith

bytes-none : bytes [] ≡ 0
unfolding bytes
bytes-none = refl

mutual
  unfolding flat_seq size count arg_size

  pub sum-seq : (a : Seq) (coercible : Bool) (i : ℕ) (c : Bool) (t z k : ℕ) →
      (non_jumps (flat_seq a coercible i c t z k) ≤ count a) × (bytes (flat_seq a coercible i c t z k) ≡ record_size * size a + arg_size a)
  sum-seq end coercible i c t z k = (omega arith, bytes-none)
  sum-seq (then x xs) coercible i c t z k =
      let f : List Rec = flat_cmd x i (cond (coercible && c) z t) k in
      let f' : List Rec = flat_seq xs coercible (index_after x i) (coerce_after x c) t z (k + size_cmd x) in
      let r = sum-cmd x i (cond (coercible && c) z t) k in
      let r' = sum-seq xs coercible (index_after x i) (coerce_after x c) t z (k + size_cmd x) in
      (omega (arith, r.0, r'.0, non_jumps-append f f'), omega (arith, r.1, r'.1, bytes-append f f'))

  pub sum-cmd : (x : Cmd) (i t k : ℕ) → (non_jumps (flat_cmd x i t k) ≤ count_cmd x) × (bytes (flat_cmd x i t k) ≡ record_size * size_cmd x + arg_size_cmd x)
  sum-cmd (one p op b) i t k = (omega arith, omega (arith, bytes-does op (component op i) p (target_of op t)))
  sum-cmd (sub s) i t k = let r = sum-seq s true i false t (k + size s) k in (omega (arith, r.0), r.1)
  sum-cmd (try a) i t k = let r = sum-alts a i t (k + size_alts a) k in (omega (arith, r.0), r.1)

  sum-alts : (a : Alts) (i t z k : ℕ) → (non_jumps (flat_alts a i t z k) ≤ count_alts a) × (bytes (flat_alts a i t z k) ≡ record_size * size_alts a + arg_size_alts a)
  sum-alts (last s) i t z k = sum-seq s false i false _ z k
  sum-alts (or s a) i t z k =
      let f : List Rec = flat_seq s false i false (k + size s + 1) z k in
      let f' : List Rec = flat_alts a i t z (k + size s + 1) in
      let r = sum-seq s false i false (k + size s + 1) z k in
      let r' = sum-alts a i t z (k + size s + 1) in
      (omega (arith, r.0, r'.0, non_jumps-append f (jump z ∷ f')), omega (arith, r.1, r'.1, bytes-append f (jump z ∷ f'), bytes-jump z f'))

-- targets
abbrev Aim : ℕ → ℕ → Type 0
Aim total t = (eqb t NONE || leb t total) ≡ true

forward_law : (k t total : ℕ) → k < t → Aim total t → (eqb t NONE || eqb t t && (ltb k t && leb t total)) ≡ true
forward_law k t total h a = rw (eq-eqb t t refl, lt-ltb k t h) a

aim_small : (t total : ℕ) → total ≤ limits.records → Aim total t → t < 65536
aim_small t total h a = go (eqb t NONE) refl a
  where
    go : (b : Bool) → eqb t NONE ≡ b → (b || leb t total) ≡ true → t < 65536
    go true e q = let x : t ≡ NONE = eqb-true t NONE e in omega arith
    go false e q = let x : t ≤ total = leb-true t total q in omega arith

or-true : (b : Bool) → (b || true) ≡ true
or-true true = refl
or-true false = refl

any_law : (x : ℕ) (ys zs : List ℕ) → among x ys ≡ true → among x zs ≡ true → any_of ys zs ≡ true
any_law x [] zs h h' = let y : ◌≡◌ {A = ℕ} 0 1 = cc in absurd (omega arith)
any_law x (y ∷ ys) zs h h' = go (eqb x y) refl h (λ q. any_law x ys zs q h')
  where
    go : (b : Bool) → eqb x y ≡ b → (b || among x ys) ≡ true → (among x ys ≡ true → any_of ys zs ≡ true) → (among y zs || any_of ys zs) ≡ true
    go true e q k = let f : x ≡ y = eqb-true x y e in let r : among y zs ≡ true = rw f at h' in rw r
    go false e q k = rw (k q) (or-true (among y zs))

-- what common or a section of the group allows, the group does
allowed_law : (g : Group) (sec : ℕ) (a : Allowed) → among sec (COMMON ∷ sections_of g) ≡ true → is_allowed sec a ≡ true → group_allows g a ≡ true
allowed_law g sec anywhere h q = refl
allowed_law g sec (only zs) h q = any_law sec (COMMON ∷ sections_of g) zs h q

-- a command's target in its record
target_law : (op : Op) (k t total : ℕ) → k < t → total ≤ limits.records → Aim total t →
    ((eqb (target_of op t) NONE || eqb (target_of op (target_of op t)) (target_of op t) && (ltb k (target_of op t) && leb (target_of op t) total)) ≡ true) × (target_of op t < 65536)
target_law op k t total h l a = go (is_condition op)
  where
    go : (b : Bool) → ((eqb (cond b t NONE) NONE || eqb (cond b (cond b t NONE) NONE) (cond b t NONE) && (ltb k (cond b t NONE) && leb (cond b t NONE) total)) ≡ true) × (cond b t NONE < 65536)
    go true = (forward_law k t total h a, aim_small t total l a)
    go false = (refl, omega arith)

recs_append : (g : Group) (n total k m : ℕ) (xs ys : List Rec) → length xs ≡ m → GoodRecs g n total k xs → GoodRecs g n total (k + m) ys → GoodRecs g n total k (xs ++ ys)
recs_append g n total k m [] ys e h h' = let z : k + m ≡ k = omega arith in rw z at h'
recs_append g n total k m (x ∷ xs) ys e h h' =
    (h.0, recs_append g n total (k + 1) (length xs) xs ys refl h.1 (let z : k + m ≡ k + 1 + length xs = omega arith in rw z at h'))

aim_within : (t total : ℕ) → t ≤ total → Aim total t
aim_within t total h = rw (le-leb t total h) (or-true (eqb t NONE))

pick_aim : (coercible c : Bool) (z t k total : ℕ) → k ≤ t → Aim total t → (T coercible → (k ≤ z) × Aim total z) → (k ≤ cond (coercible && c) z t) × Aim total (cond (coercible && c) z t)
pick_aim true true z t k total h a az = az tt
pick_aim true false z t k total h a az = (h, a)
pick_aim false c z t k total h a az = (h, a)

module _ (g : Group) (n sec total : ℕ) (of : among sec (COMMON ∷ sections_of g) ≡ true) (l : total ≤ limits.records) where
  index_below : (x : Cmd) (i : ℕ) → GoodCmd x n sec → i < n → index_after x i < n
  unfolding GoodSeq
  index_below (one p op b) i good h = component-below n i op h good.1
  index_below (sub s) i good h = h
  index_below (try a) i good h = h

  mutual
    unfolding flat_seq size arg_size GoodSeq

    recs_seq : (a : Seq) (coercible : Bool) (i : ℕ) (c : Bool) (t z k : ℕ) → GoodSeq a n sec → i < n → arg_size a < 65536 → k + size a ≤ total → k + size a ≤ t →
        Aim total t → (T coercible → (k + size a ≤ z) × Aim total z) → GoodRecs g n total k (flat_seq a coercible i c t z k)
    recs_seq end coercible i c t z k good h w m f a az = tt
    recs_seq (then x xs) coercible i c t z k good h w m f a az =
        let r = pick_aim coercible c z t (k + size_cmd x) total (omega arith) a (λ q. let y = az q in (omega (arith, y.0), y.1)) in
        recs_append g n total k (size_cmd x) (flat_cmd x i (cond (coercible && c) z t) k) (flat_seq xs coercible (index_after x i) (coerce_after x c) t z (k + size_cmd x))
        (length-cmd x i (cond (coercible && c) z t) k) (recs_cmd x i (cond (coercible && c) z t) k good.0 h (omega arith) (omega arith) r.0 r.1)
        (recs_seq xs coercible (index_after x i) (coerce_after x c) t z (k + size_cmd x) good.1 (index_below x i good.0 h) (omega arith) (omega arith) (omega arith) a
        (λ q. let y = az q in (omega (arith, y.0), y.1)))

    recs_cmd : (x : Cmd) (i t k : ℕ) → GoodCmd x n sec → i < n → arg_size_cmd x < 65536 → k + size_cmd x ≤ total → k + size_cmd x ≤ t → Aim total t →
        GoodRecs g n total k (flat_cmd x i t k)
    recs_cmd (one p op b) i t k good h w m f a =
        let r = target_law op k t total (omega arith) l a in (
          record {
            index = i;
            is = refl;
            below = component-below n i op h good.1;
            place = good.0;
            target = r.1;
            forward = r.0;
            allowed = allowed_law g sec (row_for op).allowed of good.2;
            short = w;
            good = good.1;
          },
          tt,
        )
    recs_cmd (sub s) i t k good h w m f a = recs_seq s true i false t (k + size s) k good h w m f a (λ q. (omega arith, aim_within (k + size s) total m))
    recs_cmd (try x) i t k good h w m f a = recs_alts x i t (k + size_alts x) k good.0 h w m f a (omega arith) m

    recs_alts : (x : Alts) (i t z k : ℕ) → GoodAlts x n sec → i < n → arg_size_alts x < 65536 → k + size_alts x ≤ total → k + size_alts x ≤ t → Aim total t →
        k + size_alts x ≤ z → z ≤ total → GoodRecs g n total k (flat_alts x i t z k)
    recs_alts (last s) i t z k good h w m f a fz az = recs_seq s false i false t z k good h w m f a (λ q. absurd q)
    recs_alts (or s x) i t z k good h w m f a fz az =
        recs_append g n total k (size s) (flat_seq s false i false (k + size s + 1) z k) (jump z ∷ flat_alts x i t z (k + size s + 1))
        (length-seq s false i false (k + size s + 1) z k)
        (recs_seq s false i false (k + size s + 1) z k good.0 h (omega arith) (omega arith) (omega arith) (aim_within (k + size s + 1) total (omega arith)) (λ q. absurd q))
        ((omega arith, omega arith, omega arith), recs_alts x i t z (k + size s + 1) good.1 h (omega arith) (omega arith) (omega arith) a (omega arith) az)

-- the sequences of a group, each from a section of it or from common
abbrev pub Plan : Group → ℕ → List Seq → Type 0
Plan g n [] = Unit {0}
Plan g n (a ∷ xs) = ((sec : ℕ) × (among sec (COMMON ∷ sections_of g) ≡ true) × GoodSeq a n sec) × Plan g n xs

pub length-all : (xs : List Seq) (k : ℕ) → length (flat_all xs k) ≡ size_all xs
unfolding flat_all size_all
length-all [] k = refl
length-all (a ∷ xs) k =
    omega
    (arith, length-append (flat_seq a false 0 false NONE 0 k) (flat_all xs (k + size a)), length-seq a false 0 false NONE 0 k, length-all xs (k + size a))

sums_all : (g : Group) (n : ℕ) (xs : List Seq) (k : ℕ) → Plan g n xs →
    (size_all xs ≤ limits.alternatives * counts xs) × (non_jumps (flat_all xs k) ≤ counts xs) × (bytes (flat_all xs k) ≡ record_size * size_all xs + arg_size_all xs)
unfolding flat_all size_all arg_size_all
sums_all g n [] k p = (omega arith, omega arith, bytes-none)
sums_all g n (a ∷ xs) k p =
    let f : List Rec = flat_seq a false 0 false NONE 0 k in
    let f' : List Rec = flat_all xs (k + size a) in
    let r = sum-seq a false 0 false NONE 0 k in
    let (x, y, z) = sums_all g n xs (k + size a) p.1 in
    (omega (arith, seq_size a n p.0.0 p.0.2), omega (arith, r.0, non_jumps-append f f'), omega (arith, r.1, bytes-append f f'))

recs_all : (g : Group) (n total : ℕ) (xs : List Seq) (k : ℕ) → 0 < n → total ≤ limits.records → Plan g n xs → arg_size_all xs < 65536 → k + size_all xs ≤ total → GoodRecs g n total k (flat_all xs k)
unfolding flat_all size_all arg_size_all
recs_all g n total [] k h l p w m = tt
recs_all g n total (a ∷ xs) k h l p w m =
    recs_append g n total k (size a) (flat_seq a false 0 false NONE 0 k) (flat_all xs (k + size a)) (length-seq a false 0 false NONE 0 k)
    (recs_seq g n p.0.0 total p.0.1 l a false 0 false NONE 0 k p.0.2 h (omega arith) (omega arith) (omega arith) refl (λ q. absurd q))
    (recs_all g n total xs (k + size a) h l p.1 (omega arith) (omega arith))

-- how often a group does common, by the sections that it has
abbrev pub times : List Seq → ℕ
times [] = 1
times (s ∷ ss) = length (s ∷ ss)

plan-append : (g : Group) (n : ℕ) (xs ys : List Seq) → Plan g n xs → Plan g n ys → Plan g n (xs ++ ys)
plan-append g n [] ys p q = q
plan-append g n (x ∷ xs) ys p q = (p.0, plan-append g n xs ys p.1 q)

sums_append : (xs ys : List Seq) → (counts (xs ++ ys) ≡ counts xs + counts ys) × (arg_size_all (xs ++ ys) ≡ arg_size_all xs + arg_size_all ys)
unfolding arg_size_all
sums_append [] ys = (omega arith, omega arith)
sums_append (x ∷ xs) ys = let r = sums_append xs ys in (omega (arith, r.0), omega (arith, r.1))

each_law : (g : Group) (n : ℕ) (c ss : List Seq) → Plan g n c → Plan g n ss →
    Plan g n (each c ss) × (counts (each c ss) ≡ length ss * counts c + counts ss) × (arg_size_all (each c ss) ≡ length ss * arg_size_all c + arg_size_all ss)
unfolding arg_size_all
each_law g n c [] p q = (tt, omega arith, omega arith)
each_law g n c (s ∷ ss) p q =
    let (r, x, y) = each_law g n c ss p q.1 in
    let (x', y') = sums_append c (s ∷ each c ss) in
    (plan-append g n c (s ∷ each c ss) p (q.0, r), omega (arith, suc-mul (length ss) (counts c)), omega (arith, suc-mul (length ss) (arg_size_all c)))

with_law : (g : Group) (n : ℕ) (c ss : List Seq) → Plan g n c → Plan g n ss →
    Plan g n (with_common c ss) × (counts (with_common c ss) ≡ times ss * counts c + counts ss) × (arg_size_all (with_common c ss) ≡ times ss * arg_size_all c + arg_size_all ss)
unfolding arg_size_all
with_law g n c [] p q = (p, omega arith, omega arith)
with_law g n c (s ∷ ss) p q = each_law g n c (s ∷ ss) p q

-- common's own sequence is of no group's sections
pub not-common : (g : Group) (k : ℕ) → k ≡ COMMON → among k (sections_of g) ≡ false
not-common Install k e = rw e
not-common Boot k e = rw e

several_law : (g : Group) (xs : List Section) → length (chosen (sections_of g) xs) ≤ others xs
several_law g [] = omega arith
several_law g (x ∷ xs) = go (eqb x.key COMMON) (among x.key (sections_of g)) refl refl (several_law g xs)
  where
    go : (b a : Bool) → eqb x.key COMMON ≡ b → among x.key (sections_of g) ≡ a → length (chosen (sections_of g) xs) ≤ others xs →
        length (cond a (x.seq ∷ chosen (sections_of g) xs) (chosen (sections_of g) xs)) ≤ cond b 0 1 + others xs
    go true a e f r = let z : a ≡ false = sym f ∙ not-common g x.key (eqb-true _ _ e) in rw z (omega arith)
    go false true e f r = omega arith
    go false false e f r = omega arith

-- the sequences of common and of the group's sections, where common runs k times, beside what weighs w times
pub record Chosen (g : Group) (n k w : ℕ) (xs : List Section) (c ss : List Seq) : Type 0 where
  pub common : Plan g n c
  pub sections : Plan g n ss
  pub few : k * counts c + counts ss ≤ weighed count w xs
  pub light : k * arg_size_all c + arg_size_all ss ≤ weighed arg_size w xs

pub chosen_law : (g : Group) (n k w : ℕ) (xs : List Section) → k ≤ w → GoodSections n xs → Chosen g n k w xs (chosen (COMMON ∷ []) xs) (chosen (sections_of g) xs)
unfolding arg_size_all
chosen_law g n k w [] l h = record { common = tt; sections = tt; few = omega arith; light = omega arith }
chosen_law g n k w (x ∷ xs) l h = go (eqb x.key COMMON) (among x.key (sections_of g)) refl refl (chosen_law g n k w xs l h.1)
  where
    go : (b a : Bool) → eqb x.key COMMON ≡ b → among x.key (sections_of g) ≡ a → Chosen g n k w xs (chosen (COMMON ∷ []) xs) (chosen (sections_of g) xs) →
        Chosen g n k w (x ∷ xs) (chosen (COMMON ∷ []) (x ∷ xs)) (chosen (sections_of g) (x ∷ xs))
    go true a e f r =
        rw (not-common g x.key (eqb-true _ _ e), e)
        (record {
          common = ((x.key, rw e, h.0), r.common);
          sections = r.sections;
          few = rw e (omega (arith, r.few, mul-add k (count x.seq) (counts (chosen (COMMON ∷ []) xs)), mul-le-mul_right (count x.seq) l));
          light = rw e (omega (arith, r.light, mul-add k (arg_size x.seq) (arg_size_all (chosen (COMMON ∷ []) xs)), mul-le-mul_right (arg_size x.seq) l));
        })
    go false true e f r =
        rw (f, e)
        (record {
          common = r.common;
          sections = ((x.key, rw (e, f), h.0), r.sections);
          few = rw e (omega (arith, r.few));
          light = rw e (omega (arith, r.light));
        })
    go false false e f r =
        rw (f, e)
        (record { common = r.common; sections = r.sections; few = rw e (omega (arith, r.few)); light = rw e (omega (arith, r.light)) })

-- 02, T-01: the sequences that a group does, common as often as it runs, have at most as many commands as check weighed
pub record Planned (s : Bytes) (g : Group) (m : Manifest) : Type 0 where
  pub plan : Plan g (length (names s m)) (plan_of g m)
  pub weighs : counts (plan_of g m) ≤ weighted_sum m
  pub few : counts (plan_of g m) ≤ limits.commands
  pub light : arg_size_all (plan_of g m) ≤ 5 * limits.envelope + argument_growth * limits.commands

pub plan_law : (s : Bytes) (g : Group) (m : Manifest) → Sound s m → Planned s g m
plan_law s g m h =
    let c : List Seq = chosen (COMMON ∷ []) m.sections in
    let ss : List Seq = chosen (sections_of g) m.sections in
    let r = chosen_law g (length (names s m)) (times ss) (weight_of m) m.sections (often ss (several_law g m.sections)) h.sections in
    let (p, x, y) = with_law g (length (names s m)) c ss r.common r.sections in
    record { plan = p; weighs = omega (arith, r.few); few = omega (arith, r.few, h.few); light = omega (arith, r.light, h.few, h.light) }
  where
    often : (ss : List Seq) → length ss ≤ others m.sections → times ss ≤ weight_of m
    often [] l = (weight_law (others m.sections)).0
    often (s ∷ ss) l = omega (arith, (weight_law (others m.sections)).1)

ids-bytes : (ids : List Bytes) → GoodIds ids → length (flat (map id_bytes ids)) ≤ 36 * length ids
ids-bytes [] h = omega arith
ids-bytes (x ∷ xs) h = omega (arith, h.1, ids-bytes xs h.2, length-append x (flat (map id_bytes xs)))

pub well_formed_lem : (s : Bytes) (g : Group) (m : Manifest) → Sound s m → GoodProgram (program_of s g m)
unfolding program_of program_bytes bytes
well_formed_lem s g m h =
    let n : ℕ = length (names s m) in
    let p = plan_law s g m h in
    let (x, y, z) = sums_all g n (plan_of g m) 0 p.plan in
    let j : length (flat_all (plan_of g m) 0) ≡ size_all (plan_of g m) = length-all (plan_of g m) 0 in
    record {
      number = h.number;
      some-ids = h.some-ids;
      ids = h.ids;
      distinct = h.distinct;
      records = recs_all g n (length (flat_all (plan_of g m) 0)) (plan_of g m) 0 h.some-ids.0 (omega (arith, p.few)) p.plan (omega (arith, p.light)) (omega arith);
      few = omega (arith, p.few);
      commands = omega (arith, p.few);
      short =
          omega (
            arith,
            z,
            p.few,
            p.light,
            ids-bytes (names s m) h.ids,
            h.some-ids.1,
            length-append (flat (map id_bytes (names s m))) (flat (map rec_bytes (flat_all (plan_of g m) 0))),
          );
    }

-- 02, T-01: the sum that check weighs bounds the commands in the program of either group, and is at most 256
pub program-commands : (s : Bytes) (g : Group) (m : Manifest) → check s ≡ got m →
    (non_jumps (program_of s g m).records ≤ weighted_sum m) × (weighted_sum m ≤ limits.commands)
unfolding program_of
program-commands s g m e =
    let h = sound s m e in
    let p = plan_law s g m h in
    let (_, y, _) = sums_all g (length (names s m)) (plan_of g m) 0 p.plan in
    (omega (arith, p.weighs), h.few)

-- how long the program is: its start, the identifiers, the records, and the arguments
pub program-size : (s : Bytes) (g : Group) (m : Manifest) → Sound s m →
    length (program_bytes (program_of s g m)) ≡ start_size + length (flat (map id_bytes (names s m))) + record_size * size_all (plan_of g m) + arg_size_all (plan_of g m)
unfolding program_of program_bytes bytes
program-size s g m h =
    let (_, _, z) = sums_all g (length (names s m)) (plan_of g m) 0 (plan_law s g m h).plan in
    omega (arith, z, length-append (flat (map id_bytes (names s m))) (flat (map rec_bytes (flat_all (plan_of g m) 0))))
