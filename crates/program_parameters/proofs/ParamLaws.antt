-- The parameters of a command, by the places where the reading of each ended.
use Prim.Native.Nat.{ℕ, ◌+◌, ◌-◌, ◌≤◌, ◌<◌}
use mathlib.Core.Path.{◌≡◌, refl, sym, ap, subst, ◌∙◌}
use mathlib.Core.List.{[], ◌∷◌}
use mathlib.Core.Bool.{Bool, true, false, ◌&&◌, cond}
use mathlib.Core.Option.{Option, some, none, map}
use Rattle.std.proofs.Common as Code
use Rattle.std.proofs.Common.{Some, None}
use native.Mathlib.Omega.{arith}
use lib.Dec.{eqb, leb}
use lib.ListN.{length}
use borrow.Author.Tests.{ne_eqb, lt-ltb, le-ltb, eqb-true, eqb-false, leb-true, leb-false}
use Rattle.rules.specs.Limits.{limits}
use Rattle.rules.specs.Bytes.{Bytes, part, num, same}
use Rattle.rules.specs.Commands as Rules
use Rattle.rules.specs.Got.{Got, refused, got, ◌>>=◌, accepted}
use Rattle.rules.specs.ProgramFormat.{entry_size, source_bytes, size_bytes}
use Rattle.rules.specs.ProgramTest.{bad, need, optional, is_below, params_in}
use Rattle.rules.proofs.SameLaws.{same_lengths}
use Rattle.run_slots.specs.Params.{meaning}
use Rattle.run_slots.specs.Params as Words
use Rattle.program_parameters.specs.Entries.{end_at, ends_at, value_in, place_in, length_in, source_in, size_in, ParametersAt, Taken}
use Rattle.program_parameters.proofs.PartLaws.{part_none, length_to}
use Rattle.program_parameters.proofs.EntryLaws.{refused-not, reading, Step, Past, Ahead, ahead, passed, to_end, was-bad}

-- what is made of a parameter's bytes does not change how they are read
abbrev made : {A : Type 0} → (Bytes → A) → Got (Option Bytes × Bytes) → Got (Option A × Bytes)
made f (refused r p) = refused r p
made f (got a) = got (map f a.0, a.1)

by_bytes : {A : Type 0} (k lo hi : ℕ) (f : Bytes → A) (q : Bytes) → optional k lo hi f q ≡ made f (optional k lo hi (λ b. b) q)
unfolding optional
by_bytes k lo hi f [] = refl
by_bytes k lo hi f (x ∷ []) = go (eqb x k) refl
  where
    go : (b : Bool) → eqb x k ≡ b → optional k lo hi f (x ∷ []) ≡ made f (optional k lo hi (λ b. b) (x ∷ []))
    go true e = rw (e, optional)
    go false e = rw (e, optional)
by_bytes k lo hi f (x ∷ n ∷ q) = go (eqb x k) (leb lo n && leb n hi && leb n (length q)) refl refl
  where
    go : (b t : Bool) → eqb x k ≡ b → (leb lo n && leb n hi && leb n (length q)) ≡ t → optional k lo hi f (x ∷ n ∷ q) ≡ made f (optional k lo hi (λ b. b) (x ∷ n ∷ q))
    go true true e h = rw (e, optional, h)
    go true false e h = rw (e, optional, h)
    go false t e h = rw (e, optional)

-- the numbers of a parameter mean its value
module _ (p : Bytes) (at r : ℕ) where
  uri-is : Words.optional (place_in at r) (part p (place_in at r) (length_in at r)) ≡ value_in p at r
  uri-is = go (eqb at r)
    where
      go : (b : Bool) → Words.optional (cond b 0 (at + entry_size)) (part p (cond b 0 (at + entry_size)) (cond b 0 (r - at - entry_size))) ≡ cond b none
          (some (part p (at + entry_size) (r - at - entry_size)))
      go true = refl
      go false = rw (ne_eqb (at + entry_size) 0 (λ e. omega arith))

  module _ (w : ℕ) (fixed : (at ≡ r → ⊥) → (at + entry_size + w ≤ r) × (r ≤ at + entry_size + w)) where
    width : (at ≡ r → ⊥) → r - at - entry_size ≡ w
    width h = let (x, y) = fixed h in omega arith

    number_is : Words.optional (cond (eqb at r) 0 (num (part p (at + entry_size) w) + 1)) (cond (eqb at r) 0 (num (part p (at + entry_size) w) + 1) - 1) ≡ map num (value_in p at r)
    number_is = go (eqb at r) refl
      where
        go : (b : Bool) → eqb at r ≡ b → Words.optional (cond b 0 (num (part p (at + entry_size) w) + 1)) (cond b 0 (num (part p (at + entry_size) w) + 1) - 1) ≡ map
            num (cond b none (some (part p (at + entry_size) (r - at - entry_size))))
        go true e = refl
        go false e =
            let s : num (part p (at + entry_size) w) + 1 - 1 ≡ num (part p (at + entry_size) w) = omega arith in
            rw (ne_eqb (num (part p (at + entry_size) w) + 1) 0 (λ z. omega arith), s, width (eqb-false at r e))

    string-is : Words.optional (place_in at r) (part p (place_in at r) w) ≡ value_in p at r
    string-is = go (eqb at r) refl
      where
        go : (b : Bool) → eqb at r ≡ b → Words.optional (cond b 0 (at + entry_size)) (part p (cond b 0 (at + entry_size)) w) ≡ cond b none (some (part p (at + entry_size) (r - at - entry_size)))
        go true e = refl
        go false e = rw (ne_eqb (at + entry_size) 0 (λ z. omega arith), width (eqb-false at r e))

    string-fits : (to : ℕ) → r ≤ to → to ≤ length p → 0 < place_in at r → place_in at r + w ≤ length p
    string-fits to h l = go (eqb at r) refl
      where
        go : (b : Bool) → eqb at r ≡ b → 0 < cond b 0 (at + entry_size) → cond b 0 (at + entry_size) + w ≤ length p
        go true e z = absurd (omega arith)
        go false e z = let (x, y) = fixed (eqb-false at r e) in omega arith

    below : (n : ℕ) → cond (eqb at r) 0 (num (part p (at + entry_size) w) + 1) ≤ n → is_below (map num (value_in p at r)) n ≡ true
    below n = go (eqb at r) refl
      where
        go : (b : Bool) → eqb at r ≡ b → cond b 0 (num (part p (at + entry_size) w) + 1) ≤ n → is_below (map num (cond b none (some (part p (at + entry_size) (r - at - entry_size))))) n ≡ true
        go true e h = refl
        go false e h = rw (width (eqb-false at r e)) (lt-ltb _ n (omega arith))

    not-below : (n : ℕ) → n < cond (eqb at r) 0 (num (part p (at + entry_size) w) + 1) → is_below (map num (value_in p at r)) n ≡ false
    not-below n = go (eqb at r) refl
      where
        go : (b : Bool) → eqb at r ≡ b → n < cond b 0 (num (part p (at + entry_size) w) + 1) → is_below (map num (cond b none (some (part p (at + entry_size) (r - at - entry_size))))) n ≡ false
        go true e h = absurd (omega arith)
        go false e h = rw (width (eqb-false at r e)) (le-ltb _ n (omega arith))

-- the parameters that stand one after the other from `from` to d
abbrev given : Bytes → ℕ → ℕ → ℕ → ℕ → ℕ → Rules.Params
given p from a b c d =
    record { uri = value_in p from a; source = map num (value_in p a b); digest = value_in p b c; size = map num (value_in p c d) }

module _ (p : Bytes) (n from to : ℕ) where
  abbrev answer : Got Rules.Params
  answer = params_in n (part p from (to - from))

  params_1 : reading p from to Rules.uri_key 1 limits.uri ≡ bad → answer ≡ bad
  unfolding params_in
  params_1 q = rw q

  module _ (a : ℕ) (x : Step p from to Rules.uri_key 1 limits.uri a) where
    params_2 : reading p a to Rules.source_key source_bytes source_bytes ≡ bad → answer ≡ bad
    unfolding params_in
    params_2 q = rw (x.reads, by_bytes Rules.source_key source_bytes source_bytes num, q)

    module _ (b : ℕ) (y : Step p a to Rules.source_key source_bytes source_bytes b) where
      params_3 : reading p b to Rules.digest_key limits.digest limits.digest ≡ bad → answer ≡ bad
      unfolding params_in
      params_3 q = rw (x.reads, by_bytes Rules.source_key source_bytes source_bytes num, y.reads, q)

      module _ (c : ℕ) (z : Step p b to Rules.digest_key limits.digest limits.digest c) where
        params_4 : reading p c to Rules.size_key size_bytes size_bytes ≡ bad → answer ≡ bad
        unfolding params_in
        params_4 q = rw (x.reads, by_bytes Rules.source_key source_bytes source_bytes num, y.reads, z.reads, by_bytes Rules.size_key size_bytes size_bytes num, q)

        module _ (d : ℕ) (w : Step p c to Rules.size_key size_bytes size_bytes d) where
          params_5 :
              answer ≡ (need (same (part p d (to - d)) []) >>= λ _. need (is_below (map num (value_in p a b)) n) >>= λ _. got (given p from a b c d))
          unfolding params_in
          params_5 =
              rw (x.reads, by_bytes Rules.source_key source_bytes source_bytes num, y.reads, z.reads, by_bytes Rules.size_key size_bytes size_bytes num, w.reads)

          -- bytes after the last
          more : to ≤ length p → (d ≡ to → ⊥) → answer ≡ bad
          more l h = rw (params_5, same_lengths (part p d (to - d)) [] (λ q. h (omega (arith, w.fits, length_to p d to w.fits l))))

          module _ (hd : d ≡ to) where
            whole : answer ≡ (need (is_below (map num (value_in p a b)) n) >>= λ _. got (given p from a b c d))
            whole = params_5 ∙ rw (part_none p d (to - d) (omega arith))

            no_component : n < source_in p a b → answer ≡ bad
            no_component h = rw (whole, not-below p a b source_bytes y.wide n h)

            all_read : source_in p a b ≤ n → answer ≡ got (given p from a b c d)
            all_read h = rw (whole, below p a b source_bytes y.wide n h)

pub refuses : {x : Got Rules.Params} → x ≡ bad → false ≡ accepted x
refuses q = rw q

-- what the tests of the parameters tell
module _ (p : Bytes) (n from to : ℕ) (pre : (from ≤ to) × (to ≤ length p)) where
  pub no_uri : None ≡ end_at p to Rules.uri_key 1 limits.uri from → answer p n from to ≡ bad
  no_uri q = params_1 p n from to (was-bad p from to Rules.uri_key 1 limits.uri pre.0 pre.1 q)

  module _ (a : ℕ) (qa : Some a ≡ end_at p to Rules.uri_key 1 limits.uri from) where
    uri-step : Step p from to Rules.uri_key 1 limits.uri a
    uri-step = to_end p from to Rules.uri_key 1 limits.uri pre.0 pre.1 a qa

    pub source_pre : (a ≤ to) × (to ≤ length p)
    source_pre = (uri-step.fits, pre.1)

    pub no_source : None ≡ end_at p to Rules.source_key source_bytes source_bytes a → answer p n from to ≡ bad
    no_source q = params_2 p n from to a uri-step (was-bad p a to Rules.source_key source_bytes source_bytes source_pre.0 source_pre.1 q)

    module _ (b : ℕ) (qb : Some b ≡ end_at p to Rules.source_key source_bytes source_bytes a) where
      pub source-step : Step p a to Rules.source_key source_bytes source_bytes b
      source-step = to_end p a to Rules.source_key source_bytes source_bytes source_pre.0 source_pre.1 b qb

      pub digest_pre : (b ≤ to) × (to ≤ length p)
      digest_pre = (source-step.fits, pre.1)

      pub no_digest : None ≡ end_at p to Rules.digest_key limits.digest limits.digest b → answer p n from to ≡ bad
      no_digest q =
          params_3 p n from to a uri-step b source-step (was-bad p b to Rules.digest_key limits.digest limits.digest digest_pre.0 digest_pre.1 q)

      module _ (c : ℕ) (qc : Some c ≡ end_at p to Rules.digest_key limits.digest limits.digest b) where
        digest-step : Step p b to Rules.digest_key limits.digest limits.digest c
        digest-step = to_end p b to Rules.digest_key limits.digest limits.digest digest_pre.0 digest_pre.1 c qc

        pub size_pre : (c ≤ to) × (to ≤ length p)
        size_pre = (digest-step.fits, pre.1)

        abbrev size-end : Code.Option ℕ
        size-end = end_at p to Rules.size_key size_bytes size_bytes c

        no_size : None ≡ size-end → answer p n from to ≡ bad
        no_size q = params_4 p n from to a uri-step b source-step c digest-step (was-bad p c to Rules.size_key size_bytes size_bytes size_pre.0 size_pre.1 q)

        some-step : (d : ℕ) → Some d ≡ size-end → Step p c to Rules.size_key size_bytes size_bytes d
        some-step d q = to_end p c to Rules.size_key size_bytes size_bytes size_pre.0 size_pre.1 d q

        -- a fourth that is not well formed, or bytes after it
        not-all : (e : Code.Option ℕ) → e ≡ size-end → ends_at to e ≡ false → answer p n from to ≡ bad
        not-all None q z = no_size q
        not-all (Some d) q z = more p n from to a uri-step b source-step c digest-step d (some-step d q) pre.1 (eqb-false d to z)

        size_step : (e : Code.Option ℕ) → e ≡ size-end → ends_at to e ≡ true → Step p c to Rules.size_key size_bytes size_bytes to
        size_step None q z = cc
        size_step (Some d) q z = let h : Some to ≡ Some d = ap Some (sym (eqb-true d to z)) in some-step to (h ∙ q)

        pub ended : source_in p a b ≤ n → (e : Code.Option ℕ) → e ≡ size-end → ends_at to e ≡ accepted (answer p n from to)
        ended l e q = go (ends_at to e) refl
          where
            go : (t : Bool) → ends_at to e ≡ t → t ≡ accepted (answer p n from to)
            go true z = rw (all_read p n from to a uri-step b source-step c digest-step to (size_step e q z) refl l)
            go false z = refuses (not-all e q z)

      -- a source that is no component, whatever follows
      pub far_source : n < source_in p a b → answer p n from to ≡ bad
      far_source l = third (end_at p to Rules.digest_key limits.digest limits.digest b) refl
        where
          fourth : (c : ℕ) (qc : Some c ≡ end_at p to Rules.digest_key limits.digest limits.digest b) (e : Code.Option ℕ) → e ≡ size-end c qc →
              (t : Bool) → ends_at to e ≡ t → answer p n from to ≡ bad
          fourth c qc e q true z = no_component p n from to a uri-step b source-step c (digest-step c qc) to (size_step c qc e q z) refl l
          fourth c qc e q false z = not-all c qc e q z

          third : (e : Code.Option ℕ) → e ≡ end_at p to Rules.digest_key limits.digest limits.digest b → answer p n from to ≡ bad
          third None q = no_digest q
          third (Some c) q = fourth c q _ refl _ refl

-- parameters that the test has read, taken
module _ (p : Bytes) (from to : ℕ) (x : ParametersAt p from to) where
  good : answer p x.n from to ≡ bad → ⊥
  good e = refused-not e (rw x.reads)

  uri-good : reading p from to Rules.uri_key 1 limits.uri ≡ bad → ⊥
  uri-good e = good (params_1 p x.n from to e)

  pub uri-ahead : Ahead p from to Rules.uri_key
  uri-ahead = ahead p from to Rules.uri_key 1 limits.uri x.up x.fits uri-good

  module _ (a : ℕ) (ea : Past p from to Rules.uri_key a) where
    pub uri-taken : Step p from to Rules.uri_key 1 limits.uri a
    uri-taken = passed p from to Rules.uri_key 1 limits.uri x.up x.fits uri-good a ea

    source-good : reading p a to Rules.source_key source_bytes source_bytes ≡ bad → ⊥
    source-good e = good (params_2 p x.n from to a uri-taken e)

    pub source-ahead : Ahead p a to Rules.source_key
    source-ahead = ahead p a to Rules.source_key source_bytes source_bytes uri-taken.fits x.fits source-good

    module _ (b : ℕ) (eb : Past p a to Rules.source_key b) where
      pub source-taken : Step p a to Rules.source_key source_bytes source_bytes b
      source-taken = passed p a to Rules.source_key source_bytes source_bytes uri-taken.fits x.fits source-good b eb

      digest-good : reading p b to Rules.digest_key limits.digest limits.digest ≡ bad → ⊥
      digest-good e = good (params_3 p x.n from to a uri-taken b source-taken e)

      pub digest-ahead : Ahead p b to Rules.digest_key
      digest-ahead = ahead p b to Rules.digest_key limits.digest limits.digest source-taken.fits x.fits digest-good

      module _ (c : ℕ) (ec : Past p b to Rules.digest_key c) where
        pub digest-taken : Step p b to Rules.digest_key limits.digest limits.digest c
        digest-taken = passed p b to Rules.digest_key limits.digest limits.digest source-taken.fits x.fits digest-good c ec

        size-good : reading p c to Rules.size_key size_bytes size_bytes ≡ bad → ⊥
        size-good e = good (params_4 p x.n from to a uri-taken b source-taken c digest-taken e)

        pub size-taken : Step p c to Rules.size_key size_bytes size_bytes to
        size-taken = go (end_at p to Rules.size_key size_bytes size_bytes c) refl
          where
            at : (d : ℕ) → Step p c to Rules.size_key size_bytes size_bytes d → (t : Bool) → eqb d to ≡ t → Step p c to Rules.size_key size_bytes size_bytes to
            at d s true e = subst (Step p c to Rules.size_key size_bytes size_bytes) (eqb-true d to e) s
            at d s false e = absurd (good (more p x.n from to a uri-taken b source-taken c digest-taken d s x.fits (eqb-false d to e)))

            go : (e : Code.Option ℕ) → e ≡ end_at p to Rules.size_key size_bytes size_bytes c → Step p c to Rules.size_key size_bytes size_bytes to
            go None q = absurd (size-good (was-bad p c to Rules.size_key size_bytes size_bytes digest-taken.fits x.fits q))
            go (Some d) q = at d (to_end p c to Rules.size_key size_bytes size_bytes digest-taken.fits x.fits d q) (eqb d to) refl

        counts : source_in p a b ≤ x.n
        counts = go (leb (source_in p a b) x.n) refl
          where
            go : (t : Bool) → leb (source_in p a b) x.n ≡ t → source_in p a b ≤ x.n
            go true e = leb-true _ x.n e
            go false e =
                absurd (good (no_component p x.n from to a uri-taken b source-taken c digest-taken to size-taken refl (leb-false _ x.n e)))

        are : given p from a b c to ≡ x.params
        are =
            let e : got (given p from a b c to) ≡ got x.params = sym (all_read p x.n from to a uri-taken b source-taken c digest-taken to size-taken refl counts) ∙ x.reads in
            cc

        pub all-taken : (u l s v z : ℕ) → u ≡ place_in from a → l ≡ length_in from a → s ≡ source_in p a b → v ≡ place_in b c → z ≡ size_in p c to →
            Taken p from to x (record { uri = u; length = l; source = s; digest = v; size = z })
        unfolding meaning
        all-taken u l s v z eu el es ev ez =
            rw (eu, el, es, ev, ez)
            (record {
              means =
                  rw (uri-is p from a, number_is p a b source_bytes source-taken.wide, string-is p b c limits.digest digest-taken.wide, number_is p c to size_bytes size-taken.wide)
                  are;
              fit = record { source = counts; digest = string-fits p b c limits.digest digest-taken.wide to digest-taken.fits x.fits };
            })
