-- A parameter that may stand at a place, by the tests that its reading makes.
use Prim.Native.Nat.{ℕ, ◌+◌, ◌-◌, ◌≤◌, ◌<◌}
use mathlib.Core.Path.{◌≡◌, refl}
use mathlib.Core.List.{[], ◌∷◌}
use mathlib.Core.Bool.{Bool, true, false}
use mathlib.Core.Option.{Option, some, none}
use Rattle.std.proofs.Common.{Some, None}
use mathlib.Core.Logic.{◌⊎◌, inl, inr}
use native.Mathlib.Omega.{arith}
use lib.Dec.{eqb, leb}
use lib.ListN.{length, get_or}
use borrow.Author.Tests.{eq-eqb, ne_eqb, le-leb, lt-leb, eqb-true, eqb-false, leb-true, leb-false}
use Rattle.rules.specs.Bytes.{Bytes, part}
use Rattle.rules.specs.Got.{Got, got, accepted}
use Rattle.rules.specs.ProgramFormat.{entry_size}
use Rattle.rules.specs.ProgramTest.{bad, optional}
use Rattle.rules.proofs.BytesLaws.{part-cons}
use Rattle.program_parameters.specs.Entries.{next_in, end_at, WellFormed, value_in}
use Rattle.program_parameters.proofs.PartLaws.{part_none, take_part, drop-part, length_to}

-- what is refused is not accepted
pub refused-not : {A : Type 0} {x : Got A} → x ≡ bad → accepted x ≡ true → ⊥
refused-not e f = let z : ◌≡◌ {A = ℕ} 0 1 = cc in omega arith

-- what `past` asks of a key at a place, and what it says of the end r
module _ (p : Bytes) (at to key : ℕ) where
  abbrev pub Ahead : Type 0
  Ahead = (at ≤ to) × (to ≤ length p) × ((lo : ℕ) × (hi : ℕ) × WellFormed p to key lo hi at)

  abbrev pub Past : ℕ → Type 0
  Past r = (lo hi : ℕ) → WellFormed p to key lo hi at → Some r ≡ end_at p to key lo hi at

module _ (p : Bytes) (at to key lo hi : ℕ) where
  abbrev pub reading : Got (Option Bytes × Bytes)
  reading = optional key lo hi (λ b. b) (part p at (to - at))

  -- the reading went on to r
  pub record Step (r : ℕ) : Type 0 where
    pub up : at ≤ r
    pub fits : r ≤ to
    pub reads : reading ≡ got (value_in p at r, part p r (to - r))
    pub wide : (at ≡ r → ⊥) → (at + entry_size + lo ≤ r) × (r ≤ at + entry_size + hi)

  module _ (o : at ≤ to) (l : to ≤ length p) where
    first : at < to → part p at (to - at) ≡ get_or p at 0 ∷ part p (at + 1) (to - (at + 1))
    first h = let e : to - at - 1 ≡ to - (at + 1) = omega arith in rw (part-cons p at (to - at) (omega arith) (omega arith), e)

    two : at + 1 < to → part p at (to - at) ≡ get_or p at 0 ∷ get_or p (at + 1) 0 ∷ part p (at + entry_size) (to - (at + entry_size))
    two h =
        let e : to - (at + 1) - 1 ≡ to - (at + entry_size) = omega arith in
        let f : at + 1 + 1 ≡ at + entry_size = omega arith in
        rw (first (omega arith), part-cons p (at + 1) (to - (at + 1)) (omega arith) (omega arith), e, f)

    reading-end : at ≡ to → reading ≡ got (none, part p at (to - at))
    unfolding optional
    reading-end h = rw (part_none p at (to - at) (omega arith))

    reading-other : at < to → (get_or p at 0 ≡ key → ⊥) → reading ≡ got (none, part p at (to - at))
    unfolding optional
    reading-other h k = rw (first h) (go (part p (at + 1) (to - (at + 1))))
      where
        go : (q : Bytes) → optional key lo hi (λ b. b) (get_or p at 0 ∷ q) ≡ got (none, get_or p at 0 ∷ q)
        go [] = rw (ne_eqb _ _ k, optional)
        go (x ∷ q) = rw (ne_eqb _ _ k, optional)

    reading-cut : at < to → get_or p at 0 ≡ key → to - at < entry_size → reading ≡ bad
    unfolding optional
    reading-cut h k s = rw (first h, part_none p (at + 1) (to - (at + 1)) (omega arith), eq-eqb _ _ k, optional)

    abbrev size : ℕ
    size = get_or p (at + 1) 0

    module _ (h : at + 1 < to) (k : get_or p at 0 ≡ key) where
      rest : length (part p (at + entry_size) (to - (at + entry_size))) ≡ to - (at + entry_size)
      rest = length_to p (at + entry_size) to (omega arith) l

      reading-low : size < lo → reading ≡ bad
      unfolding optional
      reading-low s = rw (two h, eq-eqb _ _ k, optional, lt-leb _ _ s)

      reading-high : lo ≤ size → hi < size → reading ≡ bad
      unfolding optional
      reading-high t s = rw (two h, eq-eqb _ _ k, optional, le-leb _ _ t, lt-leb _ _ s)

      reading-long : lo ≤ size → size ≤ hi → to < at + entry_size + size → reading ≡ bad
      unfolding optional
      reading-long t u s =
          let m : to - (at + entry_size) < size = omega arith in
          rw (two h, eq-eqb _ _ k, optional, le-leb _ _ t, le-leb _ _ u, rest, lt-leb _ _ m)

      reading-got : lo ≤ size → size ≤ hi → at + entry_size + size ≤ to → reading ≡ got (some (part p (at + entry_size) size), part p (at + entry_size + size) (to - (at + entry_size + size)))
      unfolding optional
      reading-got t u s =
          let m : size ≤ to - (at + entry_size) = omega arith in
          rw (two h, eq-eqb _ _ k, optional, le-leb _ _ t, le-leb _ _ u, rest, le-leb _ _ m, take_part p (at + entry_size) size (to - (at + entry_size)) m, drop-part p (at + entry_size) to size)

    step-next : (r : ℕ) → Step r → Some r ≡ next_in to reading
    step-next r s = let e : to - (to - r) ≡ r = omega (arith, s.fits) in rw (s.reads, length_to p r to s.fits l, e)

    step-none : reading ≡ got (none, part p at (to - at)) → Step at
    step-none q = record { up = omega arith; fits = o; reads = rw (eq-eqb at at refl) q; wide = λ n. absurd (n refl) }

    step-some : at + 1 < to → get_or p at 0 ≡ key → lo ≤ size → size ≤ hi → at + entry_size + size ≤ to → Step (at + entry_size + size)
    step-some h k t u s =
        let e : at + entry_size + size - at - entry_size ≡ size = omega arith in
        record {
          up = omega arith;
          fits = s;
          reads = rw (ne_eqb at (at + entry_size + size) (λ n. omega arith), e) (reading-got h k t u s);
          wide = λ n. (omega arith, omega arith);
        }

    -- what the code answers, by its tests
    pub next-end : at ≡ to → Some at ≡ next_in to reading
    next-end h = step-next at (step-none (reading-end h))

    pub next-other : at < to → (get_or p at 0 ≡ key → ⊥) → Some at ≡ next_in to reading
    next-other h k = step-next at (step-none (reading-other h k))

    pub next-some : (n : ℕ) → n ≡ size → at + 1 < to → get_or p at 0 ≡ key → lo ≤ n → n ≤ hi → at + entry_size + n ≤ to → Some (at + entry_size + n) ≡ next_in to reading
    next-some n e h k t u s = rw e (step-next (at + entry_size + size) (step-some h k (omega arith) (omega arith) (omega arith)))

    next-bad : reading ≡ bad → None ≡ next_in to reading
    next-bad q = rw q

    pub next_low : at + 1 < to → get_or p at 0 ≡ key → size < lo → None ≡ next_in to reading
    next_low h k s = next-bad (reading-low h k s)

    pub next-high : at + 1 < to → get_or p at 0 ≡ key → lo ≤ size → hi < size → None ≡ next_in to reading
    next-high h k t s = next-bad (reading-high h k t s)

    pub next-long : at + 1 < to → get_or p at 0 ≡ key → lo ≤ size → size ≤ hi → to < at + entry_size + size → None ≡ next_in to reading
    next-long h k t u s = next-bad (reading-long h k t u s)

    -- a parameter that is whole: its length, and the bytes of its value
    abbrev pub Whole : Type 0
    Whole = (at + 1 < to) × (lo ≤ size) × (size ≤ hi) × (at + entry_size + size ≤ to)

    keyed : at < to → get_or p at 0 ≡ key → (reading ≡ bad) ⊎ Whole
    keyed h k = cut (leb entry_size (to - at)) refl
      where
        long : at + 1 < to → lo ≤ size → size ≤ hi → (b : Bool) → leb (at + entry_size + size) to ≡ b → (reading ≡ bad) ⊎ Whole
        long h t u true e = inr (h, t, u, leb-true _ _ e)
        long h t u false e = inl (reading-long h k t u (leb-false _ _ e))

        high : at + 1 < to → lo ≤ size → (b : Bool) → leb size hi ≡ b → (reading ≡ bad) ⊎ Whole
        high h t true e = long h t (leb-true _ _ e) (leb (at + entry_size + size) to) refl
        high h t false e = inl (reading-high h k t (leb-false _ _ e))

        low : at + 1 < to → (b : Bool) → leb lo size ≡ b → (reading ≡ bad) ⊎ Whole
        low h true e = high h (leb-true _ _ e) (leb size hi) refl
        low h false e = inl (reading-low h k (leb-false _ _ e))

        cut : (b : Bool) → leb entry_size (to - at) ≡ b → (reading ≡ bad) ⊎ Whole
        cut true e = low (omega (arith, leb-true entry_size (to - at) e)) (leb lo size) refl
        cut false e = inl (reading-cut h k (leb-false _ _ e))

    -- too few bytes are left for its key, its length and the least value
    pub next-cut : at < to → get_or p at 0 ≡ key → to - at < entry_size + lo → None ≡ next_in to reading
    next-cut h k s = go (keyed h k)
      where
        go : (reading ≡ bad) ⊎ Whole → None ≡ next_in to reading
        go (inl e) = next-bad e
        go (inr w) = absurd (omega (arith, w))

    cases : (reading ≡ bad) ⊎ ((r : ℕ) × Step r)
    cases = ended (eqb at to) refl
      where
        there : get_or p at 0 ≡ key → (reading ≡ bad) ⊎ Whole → (reading ≡ bad) ⊎ ((r : ℕ) × Step r)
        there k (inl e) = inl e
        there k (inr (h, t, u, s)) = inr (at + entry_size + size, step-some h k t u s)

        other : at < to → (b : Bool) → eqb (get_or p at 0) key ≡ b → (reading ≡ bad) ⊎ ((r : ℕ) × Step r)
        other h true e = let k = eqb-true _ _ e in there k (keyed h k)
        other h false e = inr (at, step-none (reading-other h (eqb-false _ _ e)))

        ended : (b : Bool) → eqb at to ≡ b → (reading ≡ bad) ⊎ ((r : ℕ) × Step r)
        ended true e = inr (at, step-none (reading-end (eqb-true _ _ e)))
        ended false e = other (omega (arith, eqb-false at to e)) (eqb (get_or p at 0) key) refl

    pub formed-whole : WellFormed p to key lo hi at → at < to → get_or p at 0 ≡ key → Whole
    formed-whole f h k = go (keyed h k)
      where
        go : (reading ≡ bad) ⊎ Whole → Whole
        go (inl e) = absurd (refused-not e f)
        go (inr w) = w

    -- what the answer of `optional` tells
    pub was-bad : None ≡ next_in to reading → reading ≡ bad
    was-bad q = go cases
      where
        go : (reading ≡ bad) ⊎ ((r : ℕ) × Step r) → reading ≡ bad
        go (inl e) = e
        go (inr (k, s)) = let e = step-next k s in cc

    pub to_end : (r : ℕ) → Some r ≡ next_in to reading → Step r
    to_end r q = go cases
      where
        go : (reading ≡ bad) ⊎ ((r : ℕ) × Step r) → Step r
        go (inl e) = let n = next-bad e in cc
        go (inr (k, s)) = let n = step-next k s in let e : r ≡ k = cc in rw e s

    -- a reading that is not refused went on to its end
    module _ (n : reading ≡ bad → ⊥) where
      formed : WellFormed p to key lo hi at
      formed = go cases
        where
          go : (reading ≡ bad) ⊎ ((r : ℕ) × Step r) → WellFormed p to key lo hi at
          go (inl e) = absurd (n e)
          go (inr (k, s)) = rw s.reads

      pub ahead : Ahead p at to key
      ahead = (o, l, (lo, hi, formed))

      pub passed : (r : ℕ) → Past p at to key r → Step r
      passed r e = to_end r (e lo hi formed)

module _ (p : Bytes) (at to key lo hi r : ℕ) (s : Step p at to key lo hi r) where
  pub step-length : (at ≡ r → ⊥) → at + entry_size ≤ r
  step-length h = omega (arith, (s.wide h).0)

  pub step_in : to ≤ length p → (at ≡ r → ⊥) → at + entry_size + lo ≤ length p
  step_in l h = omega (arith, (s.wide h).0, s.fits)
