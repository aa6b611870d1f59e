-- The starts of a group's sequences, put one after the other.
use Prim.Native.Nat.{ℕ, zero, suc, ◌+◌, ◌-◌, ◌*◌, ◌≤◌, ◌<◌}
use mathlib.Core.Path.{◌≡◌, refl, sym, ap, ◌∙◌}
use mathlib.Core.List.{List, [], ◌∷◌, ◌++◌, append_assoc, append-nil}
use mathlib.Core.Bool.{Bool, true, false, cond}
use native.Mathlib.Omega.{arith}
use native.Mathlib.Nat.{zero-add}
use lib.Dec.{eqb}
use lib.ListN.{length, get_or, set, length-append}
use borrow.Author.Tests.{eq-eqb, ne_eqb}
use Rattle.rules.specs.declared.answers.Group.{Group}
use Rattle.rules.specs.declared.answers.Group.TheVariants.{Install, Boot}
use Rattle.rules.specs.Bytes.{put}
use Rattle.rules.specs.Limits.{section_count, plan_sequences}
use Rattle.rules.specs.Commands.{among, section_key}
use Rattle.rules.specs.Run.{sections_of, each, with_common}
use Rattle.rules.proofs.BytesLaws.{put-append}
use Rattle.manifest_plan.specs.Plan.{does, start_at, section_starts, turn, starts_of}

length-one : (places : List ℕ) (k : ℕ) → length (start_at places k) ≤ 1
length-one places k = go (eqb (get_or places (2 * k + 1) 0) 0)
  where
    go : (b : Bool) → length (cond b [] (get_or places (2 * k) 0 ∷ [])) ≤ 1
    go true = omega arith
    go false = omega arith

-- section k's start is put at n, or nothing
module _ (places starts : List ℕ) (k n : ℕ) where
  pub put-none : get_or places (2 * k + 1) 0 ≡ 0 → (starts ≡ put starts n (start_at places k)) × (n ≡ n + length (start_at places k))
  put-none e = rw (eq-eqb _ 0 e) (refl, omega arith)

  pub put_some : (get_or places (2 * k + 1) 0 ≡ 0 → ⊥) →
      (set starts n (get_or places (2 * k) 0) ≡ put starts n (start_at places k)) × (n + 1 ≡ n + length (start_at places k))
  put_some d = rw (ne_eqb _ 0 d) (refl, omega arith)

length-each : (c ss : List ℕ) → length c ≤ 1 → (length ss ≤ length (each c ss)) × (length (each c ss) ≤ 2 * length ss)
length-each c [] h = (omega arith, omega arith)
length-each c (x ∷ ss) h =
    let r = length-each c ss h in
    let l = length-append c (x ∷ each c ss) in
    (omega (arith, r.0), omega (arith, r.1))

module _ (group : Group) (places : List ℕ) where
  -- how many of the `left` sections from number k on are the group's
  abbrev most : ℕ → ℕ → ℕ
  most zero k = 0
  most (suc left) k = cond (among (section_key k) (sections_of group)) 1 0 + most left (k + 1)

  length_most : (left k : ℕ) → length (section_starts group places left k) ≤ most left k
  length_most zero k = omega arith
  length_most (suc left) k = go (eqb (get_or places (2 * k + 1) 0) 0) (among (section_key k) (sections_of group)) (section_starts group places left (k + 1)) (length_most left (k + 1))
    where
      go : (a b : Bool) (rest : List ℕ) → length rest ≤ most left (k + 1) → length (cond (cond a false b) (get_or places (2 * k) 0 ∷ rest) rest) ≤ cond b 1 0 + most left (k + 1)
      go true true rest h = omega arith
      go true false rest h = omega arith
      go false true rest h = omega arith
      go false false rest h = omega arith

three : (group : Group) (places : List ℕ) → most group places (section_count - 1) 1 ≤ 3
three Install places = omega arith
three Boot places = omega arith

there : (group : Group) (places : List ℕ) (k : ℕ) → does group places k ≡ true → start_at places k ≡ get_or places (2 * k) 0 ∷ []
there group places k = go (eqb (get_or places (2 * k + 1) 0) 0)
  where
    go : (b : Bool) → cond b false (among (section_key k) (sections_of group)) ≡ true → cond b [] (get_or places (2 * k) 0 ∷ []) ≡ get_or places (2 * k) 0 ∷ []
    go true q = let z : ◌≡◌ {A = ℕ} 0 1 = cc in absurd (omega arith)
    go false q = refl

-- what section k adds is put at n: nothing, or common and then the section itself
module _ (group : Group) (places starts : List ℕ) (k n : ℕ) where
  pub turn-none : does group places k ≡ false → (starts ≡ put starts n (turn group places k)) × (n ≡ n + length (turn group places k))
  turn-none e = rw e (refl, omega arith)

  module _ (e : does group places k ≡ true) where
    pub turn-fits : n + length (turn group places k) ≤ plan_sequences → (n < plan_sequences) × (n + length (start_at places 0) < plan_sequences)
    turn-fits h =
        let l : length (turn group places k) ≡ length (start_at places 0) + 1 =
        rw e (length-append (start_at places 0) (start_at places k) ∙ ap (λ (x : List ℕ). length (start_at places 0) + length x) (there group places k e)) in
        (omega arith, omega arith)

    pub turn-some : (n₁ n₂ : ℕ) (starts₁ starts₂ : List ℕ) → (starts₁ ≡ put starts n (start_at places 0)) × (n₁ ≡ n + length (start_at places 0)) →
        (starts₂ ≡ put starts₁ n₁ (start_at places k)) × (n₂ ≡ n₁ + length (start_at places k)) →
        (starts₂ ≡ put starts n (turn group places k)) × (n₂ ≡ n + length (turn group places k))
    turn-some n₁ n₂ starts₁ starts₂ (p₁, q₁) (p₂, q₂) =
        rw e (p₂ ∙ rw (p₁, q₁) (put-append starts n (start_at places 0) (start_at places k)), omega (arith, q₁, q₂, length-append (start_at places 0) (start_at places k)))

module _ (group : Group) (places : List ℕ) where
  abbrev common : List ℕ
  common = start_at places 0

  -- the sections from number k on
  abbrev rest : ℕ → List ℕ
  rest k = section_starts group places (section_count - k) k

  few : length (each common (rest 1)) ≤ plan_sequences
  few = omega (arith, length-each common (rest 1) (length-one places 0), length_most group places (section_count - 1) 1, three group places)

  pub few_starts : length (starts_of group places) ≤ plan_sequences
  few_starts = go (rest 1) few
    where
      go : (ss : List ℕ) → length (each common ss) ≤ plan_sequences → length (with_common common ss) ≤ plan_sequences
      go [] h = omega (arith, length-one places 0)
      go (x ∷ ss) h = h

  -- what section k adds, and what follows it
  one_more_lem : (k : ℕ) → k < section_count → each common (rest k) ≡ turn group places k ++ each common (rest (k + 1))
  one_more_lem k l = let z : section_count - k ≡ suc (section_count - (k + 1)) = omega arith in rw z (go (does group places k) refl)
    where
      go : (b : Bool) → does group places k ≡ b →
          each common (cond b (get_or places (2 * k) 0 ∷ rest (k + 1)) (rest (k + 1))) ≡ cond b (common ++ start_at places k) [] ++ each common (rest (k + 1))
      go true e =
          sym (append_assoc common (get_or places (2 * k) 0 ∷ []) (each common (rest (k + 1))))
          ∙ ap (λ (x : List ℕ). (common ++ x) ++ each common (rest (k + 1))) (sym (there group places k e))
      go false e = refl

  -- before section k: n starts were put, and those of the sections that are left follow
  pub record Putting (starts₀ starts : List ℕ) (n k : ℕ) : Type 0 where
    pub done : List ℕ
    pub filled : starts ≡ put starts₀ 0 done
    pub size : n ≡ length done
    pub goes : each common (rest 1) ≡ done ++ each common (rest k)
    pub some : (0 < k) × (k ≤ section_count)

  pub putting_starts : (starts : List ℕ) → Putting starts starts 0 1
  putting_starts starts = record { done = []; filled = refl; size = refl; goes = refl; some = (omega arith, omega arith) }

  module _ (starts₀ starts : List ℕ) (n k : ℕ) (z : Putting starts₀ starts n k) (l : k < section_count) where
    more : each common (rest 1) ≡ (z.done ++ turn group places k) ++ each common (rest (k + 1))
    more = z.goes ∙ ap (λ (x : List ℕ). z.done ++ x) (one_more_lem k l) ∙ sym (append_assoc z.done (turn group places k) (each common (rest (k + 1))))

    added : length (z.done ++ turn group places k) ≡ n + length (turn group places k)
    added = rw z.size (length-append z.done (turn group places k))

    pub putting_fits : n + length (turn group places k) ≤ plan_sequences
    putting_fits =
        let whole : length (each common (rest 1)) ≡ length (z.done ++ turn group places k) + length (each common (rest (k + 1))) =
        ap length more ∙ length-append (z.done ++ turn group places k) (each common (rest (k + 1))) in
        omega (arith, few, added)

    module _ (n' : ℕ) (starts' : List ℕ) (p : (starts' ≡ put starts n (turn group places k)) × (n' ≡ n + length (turn group places k))) where
      pub putting_on : Putting starts₀ starts' n' (k + 1)
      putting_on =
          record {
            done = z.done ++ turn group places k;
            filled =
                p.0
                ∙ rw (z.filled, z.size) (ap (λ (x : ℕ). put (put starts₀ 0 z.done) x (turn group places k)) (sym (zero-add (length z.done))) ∙ put-append starts₀ 0 z.done (turn group places k));
            size = omega (arith, p.1, added);
            goes = more;
            some = (omega arith, omega arith);
          }

  module _ (starts₀ starts : List ℕ) (n k : ℕ) (z : Putting starts₀ starts n k) (l : section_count ≤ k) where
    all-put : each common (rest 1) ≡ z.done
    all-put =
        let e : section_count - k ≡ 0 = omega arith in
        z.goes ∙ ap (λ (x : ℕ). z.done ++ each common (section_starts group places x k)) e ∙ append-nil z.done

    -- no section of the group is there: common alone is put
    pub none-put : n ≡ 0 → (n' : ℕ) (starts' : List ℕ) → (starts' ≡ put starts 0 common) × (n' ≡ 0 + length common) →
        (starts' ≡ put starts₀ 0 (starts_of group places)) × (n' ≡ 0 + length (starts_of group places))
    none-put h n' starts' (p, q) =
        let e : starts_of group places ≡ common = ap (with_common common) (empty (rest 1) none) in
        let f : starts ≡ starts₀ = z.filled ∙ ap (put starts₀ 0) (empty z.done (omega (arith, z.size))) in
        (p ∙ ap (λ (x : List ℕ). put x 0 common) f ∙ ap (put starts₀ 0) (sym e), q ∙ ap (λ (x : List ℕ). 0 + length x) (sym e))
      where
        empty : (x : List ℕ) → length x ≡ 0 → x ≡ []
        empty [] q = refl
        empty (y ∷ ys) q = absurd (omega arith)

        none : length (rest 1) ≡ 0
        none = omega (arith, length-each common (rest 1) (length-one places 0), ap length all-put, z.size)

    pub some-put : (n ≡ 0 → ⊥) → (starts ≡ put starts₀ 0 (starts_of group places)) × (n ≡ 0 + length (starts_of group places))
    some-put h = let e = with_some (rest 1) all-put in (z.filled ∙ ap (put starts₀ 0) (sym e), omega (arith, z.size, ap length e))
      where
        with_some : (ss : List ℕ) → each common ss ≡ z.done → with_common common ss ≡ z.done
        with_some [] q = absurd (h (z.size ∙ ap length (sym q)))
        with_some (x ∷ ss) q = q
