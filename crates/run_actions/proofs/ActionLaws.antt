-- What a command does, by the tests that it makes on the way.
use Prim.Native.Nat.{ℕ, ◌+◌, ◌-◌, ◌*◌, ◌≤◌}
use mathlib.Core.Path.{◌≡◌, refl, ap, ◌∙◌}
use mathlib.Core.List.{List, [], ◌∷◌}
use mathlib.Core.Bool.{true, ◌&&◌}
use native.Mathlib.Nat.{add-zero}
use native.Mathlib.Omega.{arith}
use lib.Dec.{ltb, leb, eqb}
use lib.ListN.{length, get_or, set, take, drop}
use lib.Seq.{get_or-take, get_or-drop, take-take, drop-drop}
use borrow.Author.Tests.{eq-eqb, ne_eqb, lt-ltb, le-ltb}
use Rattle.rules.specs.declared.answers.Failure.TheVariants.{ParameterUnset, NoAnswer, BadStatus, TooLarge, NothingToCopy, NothingToRun}
use Rattle.rules.specs.declared.answers.End.TheVariants.{Finished, Started, Failed}
use Rattle.rules.specs.Limits.{limits}
use Rattle.rules.specs.Bytes.{Bytes, part, num, same}
use Rattle.rules.specs.Commands.{run}
use Rattle.rules.specs.Slots.{size_from, digest_from, answer_bytes, image_from, slot_bytes, slot_at, image_at, put_image}
use Rattle.rules.specs.Step.{Env, State, out, with_slots, with_used, unless, given, passes, size_is, slot_no, slot, image, filled, matches, fetches, copies, swaps, acts}
use Rattle.rules_theorems.proofs.Effects.{same_number, image-length}
use Rattle.run_slots.specs.declared.params.Params.{Params}
use Rattle.run_slots.specs.Params.{optional, meaning}
use Rattle.run_actions.specs.Action.{At, SourceAt}
use Rattle.run_slots.proofs.ImageLaws.{answer-image}

-- the status and the size of an answer
status : (b : Bytes) (at : ℕ) → get_or (part b at answer_bytes) 0 0 ≡ get_or b at 0
status b at = rw (get_or-take answer_bytes (drop at b) 0 0 (omega arith), get_or-drop, add-zero)

size_in_lem : (b : Bytes) (at : ℕ) → num (part (part b at answer_bytes) size_from 4) ≡ num (part b (at + size_from) 4)
size_in_lem b at = ap num (inner (drop at b) ∙ ap (take 4) (drop-drop size_from at b))
  where
    inner : (x : Bytes) → take 4 (drop size_from (take answer_bytes x)) ≡ take 4 (drop size_from x)
    inner [] = refl
    inner (y ∷ x) = take-take 4 (answer_bytes - size_from) x (omega arith)

module _ (env : Env) (i : ℕ) (st : State) (slots : Bytes) (k : ℕ) (e : st.slots ≡ slots) (n : slot_no env i st ≡ k) where
  slot_is : slot env i st ≡ slot_at slots k
  unfolding slot
  slot_is = rw (n, e)

  pub run_is : acts env run i st ≡ unless (slot_at slots k).present NothingToRun st (out Started st)
  unfolding acts
  run_is = rw slot_is

module _ (s : Bytes) (p : Params) (env : Env) (i : ℕ) (st : State) (slots : Bytes) (k : ℕ) (a : At env i st slots k (meaning s p)) where
  at_slot : slot env i st ≡ slot_at slots k
  at_slot = slot_is env i st slots k a.lent a.number

  pub match_unset : p.digest ≡ 0 → matches env i st ≡ out (Failed ParameterUnset) st
  unfolding matches meaning given
  match_unset z = rw (a.params, eq-eqb _ _ z)

  pub match_set : (p.digest ≡ 0 → ⊥) → matches env i st ≡
      passes ((slot_at slots k).present && same (part slots (slot_bytes * k + (image_from + digest_from)) limits.digest) (part s p.digest limits.digest)
      && size_is (optional p.size (p.size - 1)) (slot_at slots k).size) st
  unfolding matches meaning given slot_at
  match_set z = rw (a.params, ne_eqb _ _ z, at_slot)

  -- where it is set, the number of the source's slot
  module _ (memory : List ℕ) (h : SourceAt env st p.source memory) where
    pub copy-unset : p.source ≡ 0 → copies env i st ≡ out (Failed ParameterUnset) (with_slots st slots)
    unfolding copies meaning given
    copy-unset z = rw (← a.lent, a.params, eq-eqb _ _ z)

    pub swap-unset : p.source ≡ 0 → swaps env i st ≡ out (Failed ParameterUnset) (with_slots st slots)
    unfolding swaps meaning given
    swap-unset z = rw (← a.lent, a.params, eq-eqb _ _ z)

    module _ (z : p.source ≡ 0 → ⊥) where
      abbrev pub source : ℕ
      source = get_or memory (p.source - 1) 0

      there : slot_no env (p.source - 1) st ≡ source
      there = h (omega (arith, z))

      pub copy-set : copies env i st ≡
          unless (slot_at slots source).present NothingToCopy (with_slots st slots)
          (unless (leb (slot_at slots source).size (slot_at slots k).capacity) TooLarge (with_slots st slots)
          (out Finished (with_slots st (put_image slots k (image_at slots source)))))
      unfolding copies meaning given slot image filled
      copy-set = rw (← a.lent, ← a.number, ← there, a.params, ne_eqb _ _ z)

      pub swap-set : swaps env i st ≡
          unless ((slot_at slots k).present && (slot_at slots source).present) NothingToCopy (with_slots st slots)
          (unless (leb (slot_at slots source).size (slot_at slots k).capacity && leb (slot_at slots k).size (slot_at slots source).capacity) TooLarge (with_slots st slots)
          (out Finished (with_slots st (put_image (put_image slots k (image_at slots source)) source (image_at slots k)))))
      unfolding swaps meaning given slot image filled
      swap-set =
          rw (← a.lent, ← a.number, ← there, a.params, ne_eqb _ _ z, same_number env (p.source - 1) i (image env (p.source - 1) st) st (image-length env (p.source - 1) st))

  module _ (answers : Bytes) (used : ℕ) (x : env.answers ≡ answers) (u : st.used ≡ used) where
    pub fetch-unset : p.uri ≡ 0 → fetches env i st ≡ out (Failed ParameterUnset) (with_used (with_slots st slots) used)
    unfolding fetches meaning given
    fetch-unset z = rw (← a.lent, ← u, a.params, eq-eqb _ _ z)

    module _ (z : p.uri ≡ 0 → ⊥) where
      pub fetch-none : length answers ≤ answer_bytes * used → fetches env i st ≡ out (Failed NoAnswer) (with_used (with_slots st slots) used)
      unfolding fetches meaning given unless
      fetch-none l = rw (← a.lent, ← u, a.params, ne_eqb _ _ z, x, u, le-ltb _ _ l)

      abbrev pub taken : State
      taken = with_used (with_slots st slots) (used + 1)

      pub fetch-taken : answer_bytes * used + answer_bytes ≤ length answers → fetches env i st ≡
          unless (eqb (get_or answers (answer_bytes * used) 0) 0) BadStatus taken
          (unless (leb (num (part answers (answer_bytes * used + size_from) 4)) (slot_at slots k).capacity) TooLarge taken
          (out Finished (with_slots taken (put_image slots k (set (part answers (answer_bytes * used) answer_bytes) 0 1)))))
      unfolding fetches meaning given unless slot filled slot_no
      fetch-taken l =
          let t : ltb (answer_bytes * used) (length answers) ≡ true = lt-ltb (answer_bytes * used) (length answers) (omega arith) in
          rw (answer-image answers (answer_bytes * used) l, ← status answers (answer_bytes * used), ← size_in_lem answers (answer_bytes * used))
          (rw (← a.lent, ← a.number, ← u, ← x) (rw (a.params, ne_eqb _ _ z, rw (← u, ← x) at t)))
