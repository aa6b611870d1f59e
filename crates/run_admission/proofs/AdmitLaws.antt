-- The tests of a run, one after the other.
use Prim.Native.Nat.{ℕ, ◌%◌, ◌≤◌, ◌<◌}
use mathlib.Core.Path.{◌≡◌, ◌∙◌}
use mathlib.Core.List.{List}
use mathlib.Core.Bool.{true, false}
use lib.ListN.{length}
use borrow.Author.Tests.{ne_eqb, eq-eqb, lt-leb, le-leb}
use lib.Seq.{sets}
use Rattle.std.specs.Prelude.{Result, Ok, Err}
use Rattle.rules.specs.declared.answers.Group.{Group}
use Rattle.rules.specs.declared.answers.Refusal.{Refusal}
use Rattle.rules.specs.declared.answers.Refusal.TheVariants.{NotVerified, EventOpen, WrongNumber, BadSlots, NoSlot, BadAnswers, ShortTrace}
use Rattle.rules.specs.Limits.{limits}
use Rattle.rules.specs.Bytes.{Bytes, all_in}
use Rattle.rules.specs.Slots.{answer_bytes, good_slots, slot_names}
use Rattle.rules.specs.Run.{Input, may_start, number_fits, admit}
use Rattle.run_slot_search.specs.Search.{slot_numbers}
use Rattle.run_admission.specs.Admission.{tests_of, assigned_after}

-- the answer, what holds where nothing is refused, and the numbers of slots after it
abbrev pub Stops : Result (Unit {0}) Refusal → Group → ℕ → List Bytes → Input → Type 0 → List ℕ → List ℕ → Type 0
Stops r group number ids x P before after =
    (r ≡ tests_of (admit group number ids x)) × (r ≡ Ok tt → P) × (after ≡ assigned_after group number ids x before)

module _ (group : Group) (number : ℕ) (ids : List Bytes) (x : Input) (P : Type 0) (before : List ℕ) where
  pub no_verdict : x.verdict ≡ false → Stops (Err NotVerified) group number ids x P before before
  unfolding admit
  no_verdict a = (rw a, λ z. cc, rw a)

  module _ (a : x.verdict ≡ true) where
    pub no_start : may_start group x.device ≡ false → Stops (Err EventOpen) group number ids x P before before
    unfolding admit
    no_start b = (rw (a, b), λ z. cc, rw (a, b))

    module _ (b : may_start group x.device ≡ true) where
      pub wrong_number : number_fits group number x.device ≡ false → Stops (Err WrongNumber) group number ids x P before before
      unfolding admit
      wrong_number c = (rw (a, b, c), λ z. cc, rw (a, b, c))

      module _ (c : number_fits group number x.device ≡ true) where
        pub bad-slots : good_slots x.slots ≡ false → Stops (Err BadSlots) group number ids x P before before
        unfolding admit
        bad-slots d = (rw (a, b, c, d), λ z. cc, rw (a, b, c, d))

        module _ (d : good_slots x.slots ≡ true) (after : List ℕ) (w : after ≡ sets before 0 (slot_numbers ids x.slots)) where
          looked : after ≡ assigned_after group number ids x before
          looked = w ∙ rw (a, b, c, d)

          pub no_slot : all_in ids (slot_names x.slots) ≡ false → Stops (Err NoSlot) group number ids x P before after
          unfolding admit
          no_slot e = (rw (a, b, c, d, e), λ z. cc, looked)

          module _ (e : all_in ids (slot_names x.slots) ≡ true) where
            pub bad-answers : (length x.answers % answer_bytes ≡ 0 → ⊥) → Stops (Err BadAnswers) group number ids x P before after
            unfolding admit
            bad-answers f = (rw (a, b, c, d, e, ne_eqb _ 0 f), λ z. cc, looked)

            module _ (f : length x.answers % answer_bytes ≡ 0) where
              pub short-trace : length x.trace < limits.trace → Stops (Err ShortTrace) group number ids x P before after
              unfolding admit
              short-trace g = (rw (a, b, c, d, e, eq-eqb _ 0 f, lt-leb limits.trace _ g), λ z. cc, looked)

              pub admitted : limits.trace ≤ length x.trace → P → Stops (Ok tt) group number ids x P before after
              unfolding admit
              admitted g p = (rw (a, b, c, d, e, eq-eqb _ 0 f, le-leb limits.trace _ g), λ z. p, looked)
