use Prim.Native.Nat.{◌/◌}
use mathlib.Core.Path.{sym, ap, ◌∙◌}
use borrow.Author.Tests.{le-leb}
use lib.ListN.{length}
use native.Mathlib.Omega.{arith}
use Rattle.rules.specs.Slots.{slot_bytes, slot_of}
use Rattle.run_slot_search.specs.Search.{slot_found}
use Rattle.run_slot_search.proofs.SearchLaws.{good-short, some-found, none-found}
use Rattle.depot_matches.specs.Images.{name_of, present_image, lent_image}
use Rattle.depot_matches.proofs.TurnLaws.{whole_part}
use borrow.Author.Rules.{rules}
use Rattle.depot_matches.proofs.images.lent_image.Goals as goal

pub returns-then-not-good_slots : goal.returns-then-not-good_slots
unfolding lent_image
returns-then-not-good_slots c = rw (sym c.good_slots.ensures ∙ c.if-not-good_slots.true)

pub slot_of-requires : goal.slot_of-requires
slot_of-requires c = (search rules, good-short _ (sym c.good_slots.ensures ∙ c.if-not-good_slots.false))

pub returns-in-Some : goal.returns-in-Some
unfolding lent_image
returns-in-Some c =
    let slots = c.args.slots.now in
    let found = sym c.in-Some.is ∙ c.slot_of.ensures ∙ ap (λ x. slot_found x slots) (whole_part _ ∙ c.name_of-name.ensures) in
    rw (sym c.good_slots.ensures ∙ c.if-not-good_slots.false) (c.present_image.ensures ∙ ap (present_image slots) (some-found _ slots _ found))

pub returns-in-None : goal.returns-in-None
unfolding lent_image present_image
returns-in-None c =
    let slots = c.args.slots.now in
    let found = sym c.in-None.is ∙ c.slot_of.ensures ∙ ap (λ x. slot_found x slots) (whole_part _ ∙ c.name_of-name.ensures) in
    let at = none-found (name_of c.args.p.now c.args.c) slots found in
    rw (sym c.good_slots.ensures ∙ c.if-not-good_slots.false, le-leb (length slots / slot_bytes) (slot_of (name_of c.args.p.now c.args.c) slots) (omega arith))
