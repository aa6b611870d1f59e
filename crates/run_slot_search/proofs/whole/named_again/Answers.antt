use Prim.Native.Nat.{◌+◌, ◌*◌}
use mathlib.Core.Path.{refl, sym, ap, ◌∙◌}
use native.Mathlib.Omega.{arith}
use borrow.Author.Rules.{rules}
use borrow.Author.Tests.{tests}
use lib.ListN.{get_or}
use Rattle.std.proofs.lemmas.Iterator.{YieldsList-from_range}
use Rattle.std.proofs.lemmas.Iterator.Search.{any_from_yields_List}
use Rattle.rules.specs.Bytes.{Bytes, part, same, member}
use Rattle.rules.specs.Slots.{slot_bytes, id_from, slot_at}
use Rattle.run_slot_search.specs.Search.{names_from}
use Rattle.run_slot_search.proofs.SearchLaws.{member-range, short-at, id-part}
use Rattle.run_slot_search.proofs.whole.named_again.Goals as goal

pub returns : goal.returns
returns c =
    let slots = c.args.slots.now in
    let i = c.args.i in
    let own = part slots (slot_bytes * i + id_from) (get_or slots (slot_bytes * i) 0) in
    any_from_yields_List (λ k. same own (slot_at slots k).id) _ _ c.any.result c.any.ensures.ran
    (YieldsList-from_range (i + 1) c.args.n _ refl refl) (λ k b q h. search (rules, tests)) ∙ member-range slots own (i + 1) c.args.n
    ∙ ap (λ (x : Bytes). member x (names_from slots (i + 1) c.args.n)) (sym (id-part slots i (short-at slots c.requires.2 c.args.n (omega arith) i (omega arith))))
