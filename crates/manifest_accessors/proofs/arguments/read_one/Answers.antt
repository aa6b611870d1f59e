use Prim.Native.Nat.{ℕ}
use mathlib.Core.Path.{◌≡◌, refl, sym, ◌∙◌}
use mathlib.Core.Logic.{◌⊎◌, inl, inr}
use native.Mathlib.Omega.{arith}
use Rattle.rules.specs.declared.tables.Argument.{Argument}
use Rattle.rules.specs.declared.tables.Argument.TheVariants.{Nil, Alternatives, Sequence}
use Rattle.rules.specs.Commands.{set_index_code}
use Rattle.rules_kinds.specs.Kinds.{kind_of}
use Rattle.rules_kinds.proofs.KindLaws.{Other, sixteen-codes, parameter-codes, nil-codes, alternative_codes, sequence-codes}
use Rattle.rules_kinds.proofs.KindTests.{index-code, no_index}
use Rattle.manifest_accessors.proofs.OneLaws.{one-sixteen, one_index, one_map, one-rest, map-entries, read-sixteen, read-index, read-map, read-rest}
use Rattle.manifest_accessors.proofs.arguments.read_one.Goals as goal

abbrev Bare : ℕ → Type 0
Bare c = Other c × (c ≡ set_index_code → ⊥)

-- those of the last arm
bare : (c : ℕ) (k : Argument) → k ≡ kind_of c → (k ≡ Nil) ⊎ (k ≡ Alternatives) ⊎ (k ≡ Sequence) → Bare c
bare c k e (inl i) = (nil-codes c (sym e ∙ i), no_index c (rw (← e, i) refl))
bare c k e (inr (inl i)) = (alternative_codes c (sym e ∙ i), no_index c (rw (← e, i) refl))
bare c k e (inr (inr i)) = (sequence-codes c (sym e ∙ i), no_index c (rw (← e, i) refl))

pub open-h-requires : goal.open-h-requires
open-h-requires c = (one-sixteen _ _ _ c.requires (sixteen-codes _ (sym c.in-Sixteen.ensures))).headed

pub overflow_add-h : goal.overflow_add-h
overflow_add-h c =
    let y = one-sixteen _ _ _ c.requires (sixteen-codes _ (sym c.in-Sixteen.ensures)) in
    omega (arith, c.open-h.ensures y.headed, y.to_is, y.fits)

pub open-h-requires-in-Index : goal.open-h-requires-in-Index
open-h-requires-in-Index c = (one_index _ _ _ c.requires (index-code _ (sym c.in-Index.ensures))).headed

pub open-h-requires-in-Parameters : goal.open-h-requires-in-Parameters
open-h-requires-in-Parameters c = (one_map _ _ _ c.requires (parameter-codes _ (sym c.in-Parameters.ensures))).headed

pub read_entries-requires : goal.read_entries-requires
read_entries-requires c = map-entries _ _ _ c.requires _ _ c.open-h-in-Parameters.ensures (parameter-codes _ (sym c.in-Parameters.ensures))

pub overflow_add-at : goal.overflow_add-at
overflow_add-at c = let ((i, j), k) = bare _ _ c.argument_of.ensures c.in-Nil.is in omega (arith, one-rest _ _ _ c.requires i k j)

pub returns-in-Sixteen : goal.returns-in-Sixteen
returns-in-Sixteen c = λ x.
    rw c.bare.ensures (read-sixteen _ _ _ x _ _ c.open-h.ensures (sixteen-codes _ (sym c.in-Sixteen.ensures)))

pub returns-in-Index : goal.returns-in-Index
returns-in-Index c = λ x. rw c.bare-in-Index.ensures (read-index _ _ _ x _ _ c.open-h-in-Index.ensures (index-code _ (sym c.in-Index.ensures)))

pub returns-in-Parameters : goal.returns-in-Parameters
returns-in-Parameters c = λ x.
    let k = parameter-codes _ (sym c.in-Parameters.ensures) in
    read-map _ _ _ x _ _ c.open-h-in-Parameters.ensures k _ (c.read_entries.ensures (map-entries _ _ _ x _ _ c.open-h-in-Parameters.ensures k))

pub returns-in-Nil : goal.returns-in-Nil
returns-in-Nil c = λ x. let ((i, j), k) = bare _ _ c.argument_of.ensures c.in-Nil.is in rw c.bare-in-Nil.ensures (read-rest _ _ _ x i k j)
