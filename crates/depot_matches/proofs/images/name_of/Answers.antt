use Prim.Native.Nat.{ℕ, ◌+◌, ◌-◌}
use mathlib.Core.Path.{◌≡◌, ◌∙◌}
use lib.ListN.{length, get_or}
use native.Mathlib.Omega.{arith}
use borrow.Author.Tests.{lt-ltb, le-ltb, eq-eqb, ne_eqb}
use Rattle.std.specs.Prelude.{Some}
use Rattle.rules.specs.Bytes.{Bytes}
use Rattle.rules.specs.ProgramFormat.{start_size, length_from, name_size}
use Rattle.rules.proofs.BytesLaws.{part-rest}
use Rattle.depot_argument_lines.specs.Items.{sized}
use Rattle.depot_argument_lines.proofs.ItemLaws.{size_lies, size-whole, sized_none, sized-some, sized_positive}
use Rattle.depot_listing.specs.Listing.{component_size}
use Rattle.depot_matches.specs.Images.{name_of}
use Rattle.depot_matches.proofs.images.name_of.Goals as goal

component-end : (end : ℕ) (s : Bytes) → Some end ≡ sized (component_size s) → end ≡ name_size + get_or s length_from 0
unfolding component_size
component-end end s e =
    sized-some _ _ e ∙ size-whole s name_size (get_or s length_from 0) (size_lies s name_size (get_or s length_from 0) (sized-some _ _ e) (sized_positive _ _ e))

pub returns-then-p-lt-START_BYTES : goal.returns-then-p-lt-START_BYTES
unfolding name_of
returns-then-p-lt-START_BYTES c =
    rw (lt-ltb (length c.args.p.now) start_size c.if-p-lt-START_BYTES.true)

pub returns-in_default : goal.returns-in_default
unfolding name_of
returns-in_default c =
    rw (
      le-ltb (length c.args.p.now) start_size c.if-p-lt-START_BYTES.false,
      ← part-rest c.args.p.now start_size,
      ← c.after_components-s.ensures,
      eq-eqb _ 0 (sized_none _ c.in_default.ensures.size),
    )

pub slice_bounds-result-count : goal.slice_bounds-result-count
slice_bounds-result-count c = omega (arith, component-end _ _ c.in-Some.ensures.size)

pub slice_bounds-result-start : goal.slice_bounds-result-start
slice_bounds-result-start c = omega (arith, component-end _ _ c.in-Some.ensures.size)

pub returns : goal.returns
unfolding name_of
returns c =
    let s = c.after_components-s.result.now in
    let e : c.in-Some.end - name_size ≡ get_or s length_from 0 = omega (arith, component-end _ _ c.in-Some.ensures.size) in
    rw (
      le-ltb (length c.args.p.now) start_size c.if-p-lt-START_BYTES.false,
      ← part-rest c.args.p.now start_size,
      ← c.after_components-s.ensures,
      ne_eqb _ 0 (λ y. sized_positive _ _ c.in-Some.ensures.size (sized-some _ _ c.in-Some.ensures.size ∙ y)),
      e,
    )
