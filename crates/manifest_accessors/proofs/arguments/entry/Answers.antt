use mathlib.Core.Path.{refl}
use native.Mathlib.Omega.{arith}
use Rattle.manifest_accessors.proofs.EntryLaws.{entry-coerce, entry-uri, entry-source, entry-digest, entry-size, entry-headed, put-coerce, put-uri, put-source, put-digest, put-size}
use Rattle.manifest_accessors.proofs.arguments.entry.Goals as goal

pub bounds-s-at : goal.bounds-s-at
bounds-s-at c = omega (arith, entry-coerce _ _ _ c.requires c.if-key-eq-COERCE.true)

pub overflow_add-r : goal.overflow_add-r
overflow_add-r c = omega (arith, entry-coerce _ _ _ c.requires c.if-key-eq-COERCE.true)

pub returns-then-key-eq-COERCE : goal.returns-then-key-eq-COERCE
returns-then-key-eq-COERCE c = λ x. put-coerce _ _ _ x c.args.a c.if-key-eq-COERCE.true _ c.flag.ensures _ refl

pub open-h-requires : goal.open-h-requires
open-h-requires c = entry-headed _ _ _ c.requires c.if-key-eq-COERCE.false

pub overflow_add-next : goal.overflow_add-next
overflow_add-next c =
    let y = entry-uri _ _ _ c.requires c.in-6.is in
    omega (arith, c.open-h.ensures y.headed, y.to, y.fits)

pub overflow_add-p : goal.overflow_add-p
overflow_add-p c =
    let y = entry-source _ _ _ c.requires c.in-10.is in
    omega (arith, c.open-h.ensures y.headed, y.small)

pub overflow_add-next-in-11 : goal.overflow_add-next-in-11
overflow_add-next-in-11 c =
    let y = entry-digest _ _ _ c.requires c.in-11.is in
    omega (arith, c.open-h.ensures y.headed, y.to, y.fits)

pub overflow_add-p-in_default : goal.overflow_add-p-in_default
overflow_add-p-in_default c =
    let y = entry-size _ _ _ c.requires c.if-key-eq-COERCE.false c.in_default.in_default-own.rest.0.0.1 c.in_default.in_default-own.rest.0.1 c.in_default.in_default-own.rest.1 in
    omega (arith, c.open-h.ensures y.headed, y.small)

pub returns-in-6 : goal.returns-in-6
returns-in-6 c = λ x. put-uri _ _ _ x c.args.a _ _ c.open-h.ensures c.in-6.is

pub returns-in-10 : goal.returns-in-10
returns-in-10 c = λ x. put-source _ _ _ x c.args.a _ _ c.open-h.ensures c.in-10.is

pub returns-in-11 : goal.returns-in-11
returns-in-11 c = λ x. put-digest _ _ _ x c.args.a _ _ c.open-h.ensures c.in-11.is

pub returns-in_default : goal.returns-in_default
returns-in_default c = λ x.
    put-size _ _ _ x c.args.a _ _ c.open-h.ensures
    c.if-key-eq-COERCE.false c.in_default.in_default-own.rest.0.0.1 c.in_default.in_default-own.rest.0.1 c.in_default.in_default-own.rest.1
