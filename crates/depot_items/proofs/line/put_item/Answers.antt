use Prim.Native.Nat.{◌<◌, ◌≤◌}
use lib.Dec.{eqb}
use mathlib.Core.Bool.{Bool, true, false}
use mathlib.Core.Path.{◌≡◌, refl}
use borrow.Author.Tests.{ne_eqb, eqb-true, eqb-false}
use native.Mathlib.Omega.{arith}
use Rattle.rules.specs.Bytes.{Bytes}
use Rattle.rules.specs.Cbor.{BYTES}
use Rattle.depot_items.specs.declared.Item.{Item}
use Rattle.depot_items.specs.Line.{mark, string_text, item_text}
use Rattle.depot_items.proofs.line.put_item.Goals as goal
use Rattle.depot_items.proofs.line.put_item.Goals.{in_default-via-then-i-lt2, in_default-via-else-i-lt2+else-i-lt4}

item-string : (s : Bytes) (i : Item) → 2 ≤ i.kind → i.kind < 4 → string_text s i.kind i.next i.after ≡ item_text s i
unfolding item_text
item-string s i l m = go (eqb i.kind BYTES) refl
  where
    go : (t : Bool) → eqb i.kind BYTES ≡ t → string_text s i.kind i.next i.after ≡ item_text s i
    go true q = rw (eqb-true i.kind BYTES q)
    go false q = let n : i.kind ≡ 2 → ⊥ = eqb-false i.kind BYTES q in let e : i.kind ≡ 3 = omega arith in rw e

item-other : (s : Bytes) (i : Item) → (i.kind ≡ 0 → ⊥) → (i.kind ≡ 2 → ⊥) → (i.kind ≡ 3 → ⊥) → (i.kind ≡ 20 → ⊥) → (i.kind ≡ 21 → ⊥) → mark ≡ item_text s i
unfolding item_text
item-other s i n b t f g = rw (ne_eqb i.kind 0 n, ne_eqb i.kind 2 b, ne_eqb i.kind 3 t, ne_eqb i.kind 20 f, ne_eqb i.kind 21 g)

pub returns-in-0 : goal.returns-in-0
unfolding item_text
returns-in-0 c = rw c.in-0.is c.put_decimal.ensures

pub returns-in-20 : goal.returns-in-20
unfolding item_text
returns-in-20 c = rw c.in-20.is c.put.ensures

pub returns-in-21 : goal.returns-in-21
unfolding item_text
returns-in-21 c = rw c.in-21.is c.put-in-21.ensures

pub returns-in-2 : goal.returns-in-2
returns-in-2 c = rw (← item-string c.args.s.now c.args.i (omega arith) (omega arith)) c.put_string.ensures

pub returns-in_default : goal.returns-in_default
returns-in_default c =
    elim c.in_default.branch [
      | in_default-via-then-i-lt2 w ↦
          rw (← item-other c.args.s.now c.args.i (λ q. omega arith) (λ q. omega arith) (λ q. omega arith) (λ q. omega arith) (λ q. omega arith)) c.put-in_default.ensures
      | in_default-via-else-i-lt2+else-i-lt4 w ↦
          rw (← item-other c.args.s.now c.args.i (λ q. omega arith) (λ q. omega arith) (λ q. omega arith) (λ q. omega arith) (λ q. omega arith)) c.put-in_default.ensures
    ]
