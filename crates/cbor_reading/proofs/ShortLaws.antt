-- An item whose head has one byte.
use Prim.Native.Nat.{ℕ, ◌+◌, ◌/◌, ◌%◌, ◌≤◌, ◌<◌}
use mathlib.Core.Path.{◌≡◌, refl}
use native.Mathlib.Omega.{arith}
use lib.ListN.{get_or}
use Rattle.rules.specs.Bytes.{Bytes}
use Rattle.rules.specs.Got.{got}
use Rattle.rules.specs.Cbor.{NIL, Head, head, after, item}
use Rattle.rules.proofs.CborLaws.{head-short, head_flag, whole-got, item-got}

-- a number, string, array or map
module _ (s : Bytes) (e at kind lo hi first left : ℕ) where
  pub short-item : first ≡ get_or s at 0 → at + 1 + left ≡ e → (kind ≡ 1 → ⊥) × (kind < 6) × (first / 32 ≡ kind) × (first % 32 < 24) →
      (lo ≤ first % 32) × (first % 32 ≤ hi) × ((next : ℕ) → after (record { kind = kind; num = first % 32; next = next }) ≤ next + left) →
      item kind lo hi s e at ≡ got (record { kind = kind; num = first % 32; next = at + 1 })
  short-item q x (o, u, k, l) (a, b, f) =
      let h : Head = record { kind = kind; num = first % 32; next = at + 1 } in
      let y : head s e at ≡ got h = head-short s e at kind (first % 32) (at + 1) o (omega arith) in
      item-got s e at kind lo hi h (whole-got s e at h y (omega (arith, f (at + 1)))) refl a b

-- nil
pub nil-item : (s : Bytes) (e at : ℕ) → (at < e) × (get_or s at 0 ≡ 0xf6) → item NIL 0 0 s e at ≡ got (record { kind = NIL; num = 0; next = at + 1 })
nil-item s e at (l, q) =
    let h : Head = record { kind = NIL; num = 0; next = at + 1 } in
    let y : head s e at ≡ got h = head_flag s e at NIL (at + 1) (omega arith) in
    item-got s e at NIL 0 0 h (whole-got s e at h y (omega arith)) refl (omega arith) (omega arith)
