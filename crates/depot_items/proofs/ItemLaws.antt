-- Items by their heads.
use Rattle.std.specs.Prelude.{Result, Ok, Err}
use Prim.Native.Nat.{ℕ, ◌+◌, ◌≤◌, ◌<◌}
use mathlib.Core.Path.{◌≡◌, refl, sym, ap, ◌∙◌}
use mathlib.Core.Logic.{◌⊎◌}
use mathlib.Core.Bool.{Bool, true, false, cond, ◌||◌}
use lib.Dec.{eqb, ltb, leb}
use lib.ListN.{length, take}
use lib.Seq.{length-take-le}
use borrow.Author.Tests.{lt-ltb, le-ltb, le-leb, lt-leb, leb-true, eq-eqb, ne_eqb}
use native.Mathlib.Omega.{arith}
use Rattle.rules.specs.declared.answers.Fault.{Fault}
use Rattle.rules.specs.Bytes.{Bytes}
use Rattle.rules.specs.Got.{Got, refused, got}
use Rattle.rules.specs.Cbor.{Head, head, BYTES, TEXT, after}
use Rattle.rules.proofs.CheckLaws.{head_bounds}
use Rattle.rules.proofs.CborLaws.{after-string, after-other}
use Rattle.cbor_heads.specs.declared.Head as Heads
use Rattle.cbor_heads.specs.Answer.{head_of, head_means}
use Rattle.cbor_reader.specs.Read.{read_of}
use Rattle.depot_items.specs.declared.Item.{Item}
use Rattle.depot_items.specs.Items.{nothing, held, seen, item_at, item_of}

held_past : (e : ℕ) (h : Head) → e < after h → held e h ≡ nothing e
unfolding held
held_past e h l = rw (lt-leb (after h) e l)

held_in : (e : ℕ) (h : Head) (n : ℕ) → after h ≡ n → n ≤ e → held e h ≡ record { kind = h.kind; num = h.num; next = h.next; after = n }
unfolding held
held_in e h n q l = rw (le-leb (after h) e (omega (arith, q)), q)

module _ (e : ℕ) (h : Head) (k : (h.kind ≡ BYTES) ⊎ (h.kind ≡ TEXT)) where
  pub string_past : e < h.next + h.num → held e h ≡ nothing e
  string_past l = held_past e h (omega (arith, after-string h k))

  pub string_in : h.next + h.num ≤ e → held e h ≡ record { kind = h.kind; num = h.num; next = h.next; after = h.next + h.num }
  string_in l = held_in e h (h.next + h.num) (after-string h k) l

pub other_in : (e : ℕ) (h : Head) → (h.kind ≡ BYTES → ⊥) → (h.kind ≡ TEXT → ⊥) → h.next ≤ e →
    held e h ≡ record { kind = h.kind; num = h.num; next = h.next; after = h.next }
other_in e h b t l = held_in e h h.next (after-other h b t) l

-- by a head that was read
abbrev pub item_from : ℕ → Result Heads.Head Fault → Item
item_from e (Ok h) = held e (head_of h)
item_from e (Err f) = nothing e

module _ (s : Bytes) (e at : ℕ) where
  pub item_outside : length s < e → item_at s e at ≡ nothing e
  unfolding item_at
  item_outside l = rw (lt-ltb (length s) e l)

  -- what a reader of the bytes before e reads
  module _ (l : e ≤ length s) (r : Result Heads.Head Fault) (q : r ≡ read_of (head (take e s) (length (take e s)) at)) where
    by : r ≡ read_of (head (take e s) e at)
    by = rw (length-take-le e s l) at q

    pub item-read : item_at s e at ≡ item_from e r
    unfolding item_at seen
    item-read = rw (le-ltb (length s) e l, by) (go (head (take e s) e at))
      where
        go : (g : Got Head) → seen e g ≡ item_from e (read_of g)
        go (refused k p) = refl
        go (got h) = refl

    pub item-next : (h : Heads.Head) → r ≡ Ok h → h.next ≤ e
    item-next h y = (head_bounds (take e s) e at (head_of h) (sym (means (head (take e s) e at)) ∙ ap head_means (sym by ∙ y))).1
      where
        means : (g : Got Head) → head_means (read_of g) ≡ g
        means (refused k p) = refl
        means (got g) = refl

  pub item-wanted : (kind : ℕ) → (item_at s e at).kind ≡ kind → item_of s e at kind ≡ item_at s e at
  unfolding item_of
  item-wanted kind q = rw (eq-eqb _ _ q)

  pub item_unwanted : (kind : ℕ) → ((item_at s e at).kind ≡ kind → ⊥) → item_of s e at kind ≡ nothing e
  unfolding item_of
  item_unwanted kind q = rw (ne_eqb _ _ q)

-- an item lies in its container
lies_held : (e : ℕ) (h : Head) → ((held e h).next ≤ (held e h).after) × ((held e h).after ≤ e)
unfolding held
lies_held e h = go (leb (after h) e) refl
  where
    behind : h.next ≤ after h
    behind = kinds (eqb h.kind BYTES || eqb h.kind TEXT)
      where
        kinds : (t : Bool) → h.next ≤ cond t (h.next + h.num) h.next
        kinds true = omega arith
        kinds false = omega arith

    go : (t : Bool) → leb (after h) e ≡ t →
        ((cond t (record { kind = h.kind; num = h.num; next = h.next; after = after h }) (nothing e)).next ≤
        (cond t (record { kind = h.kind; num = h.num; next = h.next; after = after h }) (nothing e)).after)
        × ((cond t (record { kind = h.kind; num = h.num; next = h.next; after = after h }) (nothing e)).after ≤ e)
    go true q = (behind, leb-true (after h) e q)
    go false q = (omega arith, omega arith)

lies_seen : (e : ℕ) (g : Got Head) → ((seen e g).next ≤ (seen e g).after) × ((seen e g).after ≤ e)
unfolding seen
lies_seen e (refused k p) = (omega arith, omega arith)
lies_seen e (got h) = lies_held e h

lies_at : (s : Bytes) (e at : ℕ) → ((item_at s e at).next ≤ (item_at s e at).after) × ((item_at s e at).after ≤ e)
unfolding item_at
lies_at s e at = go (ltb (length s) e)
  where
    go : (t : Bool) → ((cond t (nothing e) (seen e (head (take e s) e at))).next ≤ (cond t (nothing e) (seen e (head (take e s) e at))).after)
        × ((cond t (nothing e) (seen e (head (take e s) e at))).after ≤ e)
    go true = (omega arith, omega arith)
    go false = lies_seen e (head (take e s) e at)

pub lies_of : (s : Bytes) (e at kind : ℕ) (i : Item) → i ≡ item_of s e at kind → (i.next ≤ i.after) × (i.after ≤ e)
unfolding item_of
lies_of s e at kind i q = rw q (go (eqb (item_at s e at).kind kind))
  where
    go : (t : Bool) → ((cond t (item_at s e at) (nothing e)).next ≤ (cond t (item_at s e at) (nothing e)).after) × ((cond t (item_at s e at) (nothing e)).after ≤ e)
    go true = lies_at s e at
    go false = (omega arith, omega arith)
