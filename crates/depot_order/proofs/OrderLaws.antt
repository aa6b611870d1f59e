-- Names told one after the other, and the line of a group.
use Prim.Native.Nat.{ℕ, ◌+◌, ◌-◌, ◌≤◌, ◌<◌}
use mathlib.Core.Path.{◌≡◌, refl, sym, ◌∙◌}
use mathlib.Core.Bool.{Bool, true, false, cond}
use mathlib.Core.List.{List, [], ◌∷◌, ◌++◌, append_assoc, append-nil}
use native.Mathlib.Omega.{arith}
use lib.Dec.{eqb}
use borrow.Author.Tests.{ne_eqb}
use Rattle.rules.specs.declared.answers.Group.{Group}
use Rattle.rules.specs.Commands.{COMMON, PAYLOAD_FETCH, section_no}
use Rattle.rules.specs.Run.{sections_of, each, with_common}
use Rattle.text.specs.Text.{Bytes, Wrote, newline}
use Rattle.text.proofs.TextLaws.{wrote_none, wrote_then}
use Rattle.text_names.specs.Words.{section_words}
use Rattle.depot_order.specs.declared.Told.{Told}
use Rattle.depot_order.specs.Order.{end_of, one, is_there, if_there, present, parting, names, some_after, order_text, group_text, group_line, Tells}

-- keys below that of payload fetch are common's, and the others are counted from there
pub low-number : (key : ℕ) → key < PAYLOAD_FETCH → section_no key ≡ 0
low-number key h = go (eqb key COMMON)
  where
    go : (b : Bool) → cond b 0 (key - (PAYLOAD_FETCH - 1)) ≡ 0
    go true = refl
    go false = omega arith

pub high-number : (key : ℕ) → PAYLOAD_FETCH ≤ key → section_no key ≡ key - PAYLOAD_FETCH + 1
high-number key h = rw (ne_eqb key COMMON (λ e. omega arith)) (omega arith)

some_stays : (keys : List ℕ) → some_after true keys ≡ true
unfolding some_after
some_stays [] = refl
some_stays (key ∷ keys) = refl

some-append : (some : Bool) (xs ys : List ℕ) → some_after some (xs ++ ys) ≡ some_after (some_after some xs) ys
unfolding some_after
some-append some [] ys = refl
some-append some (x ∷ xs) ys = sym (some_stays ys)

names-append : (some : Bool) (xs ys : List ℕ) → names some (xs ++ ys) ≡ names some xs ++ names (some_after some xs) ys
unfolding names some_after
names-append some [] ys = refl
names-append some (x ∷ xs) ys =
    rw (names-append true xs ys, some_stays xs) (sym (append_assoc (parting some ++ section_words x) (names true xs) (names true ys)))

pub tells_none : (told : Told) (room : Bytes) → Tells [] told room told room
unfolding names some_after
tells_none told room = record { wrote = wrote_none told.to room; some = refl }

module _ {told : Told} {room : Bytes} where
  pub tells-then : {xs ys : List ℕ} {r : Told} {room₁ : Bytes} {r₂ : Told} {room₂ : Bytes} → Tells xs told room r room₁ → Tells ys r room₁ r₂ room₂ →
      Tells (xs ++ ys) told room r₂ room₂
  tells-then {xs} {ys} f g =
      record {
        wrote = rw (names-append told.some xs ys) (wrote_then f.wrote (rw f.some at g.wrote));
        some = g.some ∙ (rw f.some (sym (some-append told.some xs ys)));
      }

  -- one name
  pub name-tells : (key : ℕ) {p : ℕ} {room₁ : Bytes} {q : ℕ} {room₂ : Bytes} → Wrote (parting told.some) told.to room p room₁ →
      Wrote (section_words key) p room₁ q room₂ → Tells (key ∷ []) told room (record { to = q; some = true }) room₂
  unfolding names some_after
  name-tells key f g = record { wrote = rw (append-nil (parting told.some ++ section_words key)) (wrote_then f g); some = refl }

each_append : (common xs ys : List ℕ) → each common (xs ++ ys) ≡ each common xs ++ each common ys
each_append common [] ys = refl
each_append common (x ∷ xs) ys = rw (each_append common xs ys) (sym (append_assoc common (x ∷ each common xs) (each common ys)))

-- the names of an order are those of the sections with common before each, and where there are none those of common
order_text_lem : (common sections : List ℕ) →
    order_text (with_common common sections) ≡ names false (each common sections) ++ cond (some_after false (each common sections)) [] (order_text common)
unfolding order_text names some_after
order_text_lem common [] = refl
order_text_lem [] (x ∷ xs) = sym (append-nil _)
order_text_lem (c ∷ cs) (x ∷ xs) = sym (append-nil _)

one-there : (places : List ℕ) (key : ℕ) (there : Bool) → there ≡ is_there places key → if_there there key ≡ one (end_of places key) key
one-there places key there q = rw q (go (eqb (end_of places key) 0))
  where
    go : (b : Bool) → if_there (cond b false true) key ≡ cond b [] (key ∷ [])
    go true = refl
    go false = refl

-- the places of a report, and whether common is there by them
module _ (places : List ℕ) {t : Bool} (common : t ≡ is_there places COMMON) where
  -- a section in its turn, and those after it
  pub turn-then : (key : ℕ) (keys : List ℕ) {there : Bool} {told : Told} {room : Bytes} {r : Told} {room₁ : Bytes} {r₂ : Told} {room₂ : Bytes} → there ≡ is_there places key →
      Tells (each (if_there t COMMON) (if_there there key)) told room r room₁ → Tells (each (if_there t COMMON) (present places keys)) r room₁ r₂ room₂ →
      Tells (each (if_there t COMMON) (present places (key ∷ keys))) told room r₂ room₂
  turn-then key keys {there} q f g = rw (← one-there places key there q, each_append (if_there t COMMON) (if_there there key) (present places keys)) (tells-then f g)

  pub line_wrote : (group : Group) {at : ℕ} {room : Bytes} {p : ℕ} {room₁ : Bytes} {r : Told} {room₂ : Bytes} {c : ℕ} {room₃ : Bytes} {q : ℕ} {room₄ : Bytes} →
      Wrote (group_text group) at room p room₁ →
      Tells (each (if_there t COMMON) (present places (sections_of group))) (record { to = p; some = false }) room₁ r room₂ →
      Wrote (cond r.some [] (order_text (if_there t COMMON))) r.to room₂ c room₃ → Wrote newline c room₃ q room₄ →
      Wrote (group_line group places) at room q room₄
  unfolding group_line
  line_wrote group f g h n =
      rw (← one-there places COMMON t common, order_text_lem (if_there t COMMON) (present places (sections_of group))) (wrote_then (wrote_then f (wrote_then g.wrote (rw g.some at h))) n)
