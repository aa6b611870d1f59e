-- Walks, one step of each.
use Prim.Native.Nat.{ℕ, zero, suc, ◌-◌, ◌/◌, ◌≤◌, ◌<◌}
use mathlib.Core.Path.{◌≡◌, refl}
use mathlib.Core.List.{◌++◌}
use mathlib.Core.Logic.{◌⊎◌, inl, inr}
use mathlib.Core.Bool.{true, false}
use borrow.Author.Tests.{le-leb, lt-leb, eq-eqb, ne_eqb}
use native.Mathlib.Omega.{arith}
use Rattle.rules_kinds.specs.Kinds.{kind_of, is_sequence}
use Rattle.rules.specs.Bytes.{Bytes}
use Rattle.rules.specs.Cbor.{NUMBER, BYTES, ARRAY, MAP}
use Rattle.cbor_reading.proofs.ReadingLaws.{above}
use Rattle.depot_items.specs.declared.Item.{Item}
use Rattle.depot_show.specs.declared.walk.Put.{Put}
use Rattle.depot_items.specs.Items.{item_at, item_of}
use Rattle.text.specs.Text.{newline}
use Rattle.depot_items.specs.Line.{title_text, argument_text, parameter_text, alternative_text}
use Rattle.depot_show.specs.Shown.{Shown, Shows, none, behind, and_then, stopped, parameters_shown, nested_shown, alternatives_shown, command_shown, commands_shown, sequence_shown}
use Rattle.depot_show.proofs.ShownLaws.{Rest, rest-shown}

not_none : (k : ℕ) → suc k ≤ 0 → ⊥
not_none k h = omega arith

below : (n : ℕ) → suc n - 1 ≡ n
below n = omega arith

module _ (s : Bytes) (depth : ℕ) where
  pub no_parameters : (k e at : ℕ) → (e ≤ at) ⊎ (k ≤ 0) → parameters_shown s depth k e at ≡ none at
  unfolding parameters_shown
  no_parameters zero e at h = refl
  no_parameters (suc k) e at (inl h) = rw (le-leb e at h)
  no_parameters (suc k) e at (inr h) = absurd (not_none k h)

  pub more-parameters : (k j e at : ℕ) → k ≡ suc j → at < e →
      parameters_shown s depth k e at ≡
      behind (parameter_text s depth (item_of s e at NUMBER).num (item_at s e (item_of s e at NUMBER).next))
      (parameters_shown s depth j e (item_at s e (item_of s e at NUMBER).next).after)
  unfolding parameters_shown
  more-parameters k j e at h l = rw (h, lt-leb e at l)

module _ (s : Bytes) (deeper : ℕ → ℕ → Shown) where
  pub nested_shows : (e at : ℕ) (b : Item) → b ≡ item_of s e at BYTES → {to : ℕ} {room : Bytes} {r : Put} {room' : Bytes} →
      Shows (deeper b.after b.next) to room r room' → Shows (nested_shown s deeper e at) to room (record { next = b.after; to = r.to }) room'
  unfolding nested_shown
  nested_shows e at b q h = rw (← q) (record { next = refl; wrote = h.wrote })

module _ (s : Bytes) (deeper : ℕ → ℕ → Shown) (depth : ℕ) where
  pub no_alternatives : (n k e at : ℕ) → (e ≤ at) ⊎ (k ≤ 0) → alternatives_shown s deeper depth n k e at ≡ none at
  unfolding alternatives_shown
  no_alternatives n zero e at h = refl
  no_alternatives n (suc k) e at (inl h) = rw (le-leb e at h)
  no_alternatives n (suc k) e at (inr h) = absurd (not_none k h)

  more-alternatives : (n k j e at : ℕ) → k ≡ suc j → at < e →
      alternatives_shown s deeper depth n k e at ≡
      and_then (behind (alternative_text depth (n - j)) (nested_shown s deeper e at)) (alternatives_shown s deeper depth n j e)
  unfolding alternatives_shown
  more-alternatives n k j e at h l = rw (h, lt-leb e at l)

  pub alternatives-on : (n k j e at : ℕ) → k ≡ suc j → at < e → {whole : Shown} {to : ℕ} {room : Bytes} {p : ℕ} {room₁ : Bytes} {r : Put} {room₂ : Bytes} →
      Rest whole to room (alternatives_shown s deeper depth n k e at) p room₁ →
      Shows (behind (alternative_text depth (n - j)) (nested_shown s deeper e at)) p room₁ r room₂ →
      Rest whole to room (alternatives_shown s deeper depth n j e r.next) r.to room₂
  alternatives-on n k j e at h l y x = rest-shown (alternatives_shown s deeper depth n j e) (rw (more-alternatives n k j e at h l) at y) x

  pub no_commands : (k e at : ℕ) → (e ≤ at) ⊎ (k ≤ 0) → commands_shown s deeper depth k e at ≡ none at
  unfolding commands_shown
  no_commands zero e at h = refl
  no_commands (suc k) e at (inl h) = rw (le-leb e at h)
  no_commands (suc k) e at (inr h) = absurd (not_none k h)

  more-commands : (k j e at : ℕ) → k ≡ suc j → at < e →
      commands_shown s deeper depth k e at ≡ and_then (command_shown s deeper depth e at) (commands_shown s deeper depth j e)
  unfolding commands_shown
  more-commands k j e at h l = rw (h, lt-leb e at l)

  pub commands-on : (k j e at : ℕ) → k ≡ suc j → at < e → {whole : Shown} {to : ℕ} {room : Bytes} {p : ℕ} {room₁ : Bytes} {r : Put} {room₂ : Bytes} →
      Rest whole to room (commands_shown s deeper depth k e at) p room₁ → Shows (command_shown s deeper depth e at) p room₁ r room₂ →
      Rest whole to room (commands_shown s deeper depth j e r.next) r.to room₂
  commands-on k j e at h l y x = rest-shown (commands_shown s deeper depth j e) (rw (more-commands k j e at h l) at y) x

  -- a command, by its code and its argument
  module _ (e at : ℕ) (c : Item) (q : c ≡ item_of s e at NUMBER) where
    pub command-nested : is_sequence (kind_of c.num) ≡ true → command_shown s deeper depth e at ≡ behind (title_text depth at c.num ++ newline) (nested_shown s deeper e c.next)
    unfolding command_shown
    command-nested h = rw (← q, h)

    module _ (i : Item) (p : i ≡ item_at s e c.next) (n : is_sequence (kind_of c.num) ≡ false) where
      abbrev line : Bytes
      line = title_text depth at c.num ++ argument_text s i ++ newline

      pub command-alternatives : i.kind ≡ ARRAY →
          command_shown s deeper depth e at ≡ behind line (alternatives_shown s deeper depth i.num i.num e i.next)
      unfolding command_shown
      command-alternatives h = rw (← q, ← p, n, eq-eqb _ _ h)

      pub command-parameters : (i.kind ≡ ARRAY → ⊥) → i.kind ≡ MAP →
          command_shown s deeper depth e at ≡ behind line (parameters_shown s depth i.num e i.next)
      unfolding command_shown
      command-parameters k h = rw (← q, ← p, n, ne_eqb _ _ k, eq-eqb _ _ h)

      pub command-plain : (i.kind ≡ ARRAY → ⊥) → (i.kind ≡ MAP → ⊥) → command_shown s deeper depth e at ≡ (line, i.after)
      unfolding command_shown
      command-plain k h = rw (← q, ← p, n, ne_eqb _ _ k, ne_eqb _ _ h)

module _ (s : Bytes) (depth e at : ℕ) where
  pub sequence-none : depth ≡ 0 → sequence_shown s depth e at ≡ stopped 0 e
  unfolding sequence_shown
  sequence-none z = rw z

  module _ (z : depth ≡ 0 → ⊥) (h : Item) (q : h ≡ item_of s e at ARRAY) where
    pub sequence-stopped : (h.kind ≡ ARRAY → ⊥) → sequence_shown s depth e at ≡ stopped (depth - 1) e
    unfolding sequence_shown
    sequence-stopped k = rw (above depth z, ← q, ne_eqb _ _ k, below (depth - 1))

    pub sequence-commands : h.kind ≡ ARRAY →
        sequence_shown s depth e at ≡ commands_shown s (sequence_shown s (depth - 1)) (depth - 1) (h.num / 2) e h.next
    unfolding sequence_shown
    sequence-commands k = rw (above depth z, ← q, eq-eqb _ _ k, below (depth - 1))
