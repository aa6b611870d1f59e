-- What is shown of the commands and sequences of any bytes. Where a code, a key, a string or a sequence is not there, a mark stands for it,
-- and the walk goes on after its container.
use Rattle.std.specs.Prelude.{ℕ, zero, suc, ◌-◌, ◌/◌, ◌≡◌, cond, [], ◌++◌, eqb, leb}
use Rattle.rules.specs.Bytes.{Bytes}
use Rattle.rules.specs.Cbor.{NUMBER, BYTES, ARRAY, MAP}
use Rattle.rules_kinds.specs.Kinds.{kind_of, is_sequence}
use Rattle.text.specs.Text.{Wrote, newline}
use Rattle.depot_show.specs.declared.walk.Put.{Put}
use Rattle.depot_items.specs.Items.{item_at, item_of}
use Rattle.depot_items.specs.Line.{mark, title_text, argument_text, alternative_text, parameter_text, margin_text}

-- a text, and the place after what it shows
abbrev pub Shown : Type 0
Shown = Bytes × ℕ

abbrev pub none : ℕ → Shown
none at = ([], at)

abbrev pub behind : Bytes → Shown → Shown
behind b x = (b ++ x.0, x.1)

-- and then what f shows from there on
abbrev pub and_then : Shown → (ℕ → Shown) → Shown
and_then x f = behind x.0 (f x.1)

-- x was written to the room from `to` on
pub record Shows (x : Shown) (to : ℕ) (room : Bytes) (r : Put) (room' : Bytes) : Type 0 where
  pub next : r.next ≡ x.1
  pub wrote : Wrote x.0 to room r.to room'

-- for a sequence that is not there
unfoldable pub stopped : ℕ → ℕ → Shown
stopped depth e = (margin_text 8 depth ++ mark ++ newline, e)

module _ (s : Bytes) where
  -- k parameters more
  unfoldable pub parameters_shown : ℕ → ℕ → ℕ → ℕ → Shown
  parameters_shown depth zero e at = none at
  parameters_shown depth (suc k) e at =
      let key = item_of s e at NUMBER in
      let v = item_at s e key.next in
      cond (leb e at) (none at)
      (behind (parameter_text s depth key.num v) (parameters_shown depth k e v.after))

  -- a sequence in a byte string; `deeper` shows a sequence
  unfoldable pub nested_shown : (ℕ → ℕ → Shown) → ℕ → ℕ → Shown
  nested_shown deeper e at =
      let b = item_of s e at BYTES in
      ((deeper b.after b.next).0, b.after)

  -- k alternatives more, of n
  unfoldable pub alternatives_shown : (ℕ → ℕ → Shown) → ℕ → ℕ → ℕ → ℕ → ℕ → Shown
  alternatives_shown deeper depth n zero e at = none at
  alternatives_shown deeper depth n (suc k) e at =
      cond (leb e at) (none at)
      (and_then (behind (alternative_text depth (n - k)) (nested_shown deeper e at)) (alternatives_shown deeper depth n k e))

  -- a code and its argument; the sequences that it holds may be `depth` deep
  unfoldable pub command_shown : (ℕ → ℕ → Shown) → ℕ → ℕ → ℕ → Shown
  command_shown deeper depth e at =
      let c = item_of s e at NUMBER in
      let i = item_at s e c.next in
      let title = title_text depth at c.num in
      let line = title ++ argument_text s i ++ newline in
      cond (is_sequence (kind_of c.num)) (behind (title ++ newline) (nested_shown deeper e c.next))
      (cond (eqb i.kind ARRAY) (behind line (alternatives_shown deeper depth i.num i.num e i.next))
      (cond (eqb i.kind MAP) (behind line (parameters_shown depth i.num e i.next))
      (line, i.after)))

  -- k commands more
  unfoldable pub commands_shown : (ℕ → ℕ → Shown) → ℕ → ℕ → ℕ → ℕ → Shown
  commands_shown deeper depth zero e at = none at
  commands_shown deeper depth (suc k) e at =
      cond (leb e at) (none at)
      (and_then (command_shown deeper depth e at) (commands_shown deeper depth k e))

  -- the sequence at `at`; it and those in it may be so deep
  unfoldable pub sequence_shown : ℕ → ℕ → ℕ → Shown
  sequence_shown zero e at = stopped 0 e
  sequence_shown (suc d) e at =
      let h = item_of s e at ARRAY in
      cond (eqb h.kind ARRAY) (commands_shown (sequence_shown d) d (h.num / 2) e h.next) (stopped d e)
