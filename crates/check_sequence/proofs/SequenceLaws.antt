-- Sequences and commands, read by their places and counts, end where the rules of check end them.
use Rattle.std.specs.Prelude.{Ok, Err}
use Prim.Native.Nat.{ℕ, zero, suc, ◌+◌, ◌-◌, ◌*◌, ◌/◌, ◌%◌, ◌≤◌, ◌<◌}
use mathlib.Core.Path.{◌≡◌, refl, sym, ap, ◌∙◌}
use native.Mathlib.Omega.{arith}
use native.Mathlib.Nat.{add-zero, mul-add, mul-one, mul-zero}
use lib.Dec.{ltb, leb, eqb}
use borrow.Author.Tests.{eq-eqb, ne_eqb, eqb-true}
use Rattle.rules.specs.declared.answers.Refusal.TheVariants.{NotCbor, Malformed, TooDeep, UnknownCommand, NotAllowed, TooManyCommands, NoSuchComponent}
use Rattle.rules.specs.declared.answers.Fault.{Fault}
use Rattle.rules.specs.Limits.{limits}
use Rattle.rules.specs.Bytes.{Bytes, Span, span}
use Rattle.rules.specs.Got.{Got, refused, got, need, found, ◌>>=◌}
use Rattle.rules.specs.Cbor.{BYTES, ARRAY, MAP, NIL, Head, after, item}
use Rattle.rules.specs.Commands.{Form, sixteen, nil, below, alternatives, parameters, sequence, commands, row_of, is_allowed}
use Rattle.rules.specs.Tables.{kind_of}
use Rattle.rules.specs.Manifest.{Seq, then, Cmd, try, Alts, or, count, count_cmd, count_alts}
use Rattle.rules.specs.Check.{Read, nothing, number, in_bytes, entries, alternatives_at, argument, command, commands_at, sequence_at}
use Rattle.rules.proofs.GotLaws.{passed, split, split₂, both}
use Rattle.rules.proofs.CheckLaws.{item_law}
use Rattle.cbor_reading.specs.Reading.{fault, ends, reading}
use Rattle.cbor_reading.specs.declared.Reading.{Reading}
use Rattle.cbor_reading.proofs.ReadingLaws.{alike, bind_assoc, reading_went}
use Rattle.check_argument.specs.Argument.{argument_start}
use Rattle.check_command.specs.Command.{command_start}
use Rattle.check_command.proofs.CommandLaws.{start_forth}

-- k sequences, each in a byte string, whose commands weigh wt each, after commands that weigh m: what they all weigh
unfoldable pub nested : (s : Bytes) → (ℕ → Read Seq) → ℕ → ℕ → ℕ → ℕ → ℕ → Got (ℕ × ℕ)
nested s deeper wt zero m e at = got (m, at)
nested s deeper wt (suc k) m e at = do
  h ← item BYTES 0 limits.largest s e at
  (a, next) ← deeper m (after h) h.next
  _ ← need (eqb next (after h)) NotCbor next
  nested s deeper wt k (m + wt * count a) e next

-- f of what was read, and the place after it
abbrev pub counted : {A : Type 0} → (A → ℕ) → Got (A × ℕ) → Got (ℕ × ℕ)
counted f (refused r p) = refused r p
counted f (got a) = got (f a.0, a.1)

pub counted-reading : {A : Type 0} (f : A → ℕ) (x : Got (A × ℕ)) → reading f x ≡ reading (λ k. k) (counted f x)
counted-reading f (refused r p) = refl
counted-reading f (got a) = refl

counted_bind : {A B : Type 0} (f : B → ℕ) (x : Got A) (k : A → Got (B × ℕ)) → counted f (x >>= k) ≡ (x >>= λ a. counted f (k a))
counted_bind f (refused r p) k = refl
counted_bind f (got a) k = refl

-- what commands weigh, one after the other
spread : (m w a b : ℕ) → m + w * (a + b) ≡ m + w * a + w * b
spread m w a b = omega (arith, mul-add w a b)

spread_one : (m w a : ℕ) → m + w * (1 + a) ≡ m + w + w * a
spread_one m w a = omega (arith, mul-add w 1 a)

module _ (s : Bytes) (deeper : ℕ → Read Seq) (wt : ℕ) where
  -- one sequence in a byte string, and what follows it
  in_bytes_lem : {B : Type 0} (m e at : ℕ) (k : Seq × Span → Got B) (g : Seq × ℕ → Got B) → ((a : Seq) (p : Span) → k (a, p) ≡ g (a, p.to)) →
      (in_bytes s (deeper m) e at >>= k)
      ≡ (item BYTES 0 limits.largest s e at >>= λ h. deeper m (after h) h.next >>= λ r. need (eqb r.1 (after h)) NotCbor r.1 >>= λ _. g r)
  unfolding in_bytes
  in_bytes_lem m e at k g same =
      bind_assoc (item BYTES 0 limits.largest s e at) _ k ∙ alike (item BYTES 0 limits.largest s e at) _ _ λ h q.
      bind_assoc (deeper m (after h) h.next) _ k ∙ alike (deeper m (after h) h.next) _ _ λ r q'.
      bind_assoc (need (eqb r.1 (after h)) NotCbor r.1) _ k ∙ alike (need (eqb r.1 (after h)) NotCbor r.1) _ _ λ u q''.
      same r.0 (span h.next r.1)

  alternatives_law : (k m e at : ℕ) → counted (λ a. m + wt * count_alts a) (alternatives_at s deeper wt k m e at) ≡ nested s deeper wt (suc k) m e at
  unfolding alternatives_at nested count_alts
  alternatives_law zero m e at =
      counted_bind _ (in_bytes s (deeper m) e at) _ ∙ in_bytes_lem m e at _ (λ r. got (m + wt * count r.0, r.1)) (λ a p. refl)
  alternatives_law (suc k) m e at =
      counted_bind _ (in_bytes s (deeper m) e at) _ ∙ in_bytes_lem m e at _ (λ r. nested s deeper wt (suc k) (m + wt * count r.0) e r.1)
      (λ a p. move a (alternatives_at s deeper wt k (m + wt * count a) e p.to) ∙ alternatives_law k (m + wt * count a) e p.to)
    where
      move : (a : Seq) (x : Got (Alts × ℕ)) → counted (λ b. m + wt * count_alts b) (x >>= λ t. got (or a t.0, t.1)) ≡ counted (λ b. m + wt * count a + wt * count_alts b) x
      move a (refused r p) = refl
      move a (got t) = ap (λ (c : ℕ). got (c, t.1)) (spread m wt (count a) (count_alts t.0))

  -- a step that a command and its start have in common
  step : {A : Type 0} (m e : ℕ) (x : Got A) (f : A → Got (Cmd × ℕ)) (g : A → Got (ℕ × ℕ)) →
      ((a : A) → x ≡ got a → counted (λ c. m + wt * count_cmd c) (f a) ≡ (g a >>= λ b. nested s deeper wt b.0 (m + wt) e b.1)) →
      counted (λ c. m + wt * count_cmd c) (x >>= f) ≡ (◌>>=◌ {A = ℕ × ℕ} (x >>= g) λ b. nested s deeper wt b.0 (m + wt) e b.1)
  step m e (refused r p) f g h = refl
  step m e (got a) f g h = h a refl

  -- a command without sequences
  alone : (m p : ℕ) → ◌≡◌ {A = Got (ℕ × ℕ)} (got (m + wt * 1, p)) (got (m + wt, p))
  alone m p = ap (λ (c : ℕ). got (m + c, p)) (mul-one wt)

  -- an argument is its start and the sequences that it holds
  argument_law : (n m place : ℕ) (form : Form) (e at : ℕ) →
      counted (λ c. m + wt * count_cmd c) (argument s deeper n wt (m + wt) place form e at) ≡ (argument_start s n (kind_of form) e at >>= λ a. nested s deeper wt a.0 (m + wt) e a.1)
  unfolding argument argument_start nested count_cmd
  argument_law n m place (sixteen op) e at = step m e (item BYTES limits.class limits.class s e at) _ _ λ h q. alone m (after h)
  argument_law n m place (nil op) e at = step m e (item NIL 0 0 s e at) _ _ λ h q. alone m h.next
  argument_law n m place (below op) e at = step m e (number s e at) _ _ λ a q. step m e (need (ltb a.0 n) NoSuchComponent at) _ _ λ u q'. alone m a.1
  argument_law n m place alternatives e at =
      step m e (item ARRAY 1 limits.alternatives s e at) _ _ λ h q. tried h (item_law s ARRAY 1 limits.alternatives e at h q).low
    where
      plus : (x : Got (Alts × ℕ)) → counted (λ c. m + wt * count_cmd c) (x >>= λ t. got (try t.0, t.1)) ≡ counted (λ a. m + wt + wt * count_alts a) x
      plus (refused r p) = refl
      plus (got t) = ap (λ (c : ℕ). got (c, t.1)) (spread_one m wt (count_alts t.0))

      tried : (h : Head) → 1 ≤ h.num →
          counted (λ c. m + wt * count_cmd c) (alternatives_at s deeper wt (h.num - 1) (m + wt) e h.next >>= λ t. got (try t.0, t.1)) ≡ nested s deeper wt h.num (m + wt) e h.next
      tried h l =
          let k : suc (h.num - 1) ≡ h.num = omega arith in
          plus (alternatives_at s deeper wt (h.num - 1) (m + wt) e h.next) ∙ alternatives_law (h.num - 1) (m + wt) e h.next
          ∙ ap (λ (j : ℕ). nested s deeper wt j (m + wt) e h.next) k
  argument_law n m place (parameters op) e at =
      step m e (item MAP 1 limits.parameters s e at) _ _ λ h q. step m e (entries s n h.num 0 nothing e h.next) _ _ λ g q'. alone m g.1
  argument_law n m place sequence e at =
      counted_bind _ (in_bytes s (deeper (m + wt)) e at) _ ∙ in_bytes_lem (m + wt) e at _ _ (λ a p. ap (λ (c : ℕ). got (c, p.to)) (spread_one m wt (count a)))

  command_law : (n section m e at : ℕ) →
      counted (λ c. m + wt * count_cmd c) (command s deeper n section wt m e at) ≡ (command_start s n section wt m e at >>= λ a. nested s deeper wt a.0 (m + wt) e a.1)
  unfolding command command_start
  command_law n section m e at =
      step m e (number s e at) _ _ λ a q.
      step m e (found (row_of a.0 commands) UnknownCommand at) _ _ λ row q'.
      step m e (need (is_allowed section row.allowed) NotAllowed at) _ _ λ u q''.
      step m e (need (leb (m + wt) limits.commands) TooManyCommands at) _ _ λ w q'''. argument_law n m at row.form e a.1

  -- the place after sequences is not before them, and that after a command is behind its first byte
  nested_forth : (k m e at c q : ℕ) → nested s deeper wt k m e at ≡ got (c, q) → at ≤ q
  unfolding nested
  nested_forth zero m e at c q w = omega (arith, (both w).1)
  nested_forth (suc k) m e at c q w =
      split _ (item BYTES 0 limits.largest s e at) _ (c, q) w λ h qh w₁.
      split₂ _ (deeper m (after h) h.next) _ (c, q) w₁ λ a next qd w₂.
      let (t, w₃) = passed (eqb next (after h)) NotCbor next _ (c, q) w₂ in
      let i = item_law s BYTES 0 limits.largest e at h qh in
      omega (arith, i.up, i.mid, eqb-true next (after h) t, nested_forth k (m + wt * count a) e next c q w₃)

  pub command_forth : (n section m e at : ℕ) (c : Cmd) (q : ℕ) → command s deeper n section wt m e at ≡ got (c, q) → at < q
  command_forth n section m e at c q w =
      let g = sym (command_law n section m e at) ∙ ap (counted (λ c. m + wt * count_cmd c)) w in
      split₂ _ (command_start s n section wt m e at) _ (m + wt * count_cmd c, q) g λ k p qs w₁.
      omega (arith, (start_forth s n section wt m e at k p qs).1, nested_forth k (m + wt) e p (m + wt * count_cmd c) q w₁)

  -- the commands of a sequence, one after the other
  then_law : (n section k m e at : ℕ) →
      counted (λ a. m + wt * count a) (commands_at s deeper n section wt (suc k) m e at)
      ≡ (command s deeper n section wt m e at >>= λ c. counted (λ a. m + wt * count_cmd c.0 + wt * count a) (commands_at s deeper n section wt k (m + wt * count_cmd c.0) e c.1))
  unfolding commands_at count
  then_law n section k m e at =
      counted_bind _ (command s deeper n section wt m e at) _ ∙ alike (command s deeper n section wt m e at) _ _ λ c q.
      plus c.0 (commands_at s deeper n section wt k (m + wt * count_cmd c.0) e c.1)
    where
      plus : (c : Cmd) (x : Got (Seq × ℕ)) → counted (λ a. m + wt * count a) (x >>= λ t. got (then c t.0, t.1)) ≡ counted (λ a. m + wt * count_cmd c + wt * count a) x
      plus c (refused r p) = refl
      plus c (got t) = ap (λ (j : ℕ). got (j, t.1)) (spread m wt (count_cmd c) (count t.0))

-- the sequences that a command holds, one after the other
module _ (s : Bytes) (deeper : ℕ → Read Seq) (wt k m e at : ℕ) where
  pub nested-none : k ≡ 0 → ends at m ≡ reading (λ c. c) (nested s deeper wt k m e at)
  unfolding nested
  nested-none z = rw z

  module _ (j : ℕ) (h : k ≡ suc j) where
    pub nested_stop : (f : Fault) → item BYTES 0 limits.largest s e at ≡ refused f.refusal f.at → Err f ≡ reading (λ c. c) (nested s deeper wt k m e at)
    unfolding nested
    nested_stop f x = rw (h, x)

    module _ (v p : ℕ) (q : item BYTES 0 limits.largest s e at ≡ got (record { kind = BYTES; num = v; next = p })) where
      pub nested-bad : (f : Fault) → deeper m (p + v) p ≡ refused f.refusal f.at → Err f ≡ reading (λ c. c) (nested s deeper wt k m e at)
      unfolding nested
      nested-bad f x = rw (h, q, x)

      module _ (a : Seq) (next : ℕ) (w : deeper m (p + v) p ≡ got (a, next)) where
        pub nested-left_over : (next ≡ p + v → ⊥) → fault NotCbor next ≡ reading (λ c. c) (nested s deeper wt k m e at)
        unfolding nested
        nested-left_over n = rw (h, q, w, ne_eqb _ _ n)

        pub nested-more : next ≡ p + v → (c : ℕ) → c ≡ m + wt * count a → reading (λ c. c) (nested s deeper wt k m e at) ≡ reading (λ c. c) (nested s deeper wt j c e (p + v))
        unfolding nested
        nested-more n c u = rw (h, q, w, eq-eqb _ _ n, n, u)

-- a command is its start and the sequences that it holds
module _ (s : Bytes) (deeper : ℕ → Read Seq) (n section wt m e at : ℕ) where
  whole :
      reading (λ c. m + wt * count_cmd c) (command s deeper n section wt m e at)
      ≡ reading (λ k. k) (command_start s n section wt m e at >>= λ a. nested s deeper wt a.0 (m + wt) e a.1)
  whole = counted-reading (λ c. m + wt * count_cmd c) (command s deeper n section wt m e at) ∙ ap (λ (x : Got (ℕ × ℕ)). reading (λ k. k) x) (command_law s deeper wt n section m e at)

  pub command_stop : (f : Fault) → command_start s n section wt m e at ≡ refused f.refusal f.at → Err f ≡ reading (λ c. m + wt * count_cmd c) (command s deeper n section wt m e at)
  command_stop f x = (rw x) ∙ sym whole

  pub command_opened : (k p : ℕ) → command_start s n section wt m e at ≡ got (k, p) →
      reading (λ c. m + wt * count_cmd c) (command s deeper n section wt m e at) ≡ reading (λ c. c) (nested s deeper wt k (m + wt) e p)
  command_opened k p q = whole ∙ rw q

-- the commands of a sequence, one after the other
module _ (s : Bytes) (deeper : ℕ → Read Seq) (n section wt k m e at : ℕ) where
  pub commands-none : k ≡ 0 → ends at m ≡ reading (λ a. m + wt * count a) (commands_at s deeper n section wt k m e at)
  unfolding commands_at count
  commands-none z = rw (z, mul-zero, add-zero)

  module _ (j : ℕ) (h : k ≡ suc j) where
    turn :
        reading (λ a. m + wt * count a) (commands_at s deeper n section wt k m e at)
        ≡ reading (λ c. c)
        (command s deeper n section wt m e at >>= λ c. counted (λ a. m + wt * count_cmd c.0 + wt * count a) (commands_at s deeper n section wt j (m + wt * count_cmd c.0) e c.1))
    turn =
        rw h (counted-reading (λ a. m + wt * count a) (commands_at s deeper n section wt (suc j) m e at)
        ∙ ap (λ (x : Got (ℕ × ℕ)). reading (λ c. c) x) (then_law s deeper wt n section j m e at))

    pub commands_stop : (f : Fault) → command s deeper n section wt m e at ≡ refused f.refusal f.at → Err f ≡ reading (λ a. m + wt * count a) (commands_at s deeper n section wt k m e at)
    commands_stop f x = (rw x) ∙ sym turn

    pub commands-more : (c : Cmd) (p : ℕ) → command s deeper n section wt m e at ≡ got (c, p) → (v : ℕ) → v ≡ m + wt * count_cmd c →
        reading (λ a. m + wt * count a) (commands_at s deeper n section wt k m e at) ≡ reading (λ a. v + wt * count a) (commands_at s deeper n section wt j v e p)
    commands-more c p q v u = turn ∙ rw (q, u) (sym (counted-reading (λ a. m + wt * count_cmd c + wt * count a) (commands_at s deeper n section wt j (m + wt * count_cmd c) e p)))

-- a sequence is its head and its commands
module _ (s : Bytes) (n section wt d m e at : ℕ) where
  pub sequence_stop : (f : Fault) → item ARRAY 0 (limits.sequence + limits.sequence) s e at ≡ refused f.refusal f.at → Err f ≡ reading (λ a. m + wt * count a) (sequence_at s n section wt d m e at)
  unfolding sequence_at
  sequence_stop f x = go d
    where
      go : (d : ℕ) → Err f ≡ reading (λ a. m + wt * count a) (sequence_at s n section wt d m e at)
      go zero = rw x
      go (suc d) = rw x

  module _ (v p : ℕ) (q : item ARRAY 0 (limits.sequence + limits.sequence) s e at ≡ got (record { kind = ARRAY; num = v; next = p })) where
    pub sequence_odd : (v % 2 ≡ 0 → ⊥) → fault Malformed at ≡ reading (λ a. m + wt * count a) (sequence_at s n section wt d m e at)
    unfolding sequence_at
    sequence_odd o = go d
      where
        go : (d : ℕ) → fault Malformed at ≡ reading (λ a. m + wt * count a) (sequence_at s n section wt d m e at)
        go zero = rw (q, ne_eqb _ _ o)
        go (suc d) = rw (q, ne_eqb _ _ o)

    pub sequence-deep : v % 2 ≡ 0 → d ≡ 0 → fault TooDeep at ≡ reading (λ a. m + wt * count a) (sequence_at s n section wt d m e at)
    unfolding sequence_at
    sequence-deep o z = rw (z, q, eq-eqb _ _ o)

    pub sequence_body : v % 2 ≡ 0 → (j : ℕ) → d ≡ suc j →
        reading (λ a. m + wt * count a) (sequence_at s n section wt d m e at) ≡ reading (λ a. m + wt * count a) (commands_at s (sequence_at s n section wt j) n section wt (v / 2) m e p)
    unfolding sequence_at
    sequence_body o j h = rw (h, q, eq-eqb _ _ o)

-- before the first of n turns
pub all-left : (n : ℕ) → n - 0 ≡ n
all-left n = omega arith

-- what the start of a command, a sequence and a command gave where they went on
pub opened : (s : Bytes) (n section wt m e at : ℕ) (r : Reading) → Ok r ≡ reading (λ k. k) (command_start s n section wt m e at) →
    command_start s n section wt m e at ≡ got (r.value, r.at)
opened s n section wt m e at r q = let (a, y, v) = reading_went (λ k. k) (command_start s n section wt m e at) r q in y ∙ (λ j. got (sym v j, r.at))

pub read : (s : Bytes) (n section wt d m e at : ℕ) (r : Reading) → Ok r ≡ reading (λ a. m + wt * count a) (sequence_at s n section wt d m e at) →
    (a : Seq) × (sequence_at s n section wt d m e at ≡ got (a, r.at)) × (r.value ≡ m + wt * count a)
read s n section wt d m e at = reading_went (λ a. m + wt * count a) (sequence_at s n section wt d m e at)

pub done : (s : Bytes) (deeper : ℕ → Read Seq) (n section wt m e at : ℕ) (r : Reading) → Ok r ≡ reading (λ c. m + wt * count_cmd c) (command s deeper n section wt m e at) →
    (c : Cmd) × (command s deeper n section wt m e at ≡ got (c, r.at)) × (r.value ≡ m + wt * count_cmd c)
done s deeper n section wt m e at = reading_went (λ c. m + wt * count_cmd c) (command s deeper n section wt m e at)
