-- A command by its code, and the sequences that it holds, as check read them.
use Prim.Native.Nat.{ℕ, zero, suc, ◌+◌, ◌-◌, ◌*◌, ◌≤◌, ◌<◌}
use mathlib.Core.Path.{◌≡◌, refl, sym, ap, ◌∙◌}
use mathlib.Core.List.{List, [], ◌∷◌}
use mathlib.Core.Option.{some}
use native.Mathlib.Omega.{arith}
use native.Mathlib.Nat.{one-mul}
use lib.Dec.{eqb}
use lib.ListN.{length}
use borrow.Author.Tests.{eqb-true}
use Rattle.rules.specs.declared.answers.Refusal.TheVariants.{NotCbor}
use Rattle.rules.specs.Bytes.{Bytes, Span}
use Rattle.rules.specs.Got.{got}
use Rattle.rules.specs.Cbor.{BYTES, ARRAY, Head, after, item}
use Rattle.rules.specs.Limits.{limits}
use Rattle.rules.specs.Commands.{Row, row_of, commands, run_sequence_code, try_each_code}
use Rattle.rules.specs.Manifest.{Seq, sub, try, Alts, last, or, count}
use Rattle.rules.specs.Check.{Read, number, in_bytes, alternatives_at, argument, command, sequence_at}
use Rattle.rules.proofs.GotLaws.{passed, split, split₂, both}
use Rattle.rules.proofs.CheckLaws.{Item, item_law}
use Rattle.manifest_accessors.specs.Heads.{HeadAt}
use Rattle.manifest_accessors.specs.Places.{CommandAt, SequenceAt}
use Rattle.manifest_accessors.proofs.HeadLaws.{item-headed}
use Rattle.manifest_accessors.proofs.ArgumentLaws.{command-coded}

-- a command's code, and its argument
pub record Coded (s : Bytes) (n depth events at : ℕ) (x : CommandAt s n depth events at) : Type 0 where
  pub code : ℕ
  pub from : ℕ
  pub reads : number s x.e at ≡ got (code, from)
  pub row : Row
  pub listed : row_of code commands ≡ some row
  pub few : x.m < limits.commands
  pub argument : Rattle.rules.specs.Check.argument s (sequence_at s n x.section 1 depth) n 1 (x.m + 1) at row.form x.e from ≡ got (x.cmd, x.to)

pub coded : (s : Bytes) (n depth events at : ℕ) (x : CommandAt s n depth events at) → Coded s n depth events at x
unfolding command
coded s n depth events at x =
    split₂ _ (number s x.e at) _ (x.cmd, x.to) x.reads λ c p qc q₁.
    let y = command-coded s (sequence_at s n x.section 1 depth) n x.section x.m x.e at x.cmd x.to x.reads c p qc in
    record { code = c; from = p; reads = qc; row = y.row; listed = y.listed; few = y.room; argument = y.reads }

-- a sequence in a byte string
pub record InString (s : Bytes) (deeper : ℕ → Read Seq) (m e at : ℕ) (a : Seq) : Type 0 where
  pub head : Head
  pub item : item BYTES 0 limits.largest s e at ≡ got head
  pub reads : deeper m (head.next + head.num) head.next ≡ got (a, head.next + head.num)
  pub fits : head.next + head.num ≤ e

pub in_string : (s : Bytes) (deeper : ℕ → Read Seq) (m e at : ℕ) (a : Seq) (p : Span) → in_bytes s (deeper m) e at ≡ got (a, p) →
    (i : InString s deeper m e at a) × (p.to ≡ i.head.next + i.head.num)
unfolding in_bytes
in_string s deeper m e at a p q₀ =
    split _ (item BYTES 0 limits.largest s e at) _ (a, p) q₀ λ h qh q₁.
    split₂ _ (deeper m (after h) h.next) _ (a, p) q₁ λ b q qr q₂.
    let i : Item s BYTES 0 limits.largest e at h = item_law s BYTES 0 limits.largest e at h qh in
    let (t, q₃) = passed (eqb q (after h)) NotCbor q _ (a, p) q₂ in
    let (ea, ep) = both q₃ in
    let l : q ≡ after h = eqb-true _ _ t in
    let w : after h ≡ h.next + h.num = rw i.is in
    (record { head = h; item = qh; reads = rw (← ea, ← w) (qr ∙ ap (λ (z : ℕ). got (b, z)) l); fits = omega (arith, i.fits, w) }, ap (λ (z : Span). z.to) (sym ep) ∙ l ∙ w)

-- once the head of the byte string is read: its sequence
module _ (s : Bytes) (n section depth m e at : ℕ) (a : Seq) (i : InString s (sequence_at s n section 1 depth) m e at a) (f : e ≤ length s) where
  abbrev pub string-head : HeadAt s at
  string-head = item-headed s BYTES 0 limits.largest e at i.head f (omega arith) i.item

  pub string-fits : i.head.next + i.head.num ≤ length s
  string-fits = omega (arith, i.fits)

  abbrev pub string-sequence : (events from : ℕ) → events ≤ m → from ≡ i.head.next → SequenceAt s n depth events from
  string-sequence events from few o =
      record {
        section = section;
        m = m;
        e = i.head.next + i.head.num;
        fits = string-fits;
        seq = a;
        to = i.head.next + i.head.num;
        reads = rw o i.reads;
        few = few;
      }

-- of a run sequence
pub record Sub (s : Bytes) (n depth events at : ℕ) (x : CommandAt s n depth events at) (p : ℕ) : Type 0 where
  pub seq : Seq
  pub inside : InString s (sequence_at s n x.section 1 depth) (x.m + 1) x.e p seq
  pub is : x.cmd ≡ sub seq
  pub to : x.to ≡ inside.head.next + inside.head.num

pub its-sequence : (s : Bytes) (n depth events at : ℕ) (x : CommandAt s n depth events at) (c : Coded s n depth events at x) (p : ℕ) → p ≡ c.from → c.code ≡ run_sequence_code →
    Sub s n depth events at x p
unfolding argument
its-sequence s n depth events at x c p e z =
    let r : some c.row ≡ row_of run_sequence_code commands = sym c.listed ∙ ap (λ (k : ℕ). row_of k commands) z in
    let f : c.row.form ≡ Rattle.rules.specs.Commands.sequence = cc in
    split₂ _ (in_bytes s (sequence_at s n x.section 1 depth (x.m + 1)) x.e p) _ (x.cmd, x.to) (rw (f, ← e) at c.argument) λ a q qa q₁.
    let (i, t) = in_string s (sequence_at s n x.section 1 depth) (x.m + 1) x.e p a q qa in
    let (ec, et) = both q₁ in
    record { seq = a; inside = i; is = sym ec; to = sym et ∙ t }

-- of a try each
pub record Tries (s : Bytes) (n depth events at : ℕ) (x : CommandAt s n depth events at) (p : ℕ) : Type 0 where
  pub head : Head
  pub item : item ARRAY 1 limits.alternatives s x.e p ≡ got head
  pub alts : Alts
  pub reads : alternatives_at s (sequence_at s n x.section 1 depth) 1 (head.num - 1) (x.m + 1) x.e head.next ≡ got (alts, x.to)
  pub is : x.cmd ≡ try alts
  pub some_of : 1 ≤ head.num

pub its-alternatives : (s : Bytes) (n depth events at : ℕ) (x : CommandAt s n depth events at) (c : Coded s n depth events at x) (p : ℕ) → p ≡ c.from → c.code ≡ try_each_code →
    Tries s n depth events at x p
unfolding argument
its-alternatives s n depth events at x c p e z =
    let r : some c.row ≡ row_of try_each_code commands = sym c.listed ∙ ap (λ (k : ℕ). row_of k commands) z in
    let f : c.row.form ≡ Rattle.rules.specs.Commands.alternatives = cc in
    split _ (item ARRAY 1 limits.alternatives s x.e p) _ (x.cmd, x.to) (rw (f, ← e) at c.argument) λ h qh q₁.
    split₂ _ (alternatives_at s (sequence_at s n x.section 1 depth) 1 (h.num - 1) (x.m + 1) x.e h.next) _ (x.cmd, x.to) q₁ λ a q qa q₂.
    let i : Item s ARRAY 1 limits.alternatives x.e p h = item_law s ARRAY 1 limits.alternatives x.e p h qh in
    let (ec, et) = both q₂ in
    record { head = h; item = qh; alts = a; reads = rw (← et) qa; is = sym ec; some_of = i.low }

-- alternatives as a list of sequences
abbrev pub list_of : Alts → List Seq
list_of (last a) = a ∷ []
list_of (or a b) = a ∷ list_of b

abbrev pub Alternatives : (s : Bytes) (deeper : ℕ → Read Seq) (e : ℕ) → List Seq → ℕ → ℕ → ℕ → Type 0
Alternatives s deeper e [] m at to = at ≡ to
Alternatives s deeper e (a ∷ rest) m at to = (i : InString s deeper m e at a) × Alternatives s deeper e rest (m + count a) (i.head.next + i.head.num) to

pub alternatives_law : (s : Bytes) (deeper : ℕ → Read Seq) (k m e at : ℕ) (a : Alts) (to : ℕ) → alternatives_at s deeper 1 k m e at ≡ got (a, to) →
    Alternatives s deeper e (list_of a) m at to × (length (list_of a) ≡ suc k)
unfolding alternatives_at
alternatives_law s deeper zero m e at a to q₀ =
    split₂ _ (in_bytes s (deeper m) e at) _ (a, to) q₀ λ b p qb q₁.
    let (i, t) = in_string s deeper m e at b p qb in
    let (ea, et) = both q₁ in
    rw (← ea) ((i, sym t ∙ et), refl)
alternatives_law s deeper (suc k) m e at a to q₀ =
    split₂ _ (in_bytes s (deeper m) e at) _ (a, to) q₀ λ b p qb q₁.
    split₂ _ (alternatives_at s deeper 1 k (m + 1 * count b) e p.to) _ (a, to) q₁ λ rest q qs q₂.
    let (i, t) = in_string s deeper m e at b p qb in
    let (ea, et) = both q₂ in
    let (l, w) = alternatives_law s deeper k (m + count b) e (i.head.next + i.head.num) rest to (rw (← t, ← et) (rw (one-mul (count b)) at qs)) in
    rw (← ea) ((i, l), ap suc w)
