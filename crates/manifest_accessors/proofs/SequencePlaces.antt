-- The commands of a sequence, one after the other, as check read them.
use Prim.Native.Nat.{ℕ, zero, suc, ◌+◌, ◌-◌, ◌*◌, ◌/◌, ◌%◌, ◌≤◌, ◌<◌}
use mathlib.Core.Path.{◌≡◌, sym}
use native.Mathlib.Omega.{arith}
use lib.Dec.{eqb}
use lib.ListN.{length}
use Rattle.rules.specs.declared.answers.Refusal.TheVariants.{Malformed}
use Rattle.rules.specs.Bytes.{Bytes}
use Rattle.rules.specs.Got.{got}
use Rattle.rules.specs.Cbor.{ARRAY, Head, item}
use Rattle.rules.specs.Limits.{limits}
use Rattle.rules.specs.Manifest.{Seq, end, then, count_cmd}
use Rattle.rules.specs.Check.{command, commands_at, sequence_at}
use Rattle.rules.proofs.GotLaws.{passed, split, split₂, both}
use Rattle.manifest_accessors.specs.Heads.{HeadAt}
use Rattle.manifest_accessors.specs.Places.{CommandAt, SequenceAt}
use Rattle.manifest_accessors.proofs.HeadLaws.{item-headed}

-- k commands at `at` as check read them
pub record CommandsAt (s : Bytes) (n depth events k at : ℕ) : Type 0 where
  pub section : ℕ
  pub m : ℕ
  pub e : ℕ
  pub fits : e ≤ length s
  pub cmds : Seq
  pub to : ℕ
  pub reads : commands_at s (sequence_at s n section 1 depth) n section 1 k m e at ≡ got (cmds, to)
  pub few : events ≤ m

-- the head of a sequence
pub record Start (s : Bytes) (n depth events at : ℕ) (x : SequenceAt s n depth events at) : Type 0 where
  pub head : Head
  pub item : item ARRAY 0 (limits.sequence + limits.sequence) s x.e at ≡ got head
  pub deep : 0 < depth
  pub reads : commands_at s (sequence_at s n x.section 1 (depth - 1)) n x.section 1 (head.num / 2) x.m x.e head.next ≡ got (x.seq, x.to)

pub start : (s : Bytes) (n depth events at : ℕ) (x : SequenceAt s n depth events at) → Start s n depth events at x
unfolding sequence_at
start s n zero events at x =
    split _ (item ARRAY 0 (limits.sequence + limits.sequence) s x.e at) _ (x.seq, x.to) x.reads λ h qh q₁.
    let (_, q₂) = passed (eqb (h.num % 2) 0) Malformed at _ (x.seq, x.to) q₁ in
    let z : ◌≡◌ {A = ℕ} 0 1 = cc in
    absurd (omega arith)
start s n (suc depth) events at x =
    split _ (item ARRAY 0 (limits.sequence + limits.sequence) s x.e at) _ (x.seq, x.to) x.reads λ h qh q₁.
    let (_, q₂) = passed (eqb (h.num % 2) 0) Malformed at _ (x.seq, x.to) q₁ in
    let d : suc depth - 1 ≡ depth = omega arith in
    record { head = h; item = qh; deep = omega arith; reads = rw d q₂ }

-- once the head of a sequence is read: its commands
module _ (s : Bytes) (n depth events at : ℕ) (x : SequenceAt s n depth events at) where
  abbrev pub start-head : HeadAt s at
  start-head =
      let y = start s n depth events at x in
      item-headed s ARRAY 0 (limits.sequence + limits.sequence) x.e at y.head x.fits (omega arith) y.item

  abbrev pub start-commands : (v p : ℕ) → (v ≡ start-head.head.num) × (p ≡ start-head.head.next) → CommandsAt s n (depth - 1) events (v / 2) p
  start-commands v p q =
      record {
        section = x.section;
        m = x.m;
        e = x.e;
        fits = x.fits;
        cmds = x.seq;
        to = x.to;
        reads = rw (q.0, q.1) (start s n depth events at x).reads;
        few = x.few;
      }

-- the first of some commands, and the others
pub record Turn (s : Bytes) (n depth events k at : ℕ) (x : CommandsAt s n depth events k at) : Type 0 where
  pub first : CommandAt s n depth events at
  pub rest : CommandsAt s n depth 0 (k - 1) first.to
  pub cmds : x.cmds ≡ then first.cmd rest.cmds
  pub ends : rest.to ≡ x.to
  pub few : first.m + count_cmd first.cmd ≡ rest.m
  pub under : events ≤ first.m

pub turn : (s : Bytes) (n depth events k at : ℕ) (x : CommandsAt s n depth events k at) → 0 < k → Turn s n depth events k at x
unfolding commands_at
turn s n depth events zero at x h = absurd (omega arith)
turn s n depth events (suc k) at x h =
    split₂ _ (command s (sequence_at s n x.section 1 depth) n x.section 1 x.m x.e at) _ (x.cmds, x.to) x.reads λ c p qc q₁.
    split₂ _ (commands_at s (sequence_at s n x.section 1 depth) n x.section 1 k (x.m + 1 * count_cmd c) x.e p) _ (x.cmds, x.to) q₁ λ cs q qs q₂.
    let (ec, eq) = both q₂ in
    let d : suc k - 1 ≡ k = omega arith in
    record {
      first = record { section = x.section; m = x.m; e = x.e; fits = x.fits; cmd = c; to = p; reads = qc; few = x.few };
      rest = record { section = x.section; m = x.m + 1 * count_cmd c; e = x.e; fits = x.fits; cmds = cs; to = q; reads = rw d qs; few = omega arith };
      cmds = sym ec;
      ends = eq;
      few = omega arith;
      under = x.few;
    }

pub no_more : (s : Bytes) (n depth events k at : ℕ) (x : CommandsAt s n depth events k at) → k ≡ 0 → x.cmds ≡ end
unfolding commands_at
no_more s n depth events zero at x h = let (ec, eq) = both x.reads in sym ec
no_more s n depth events (suc k) at x h = absurd (omega arith)

pub all_read : (s : Bytes) (n depth events k at : ℕ) (x : CommandsAt s n depth events k at) → k ≡ 0 → at ≡ x.to
unfolding commands_at
all_read s n depth events zero at x h = let (ec, eq) = both x.reads in eq
all_read s n depth events (suc k) at x h = absurd (omega arith)
