-- Places rise: what check has read ends after it begins, and within its container. So the bytes left fall with each call.
use Prim.Native.Nat.{ℕ, zero, suc, ◌+◌, ◌-◌, ◌*◌, ◌≤◌, ◌<◌}
use mathlib.Core.Path.{◌≡◌}
use native.Mathlib.Omega.{arith}
use lib.Dec.{ltb}
use lib.ListN.{length}
use Rattle.rules.specs.declared.answers.Refusal.TheVariants.{NoSuchComponent}
use Rattle.rules.specs.Bytes.{Bytes}
use Rattle.rules.specs.Got.{got}
use Rattle.rules.specs.Cbor.{BYTES, ARRAY, MAP, NIL, item}
use Rattle.rules.specs.Limits.{limits}
use Rattle.rules.specs.Commands.{Form, sixteen, nil, below, alternatives, parameters, sequence}
use Rattle.rules.specs.Manifest.{Seq, Cmd, Alts, count}
use Rattle.rules.specs.Check.{Read, nothing, number, in_bytes, entries, alternatives_at, argument, sequence_at}
use Rattle.rules.proofs.GotLaws.{passed, both, split, split₂}
use Rattle.rules.proofs.CheckLaws.{item_law, number_law, in_bytes_law}
use Rattle.rules_theorems.proofs.OpLaws.{fit-unset}
use Rattle.rules_theorems.proofs.ParamLaws.{entries_law}
use Rattle.manifest_accessors.specs.Heads.{HeadAt}
use Rattle.manifest_accessors.specs.Places.{CommandAt}
use Rattle.manifest_accessors.proofs.HeadLaws.{headed-at}
use Rattle.manifest_accessors.proofs.CommandPlaces.{coded}

-- 'remaining depth and bytes fall': how deep what stands at a place may be, and the bytes from that place on
abbrev pub remaining : Bytes → ℕ → ℕ → ℕ
remaining s depth at = depth + (length s - at)

-- a sequence's commands: one less deep, and after the head
pub depth_falls : (s : Bytes) (depth at p : ℕ) → 0 < depth → at < p → remaining s (depth - 1) p < remaining s depth at
depth_falls s depth at p d l = omega arith

-- a command's sequences: as deep, and of fewer bytes
pub bytes_fall : (s : Bytes) (depth at p : ℕ) → at < length s → at < p → remaining s depth p < remaining s depth at
bytes_fall s depth at p f l = omega arith

-- the place after a head is later
pub head_later : (s : Bytes) (at : ℕ) (x : HeadAt s at) → (at < x.head.next) × (x.head.next ≤ length s)
head_later s at x = let h = headed-at s at x in (omega (arith, h.next), omega (arith, h.next, h.fits, x.fits))

abbrev Within : ℕ → ℕ → ℕ → Type 0
Within at to e = (at < to) × (to ≤ e)

module _ (s : Bytes) (deeper : ℕ → Read Seq) where
  alternatives-within : (k m e at : ℕ) (a : Alts) (to : ℕ) → alternatives_at s deeper 1 k m e at ≡ got (a, to) → Within at to e
  unfolding alternatives_at
  alternatives-within zero m e at a to q₀ =
      split₂ _ (in_bytes s (deeper m) e at) _ (a, to) q₀ λ b p qb q₁.
      let i = in_bytes_law s (deeper m) e at b p qb in
      let (_, et) = both q₁ in
      (omega (arith, i.up, i.mid), omega (arith, i.fits))
  alternatives-within (suc k) m e at a to q₀ =
      split₂ _ (in_bytes s (deeper m) e at) _ (a, to) q₀ λ b p qb q₁.
      split₂ _ (alternatives_at s deeper 1 k (m + 1 * count b) e p.to) _ (a, to) q₁ λ bs q qs q₂.
      let i = in_bytes_law s (deeper m) e at b p qb in
      let (l, f) = alternatives-within k (m + 1 * count b) e p.to bs q qs in
      let (_, et) = both q₂ in
      (omega (arith, i.up, i.mid), omega arith)

  argument-within : (n m place : ℕ) (form : Form) (e at : ℕ) (c : Cmd) (to : ℕ) → e ≤ length s → argument s deeper n 1 m place form e at ≡ got (c, to) → Within at to e
  unfolding argument
  argument-within n m place (sixteen op) e at c to f q₀ =
      split _ (item BYTES limits.class limits.class s e at) _ (c, to) q₀ λ h qh q₁.
      let i = item_law s BYTES limits.class limits.class e at h qh in
      let (_, et) = both q₁ in
      (omega (arith, i.up, i.mid), omega (arith, i.fits))
  argument-within n m place (nil op) e at c to f q₀ =
      split _ (item NIL 0 0 s e at) _ (c, to) q₀ λ h qh q₁.
      let i = item_law s NIL 0 0 e at h qh in
      let (_, et) = both q₁ in
      (omega (arith, i.up), omega (arith, i.mid, i.fits))
  argument-within n m place (below op) e at c to f q₀ =
      split₂ _ (number s e at) _ (c, to) q₀ λ k next qk q₁.
      let (_, q₂) = passed (ltb k n) NoSuchComponent at _ (c, to) q₁ in
      let (u, v, _) = number_law s e at k next qk in
      let (_, et) = both q₂ in
      (omega arith, omega arith)
  argument-within n m place alternatives e at c to f q₀ =
      split _ (item ARRAY 1 limits.alternatives s e at) _ (c, to) q₀ λ h qh q₁.
      split₂ _ (alternatives_at s deeper 1 (h.num - 1) m e h.next) _ (c, to) q₁ λ a next qa q₂.
      let i = item_law s ARRAY 1 limits.alternatives e at h qh in
      let (u, v) = alternatives-within (h.num - 1) m e h.next a next qa in
      let (_, et) = both q₂ in
      (omega (arith, i.up), omega arith)
  argument-within n m place (parameters op) e at c to f q₀ =
      split _ (item MAP 1 limits.parameters s e at) _ (c, to) q₀ λ h qh q₁.
      split₂ _ (entries s n h.num 0 nothing e h.next) _ (c, to) q₁ λ g next qg q₂.
      let i = item_law s MAP 1 limits.parameters e at h qh in
      let x = entries_law s n h.num 0 nothing e h.next g next f (omega (arith, i.mid, i.fits)) (fit-unset n) qg in
      let (_, et) = both q₂ in
      (omega (arith, i.up, x.up), omega (arith, x.fits))
  argument-within n m place sequence e at c to f q₀ =
      split₂ _ (in_bytes s (deeper m) e at) _ (c, to) q₀ λ a p qa q₁.
      let i = in_bytes_law s (deeper m) e at a p qa in
      let (_, et) = both q₁ in
      (omega (arith, i.up, i.mid), omega (arith, i.fits))

-- a command ends after it begins, and within its container
module _ (s : Bytes) (n depth events at : ℕ) (x : CommandAt s n depth events at) where
  command-within : Within at x.to x.e
  command-within =
      let c = coded s n depth events at x in
      let (u, v, _) = number_law s x.e at c.code c.from c.reads in
      let (l, f) = argument-within s (sequence_at s n x.section 1 depth) n (x.m + 1) at c.row.form x.e c.from x.cmd x.to x.fits c.argument in
      (omega arith, f)

  pub command_later : at < x.to
  command_later = command-within.0

  pub command_starts : at < length s
  command_starts = omega (arith, command-within, x.fits)
