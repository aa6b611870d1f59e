-- What check has read of a sequence does not depend on what stood before it, nor on what its commands weigh: read again after commands that
-- weigh m', with commands that weigh w' each, it is the same as long as the sum stays within the limit (02, T-01: common, repeated).
use Prim.Native.Nat.{ℕ, zero, suc, ◌+◌, ◌-◌, ◌*◌, ◌/◌, ◌%◌, ◌≤◌}
use mathlib.Core.Path.{◌≡◌}
use native.Mathlib.Omega.{arith}
use native.Mathlib.Nat.{mul-add, mul-le-mul_left}
use lib.Dec.{leb, eqb}
use borrow.Author.Tests.{le-leb}
use Rattle.rules.specs.declared.answers.Refusal.TheVariants.{Malformed, NotAllowed, NotCbor, TooManyCommands, UnknownCommand}
use Rattle.rules.specs.Limits.{limits}
use Rattle.rules.specs.Bytes.{Bytes, Span}
use Rattle.rules.specs.Got.{got, found}
use Rattle.rules.specs.Cbor.{BYTES, ARRAY, after, item}
use Rattle.rules.specs.Commands.{Form, sixteen, nil, below, alternatives, parameters, sequence, commands, row_of, is_allowed}
use Rattle.rules.specs.Manifest.{Seq, Cmd, one, sub, try, Alts, count, count_cmd, count_alts}
use Rattle.rules.specs.Check.{Read, number, in_bytes, alternatives_at, argument, command, commands_at, sequence_at}
use Rattle.rules.proofs.GotLaws.{passed, both, split, split₂}

some-command : (c : Cmd) → 1 ≤ count_cmd c
unfolding count
some-command (one p op b) = omega arith
some-command (sub s) = omega arith
some-command (try a) = omega arith

module _ (s : Bytes) (n sec w w' : ℕ) where
  abbrev pub Again : (ℕ → Read Seq) → (ℕ → Read Seq) → Type 0
  Again read read' =
      (m m' e at : ℕ) (a : Seq) (q : ℕ) → m' + w' * count a ≤ limits.commands → read m e at ≡ got (a, q) → read' m' e at ≡ got (a, q)

  module _ (deeper deeper' : ℕ → Read Seq) (ih : Again deeper deeper') where
    held : (m m' e at : ℕ) (a : Seq) (p : Span) → m' + w' * count a ≤ limits.commands → in_bytes s (deeper m) e at ≡ got (a, p) →
        in_bytes s (deeper' m') e at ≡ got (a, p)
    unfolding in_bytes
    held m m' e at a p room q₀ =
        split _ (item BYTES 0 limits.largest s e at) _ (a, p) q₀ λ h qh q₁.
        split₂ _ (deeper m (after h) h.next) _ (a, p) q₁ λ b next qr q₂.
        let (t, q₃) = passed (eqb next (after h)) NotCbor next _ (a, p) q₂ in
        let (ea, _) = both q₃ in
        rw (qh, ih m m' (after h) h.next b next (rw ea room) qr, t) q₃

    alts : (k m m' e at : ℕ) (a : Alts) (q : ℕ) → m' + w' * count_alts a ≤ limits.commands → alternatives_at s deeper w k m e at ≡ got (a, q) →
        alternatives_at s deeper' w' k m' e at ≡ got (a, q)
    unfolding alternatives_at count
    alts zero m m' e at a q room q₀ =
        split₂ _ (in_bytes s (deeper m) e at) _ (a, q) q₀ λ b p qr q₁.
        let (ea, _) = both q₁ in
        rw (held m m' e at b p (rw (← ea) at room) qr) q₁
    alts (suc k) m m' e at a q room q₀ =
        split₂ _ (in_bytes s (deeper m) e at) _ (a, q) q₀ λ b p qr q₁.
        split₂ _ (alternatives_at s deeper w k (m + w * count b) e p.to) _ (a, q) q₁ λ bs p' qr' q₂.
        let (ea, _) = both q₂ in
        let r : m' + w' * (count b + count_alts bs) ≤ limits.commands = rw (← ea) at room in
        let d : w' * (count b + count_alts bs) ≡ w' * count b + w' * count_alts bs = mul-add w' (count b) (count_alts bs) in
        rw (held m m' e at b p (omega arith) qr, alts k (m + w * count b) (m' + w' * count b) e p.to bs p' (omega arith) qr') q₂

    arg : (m m' place : ℕ) (form : Form) (e at : ℕ) (c : Cmd) (q : ℕ) → m' + w' * count_cmd c ≤ limits.commands →
        argument s deeper n w (m + w) place form e at ≡ got (c, q) → argument s deeper' n w' (m' + w') place form e at ≡ got (c, q)
    unfolding argument count
    arg m m' place (sixteen op) e at c q room q₀ = q₀
    arg m m' place (nil op) e at c q room q₀ = q₀
    arg m m' place (below op) e at c q room q₀ = q₀
    arg m m' place alternatives e at c q room q₀ =
        split _ (item ARRAY 1 limits.alternatives s e at) _ (c, q) q₀ λ h qh q₁.
        split₂ _ (alternatives_at s deeper w (h.num - 1) (m + w) e h.next) _ (c, q) q₁ λ a p qa q₂.
        let (ec, _) = both q₂ in
        let r : m' + w' * (1 + count_alts a) ≤ limits.commands = rw (← ec) at room in
        rw (qh, alts (h.num - 1) (m + w) (m' + w') e h.next a p (omega (arith, mul-add w' 1 (count_alts a))) qa) q₂
    arg m m' place (parameters op) e at c q room q₀ = q₀
    arg m m' place sequence e at c q room q₀ =
        split₂ _ (in_bytes s (deeper (m + w)) e at) _ (c, q) q₀ λ a p qa q₁.
        let (ec, _) = both q₁ in
        let r : m' + w' * (1 + count a) ≤ limits.commands = rw (← ec) at room in
        rw (held (m + w) (m' + w') e at a p (omega (arith, mul-add w' 1 (count a))) qa) q₁

    cmd : (m m' e at : ℕ) (c : Cmd) (q : ℕ) → m' + w' * count_cmd c ≤ limits.commands → command s deeper n sec w m e at ≡ got (c, q) →
        command s deeper' n sec w' m' e at ≡ got (c, q)
    unfolding command
    cmd m m' e at c q room q₀ =
        split₂ _ (number s e at) _ (c, q) q₀ λ k p qk q₁.
        split _ (found (row_of k commands) UnknownCommand at) _ (c, q) q₁ λ row qr q₂.
        let (al, q₃) = passed (is_allowed sec row.allowed) NotAllowed at _ (c, q) q₂ in
        let (_, q₄) = passed (leb (m + w) limits.commands) TooManyCommands at _ (c, q) q₃ in
        let l : m' + w' ≤ limits.commands = omega (arith, mul-le-mul_left w' (some-command c)) in
        rw (qk, qr, al, le-leb _ _ l) (arg m m' at row.form e p c q room q₄)

    cmds : (k m m' e at : ℕ) (a : Seq) (q : ℕ) → m' + w' * count a ≤ limits.commands → commands_at s deeper n sec w k m e at ≡ got (a, q) →
        commands_at s deeper' n sec w' k m' e at ≡ got (a, q)
    unfolding commands_at count
    cmds zero m m' e at a q room q₀ = q₀
    cmds (suc k) m m' e at a q room q₀ =
        split₂ _ (command s deeper n sec w m e at) _ (a, q) q₀ λ c p qc q₁.
        split₂ _ (commands_at s deeper n sec w k (m + w * count_cmd c) e p) _ (a, q) q₁ λ cs p' qs q₂.
        let (ea, _) = both q₂ in
        let r : m' + w' * (count_cmd c + count cs) ≤ limits.commands = rw (← ea) at room in
        let d : w' * (count_cmd c + count cs) ≡ w' * count_cmd c + w' * count cs = mul-add w' (count_cmd c) (count cs) in
        rw (cmd m m' e at c p (omega arith) qc, cmds k (m + w * count_cmd c) (m' + w' * count_cmd c) e p cs p' (omega arith) qs) q₂

  pub reread : (d : ℕ) → Again (sequence_at s n sec w d) (sequence_at s n sec w' d)
  unfolding sequence_at
  reread zero m m' e at a q room q₀ =
      split _ (item ARRAY 0 (limits.sequence + limits.sequence) s e at) _ (a, q) q₀ λ h qh q₁.
      let (_, q₂) = passed (eqb (h.num % 2) 0) Malformed at _ (a, q) q₁ in
      let z : ◌≡◌ {A = ℕ} 0 1 = cc in absurd (omega arith)
  reread (suc d) m m' e at a q room q₀ =
      split _ (item ARRAY 0 (limits.sequence + limits.sequence) s e at) _ (a, q) q₀ λ h qh q₁.
      let (t, q₂) = passed (eqb (h.num % 2) 0) Malformed at _ (a, q) q₁ in
      rw (qh, t) (cmds (sequence_at s n sec w d) (sequence_at s n sec w' d) (reread d) (h.num / 2) m m' e h.next a q room q₂)
