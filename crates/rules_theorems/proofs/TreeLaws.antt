-- What holds of every sequence that check reads: its commands are good and few, and their arguments are light.
use Prim.Native.Nat.{ℕ, zero, suc, ◌+◌, ◌-◌, ◌*◌, ◌/◌, ◌%◌, ◌≤◌, ◌<◌}
use mathlib.Core.Path.{◌≡◌, refl, ap, ◌∙◌}
use mathlib.Core.Bool.{true}
use native.Mathlib.Omega.{arith}
use native.Mathlib.Nat.{mul-add}
use lib.Dec.{ltb, leb, eqb}
use lib.ListN.{length}
use borrow.Author.Tests.{ltb-true, leb-true}
use Rattle.rules.specs.declared.answers.Refusal.TheVariants.{Malformed, NoSuchComponent, NotAllowed, TooManyCommands, UnknownCommand}
use Rattle.rules.specs.Limits.{limits}
use Rattle.rules.specs.Bytes.{Bytes, part, Span}
use Rattle.rules.specs.Got.{got, found}
use Rattle.rules.specs.Cbor.{BYTES, ARRAY, MAP, NIL, after, item}
use Rattle.rules.specs.Commands.{Form, sixteen, nil, below, alternatives, parameters, sequence, Allowed, commands, row_of, is_allowed}
use Rattle.rules.specs.Manifest.{Seq, end, then, Cmd, one, sub, try, Alts, last, or, count, count_cmd, count_alts}
use Rattle.rules.specs.Check.{Read, nothing, number, in_bytes, entries, alternatives_at, argument, command, commands_at, sequence_at}
use Rattle.rules.specs.ProgramSize.{arg_size, arg_size_cmd, arg_size_alts}
use Rattle.rules.proofs.BytesLaws.{length_part}
use Rattle.rules.proofs.GotLaws.{passed, both, split, split₂, found-is}
use Rattle.rules.proofs.CheckLaws.{Item, item_law, number_law, in_bytes_law, bytes_after}
use Rattle.rules_theorems.proofs.OpLaws.{argument_growth, GoodOp, row_for, fit-unset, RowOk, row_ok}
use Rattle.rules_theorems.proofs.ParamLaws.{Entries, entries_law}

abbrev pub jumps : Alts → ℕ
jumps (last s) = 0
jumps (or s a) = suc (jumps a)

-- what check has seen to, in section `sec` of a manifest with n components
unfoldable mutual
  pub GoodSeq : Seq → ℕ → ℕ → Type 0
  GoodSeq end n sec = Unit {0}
  GoodSeq (then c s) n sec = GoodCmd c n sec × GoodSeq s n sec

  pub GoodCmd : Cmd → ℕ → ℕ → Type 0
  GoodCmd (one p op b) n sec = (p < 65536) × GoodOp n op × (is_allowed sec (row_for op).allowed ≡ true)
  GoodCmd (sub s) n sec = GoodSeq s n sec
  GoodCmd (try a) n sec = GoodAlts a n sec × (jumps a ≤ 3)

  pub GoodAlts : Alts → ℕ → ℕ → Type 0
  GoodAlts (last s) n sec = GoodSeq s n sec
  GoodAlts (or s a) n sec = GoodSeq s n sec × GoodAlts a n sec

-- a reading of something with c commands that weigh `weight` each, w bytes of arguments and the property G, after commands that weigh m
pub record Tree (weight m e at q c w : ℕ) (G : Type 0) : Type 0 where
  pub up : at ≤ q
  pub fits : q ≤ e
  pub few : m ≤ limits.commands → m + weight * c ≤ limits.commands
  pub light : w + at ≤ q + argument_growth * c
  pub good : G

module _ (s : Bytes) (n sec weight : ℕ) (small : length s < 65536) where
  abbrev pub Fine : (ℕ → Read Seq) → Type 0
  Fine read = (m e at : ℕ) (a : Seq) (q : ℕ) → e ≤ length s → at ≤ e → read m e at ≡ got (a, q) → Tree weight m e at q (count a) (arg_size a) (GoodSeq a n sec)

  module _ (deeper : ℕ → Read Seq) (ih : Fine deeper) where
    held : (m e at : ℕ) (a : Seq) (p : Span) → e ≤ length s → in_bytes s (deeper m) e at ≡ got (a, p) → Tree weight m e at p.to (count a) (arg_size a) (GoodSeq a n sec)
    held m e at a p l q₀ =
        let i = in_bytes_law s (deeper m) e at a p q₀ in
        let t = ih m p.to p.from a p.to (omega (arith, i.fits)) i.mid i.reads in
        record { up = omega (arith, i.up, t.up); fits = i.fits; few = t.few; light = omega (arith, i.up, t.light); good = t.good }

    alts_tree : (k m e at : ℕ) (a : Alts) (q : ℕ) → e ≤ length s → alternatives_at s deeper weight k m e at ≡ got (a, q) →
        Tree weight m e at q (count_alts a) (arg_size_alts a) (GoodAlts a n sec × (jumps a ≡ k))
    unfolding alternatives_at count arg_size GoodSeq
    alts_tree zero m e at a q l q₀ =
        split₂ _ (in_bytes s (deeper m) e at) _ (a, q) q₀ λ b p qr q₁.
        let t = held m e at b p l qr in
        let (ea, eq) = both q₁ in
        rw (← ea, ← eq) (record { up = t.up; fits = t.fits; few = t.few; light = t.light; good = (t.good, refl) })
    alts_tree (suc k) m e at a q l q₀ =
        split₂ _ (in_bytes s (deeper m) e at) _ (a, q) q₀ λ b p qr q₁.
        split₂ _ (alternatives_at s deeper weight k (m + weight * count b) e p.to) _ (a, q) q₁ λ bs p' qr' q₂.
        let t = held m e at b p l qr in
        let t' = alts_tree k (m + weight * count b) e p.to bs p' l qr' in
        let (ea, eq) = both q₂ in
        rw (← ea, ← eq)
        (record {
          up = omega (arith, t.up, t'.up);
          fits = t'.fits;
          few = λ h. omega (arith, t'.few (t.few h), mul-add weight (count b) (count_alts bs));
          light = omega (arith, t.light, t'.light);
          good = ((t.good, t'.good.0), ap suc t'.good.1);
        })

    arg_tree : (m place : ℕ) (form : Form) (allowed : Allowed) (e at : ℕ) (c : Cmd) (q : ℕ) → RowOk form allowed → is_allowed sec allowed ≡ true → m + weight ≤ limits.commands → place < at →
        at ≤ e → e ≤ length s → argument s deeper n weight (m + weight) place form e at ≡ got (c, q) → Tree weight m e at q (count_cmd c) (arg_size_cmd c) (GoodCmd c n sec)
    unfolding argument count arg_size GoodSeq
    arg_tree m place (sixteen op) allowed e at c q ok al room pl u l q₀ =
        split _ (item BYTES limits.class limits.class s e at) _ (c, q) q₀ λ h qh q₁.
        let i : Item s BYTES limits.class limits.class e at h = item_law s BYTES limits.class limits.class e at h qh in
        let a : after h ≡ h.next + h.num = bytes_after h i.is in
        let o = ok n (part s h.next limits.class) (length_part s h.next limits.class (omega arith)) in
        let (ea, eq) = both q₁ in
        rw (← ea)
        (record {
          up = omega arith;
          fits = omega arith;
          few = λ _. omega arith;
          light = omega (arith, o.2);
          good = (omega arith, o.0, ap (λ (x : Allowed). is_allowed sec x) o.1 ∙ al);
        })
    arg_tree m place (nil op) allowed e at c q ok al room pl u l q₀ =
        split _ (item NIL 0 0 s e at) _ (c, q) q₀ λ h qh q₁.
        let i : Item s NIL 0 0 e at h = item_law s NIL 0 0 e at h qh in
        let o = ok n in
        let (ea, eq) = both q₁ in
        rw (← ea)
        (record {
          up = omega arith;
          fits = omega arith;
          few = λ _. omega arith;
          light = omega (arith, o.2);
          good = (omega arith, o.0, ap (λ (x : Allowed). is_allowed sec x) o.1 ∙ al);
        })
    arg_tree m place (below op) allowed e at c q ok al room pl u l q₀ =
        split₂ _ (number s e at) _ (c, q) q₀ λ k p qk q₁.
        let (u₁, f₁, _) = number_law s e at k p qk in
        let (t, q₂) = passed (ltb k n) NoSuchComponent at _ (c, q) q₁ in
        let o = ok n k (ltb-true _ _ t) in
        let (ea, eq) = both q₂ in
        rw (← ea)
        (record {
          up = omega arith;
          fits = omega arith;
          few = λ _. omega arith;
          light = omega (arith, o.2);
          good = (omega arith, o.0, ap (λ (x : Allowed). is_allowed sec x) o.1 ∙ al);
        })
    arg_tree m place alternatives allowed e at c q ok al room pl u l q₀ =
        split _ (item ARRAY 1 limits.alternatives s e at) _ (c, q) q₀ λ h qh q₁.
        split₂ _ (alternatives_at s deeper weight (h.num - 1) (m + weight) e h.next) _ (c, q) q₁ λ a p qa q₂.
        let i : Item s ARRAY 1 limits.alternatives e at h = item_law s ARRAY 1 limits.alternatives e at h qh in
        let t = alts_tree (h.num - 1) (m + weight) e h.next a p l qa in
        let (ea, eq) = both q₂ in
        let j : jumps a ≡ h.num - 1 = t.good.1 in
        rw (← ea, ← eq)
        (record {
          up = omega (arith, t.up);
          fits = t.fits;
          few = λ _. omega (arith, t.few room, mul-add weight 1 (count_alts a));
          light = omega (arith, t.light);
          good = (t.good.0, omega arith);
        })
    arg_tree m place (parameters op) allowed e at c q ok al room pl u l q₀ =
        split _ (item MAP 1 limits.parameters s e at) _ (c, q) q₀ λ h qh q₁.
        split₂ _ (entries s n h.num 0 nothing e h.next) _ (c, q) q₁ λ g p qg q₂.
        let i : Item s MAP 1 limits.parameters e at h = item_law s MAP 1 limits.parameters e at h qh in
        let t : Entries s n h.num e h.next nothing g p =
        entries_law s n h.num 0 nothing e h.next g p l (omega arith) (fit-unset n) qg in
        let o = ok n g.params t.fit in
        let (ea, eq) = both q₂ in
        rw (← ea, ← eq)
        (record {
          up = omega (arith, t.up);
          fits = t.fits;
          few = λ _. omega arith;
          light = omega (arith, o.2, t.light);
          good = (omega arith, o.0, ap (λ (x : Allowed). is_allowed sec x) o.1 ∙ al);
        })
    arg_tree m place sequence allowed e at c q ok al room pl u l q₀ =
        split₂ _ (in_bytes s (deeper (m + weight)) e at) _ (c, q) q₀ λ a p qa q₁.
        let t = held (m + weight) e at a p l qa in
        let (ea, eq) = both q₁ in
        rw (← ea, ← eq)
        (record {
          up = t.up;
          fits = t.fits;
          few = λ _. omega (arith, t.few room, mul-add weight 1 (count a));
          light = omega (arith, t.light);
          good = t.good;
        })

    cmd_tree : (m e at : ℕ) (c : Cmd) (q : ℕ) → e ≤ length s → command s deeper n sec weight m e at ≡ got (c, q) → Tree weight m e at q (count_cmd c) (arg_size_cmd c) (GoodCmd c n sec)
    unfolding command
    cmd_tree m e at c q l q₀ =
        split₂ _ (number s e at) _ (c, q) q₀ λ k p qk q₁.
        split _ (found (row_of k commands) UnknownCommand at) _ (c, q) q₁ λ row qr q₂.
        let (al, q₃) = passed (is_allowed sec row.allowed) NotAllowed at _ (c, q) q₂ in
        let (room, q₄) = passed (leb (m + weight) limits.commands) TooManyCommands at _ (c, q) q₃ in
        let (u, f, _) = number_law s e at k p qk in
        let t = arg_tree m at row.form row.allowed e p c q (row_ok k row (found-is (row_of k commands) UnknownCommand at row qr)) al (leb-true _ _ room) u f l q₄ in
        record { up = omega (arith, t.up); fits = t.fits; few = t.few; light = omega (arith, t.light); good = t.good }

    cmds_tree : (k m e at : ℕ) (a : Seq) (q : ℕ) → e ≤ length s → at ≤ e → commands_at s deeper n sec weight k m e at ≡ got (a, q) →
        Tree weight m e at q (count a) (arg_size a) (GoodSeq a n sec)
    unfolding commands_at count arg_size GoodSeq
    cmds_tree zero m e at a q l u q₀ =
        let (ea, eq) = both q₀ in
        rw (← ea, ← eq) (record { up = omega arith; fits = u; few = λ h. omega arith; light = omega arith; good = tt })
    cmds_tree (suc k) m e at a q l u q₀ =
        split₂ _ (command s deeper n sec weight m e at) _ (a, q) q₀ λ c p qc q₁.
        split₂ _ (commands_at s deeper n sec weight k (m + weight * count_cmd c) e p) _ (a, q) q₁ λ cs p' qs q₂.
        let t = cmd_tree m e at c p l qc in
        let t' = cmds_tree k (m + weight * count_cmd c) e p cs p' l t.fits qs in
        let (ea, eq) = both q₂ in
        rw (← ea, ← eq)
        (record {
          up = omega (arith, t.up, t'.up);
          fits = t'.fits;
          few = λ h. omega (arith, t'.few (t.few h), mul-add weight (count_cmd c) (count cs));
          light = omega (arith, t.light, t'.light);
          good = (t.good, t'.good);
        })

  pub seq_tree : (d : ℕ) → Fine (sequence_at s n sec weight d)
  unfolding sequence_at
  seq_tree zero m e at a q l u q₀ =
      split _ (item ARRAY 0 (limits.sequence + limits.sequence) s e at) _ (a, q) q₀ λ h qh q₁.
      let (_, q₂) = passed (eqb (h.num % 2) 0) Malformed at _ (a, q) q₁ in
      let z : ◌≡◌ {A = ℕ} 0 1 = cc in absurd (omega arith)
  seq_tree (suc d) m e at a q l u q₀ =
      split _ (item ARRAY 0 (limits.sequence + limits.sequence) s e at) _ (a, q) q₀ λ h qh q₁.
      let (_, q₂) = passed (eqb (h.num % 2) 0) Malformed at _ (a, q) q₁ in
      let i : Item s ARRAY 0 (limits.sequence + limits.sequence) e at h = item_law s ARRAY 0 (limits.sequence + limits.sequence) e at h qh in
      let t = cmds_tree (sequence_at s n sec weight d) (seq_tree d) (h.num / 2) m e h.next a q l (omega arith) q₂ in
      record { up = omega (arith, t.up); fits = t.fits; few = t.few; light = omega (arith, t.light); good = t.good }
