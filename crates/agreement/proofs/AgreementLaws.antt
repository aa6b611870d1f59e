-- Demand 3 over the jobs, from their contracts and the theorem over the rules.
use Prim.Native.Nat.{ℕ, ◌≤◌, ◌<◌}
use mathlib.Core.Path.{◌≡◌, refl, sym, ap, ◌∙◌}
use mathlib.Core.Bool.{Bool, true, false}
use native.Mathlib.Omega.{arith}
use lib.ListN.{length, take, drop, length-append}
use lib.Dec.{leb}
use lib.Seq.{take-append_seam, drop-append_seam}
use borrow.Author.Tests.{leb-true, leb-false}
use Rattle.std.specs.Prelude.{Result, Ok, Err}
use Rattle.rules.specs.declared.answers.Fault.{Fault}
use Rattle.rules.specs.declared.answers.Group.{Group}
use Rattle.rules.specs.declared.answers.Refusal.{Refusal}
use Rattle.rules.specs.declared.answers.Refusal.TheVariants.{ShortRoom, BadProgram}
use Rattle.rules.specs.declared.controller.Controller.{Controller}
use Rattle.rules.specs.Bytes.{Bytes}
use Rattle.rules.specs.Got.{Got, refused, got}
use Rattle.rules.specs.Manifest.{Manifest}
use Rattle.rules.specs.Check.{check}
use Rattle.rules.specs.Run.{Input, Ran, run_envelope}
use Rattle.rules.specs.Program.{program_of, translate}
use Rattle.rules.specs.ProgramRun.{run_program}
use Rattle.rules_theorems.proofs.Demand3.{demand_3}
use Rattle.rules_theorems.proofs.ProgramFaults.{never97}
use Rattle.run_ending.specs.declared.Outcome.{Outcome}
use Rattle.run_ending.specs.Answer.{input_of, outcome_of, Settles}
use Rattle.translate.specs.Translate.{Translates}
use Rattle.translate.proofs.TranslatedLaws.{apart, one_fault}
use Rattle.agreement.specs.Agreement.{program_for, Agreed}

-- the bytes at the start of the room are the rule's program
pub record Written (g : Got Bytes) (n : ℕ) (room room' : Bytes) : Type 0 where
  pub bytes : Bytes
  pub is : g ≡ got bytes
  pub size : n ≡ length bytes
  pub first : take n room' ≡ bytes
  pub beyond : drop n room' ≡ drop n room
  pub fits : n ≤ length room'

pub written : (g : Got Bytes) (t : Result ℕ Fault) (room room' : Bytes) (n : ℕ) → Translates g t room room' → t ≡ Ok n → Written g n room room'
written (refused k p) t room room' n h e = apart k p n (sym h.0 ∙ e)
written (got b) t room room' n h e =
    let q : ◌≡◌ {A = Result ℕ Fault} (Ok (length b)) (Ok n) = sym h.0 ∙ e in
    let l : length b ≡ n = cc in
    record {
      bytes = b;
      is = refl;
      size = sym l;
      first = rw (← l, h.1) (take-append_seam b (drop (length b) room));
      beyond = rw (← l, h.1) (drop-append_seam b (drop (length b) room));
      fits = omega (arith, ap length h.1, length-append b (drop (length b) room));
    }

-- a refused translation has no program
refuses : (b : Bytes) (k : Refusal) (p : ℕ) (room room' : Bytes) → Translates (got b) (Err (record { refusal = k; at = p })) room room' → ⊥
refuses b k p room room' h = apart k p (length b) h.0

-- an answer that is a refusal is the rule's
refused-answer : (device : Controller) (g : Got Ran) (k : Refusal) (p : ℕ) → (outcome_of device g).answer ≡ Err (record { refusal = k; at = p }) → g ≡ refused k p
refused-answer device (refused r q) k p e =
    let f : ◌≡◌ {A = Fault} (record { refusal = r; at = q }) (record { refusal = k; at = p }) = cc in
    ap (λ (x : Fault). refused x.refusal x.at) f
refused-answer device (got r) k p e = let z : ◌≡◌ {A = ℕ} 0 1 = cc in absurd (omega arith)

-- of an accepted manifest, by the room's length: the program, or 96
data Told (s : Bytes) (group : Group) (m : Manifest) (room : ℕ) : Type 0 where
  long : length (program_for s group m) ≤ room → translate s group room ≡ got (program_for s group m) → Told s group m room
  short : room < length (program_for s group m) → translate s group room ≡ refused ShortRoom 0 → Told s group m room

told : (s : Bytes) (group : Group) (m : Manifest) (room : ℕ) → check s ≡ got m → Told s group m room
told s group m room c = by_length (leb (length (program_for s group m)) room) refl
  where
    by_length : (b : Bool) → leb (length (program_for s group m)) room ≡ b → Told s group m room
    by_length true e = let l = leb-true _ _ e in long l ((demand_3 s group m c).enough room l)
    by_length false e = let l = leb-false _ _ e in short l ((demand_3 s group m c).short room l)

-- a refused translation of an accepted manifest is 96 at place 0, in a shorter room
refused-short : (s : Bytes) (group : Group) (m : Manifest) (k : Refusal) (p : ℕ) (room room' : Bytes) → Told s group m (length room) →
    Translates (translate s group (length room)) (Err (record { refusal = k; at = p })) room room' → (k ≡ ShortRoom) × (p ≡ 0) × (length room < length (program_for s group m))
refused-short s group m k p room room' (long l e) h = absurd (refuses (program_for s group m) k p room room' (rw e at h))
refused-short s group m k p room room' (short l e) h =
    let t : Translates (refused ShortRoom 0) (Err (record { refusal = k; at = p })) room room' = rw e at h in
    let z : ◌≡◌ {A = Result ℕ Fault} (Err (record { refusal = k; at = p })) (Err (record { refusal = ShortRoom; at = 0 })) = t.0 in
    let (a, b) = one_fault k ShortRoom p 0 z in
    (a, b, l)

-- the bytes that a translation of an accepted manifest gives are its program
given-program : (s : Bytes) (group : Group) (m : Manifest) (room : ℕ) (b : Bytes) → Told s group m room → translate s group room ≡ got b → b ≡ program_for s group m
given-program s group m room b (long l e) q = let z : ◌≡◌ {A = Got Bytes} (got b) (got (program_for s group m)) = sym q ∙ e in cc
given-program s group m room b (short l e) q =
    let z : ◌≡◌ {A = Got Bytes} (got b) (refused ShortRoom 0) = sym q ∙ e in
    let y : ◌≡◌ {A = ℕ} 0 1 = cc in
    absurd (omega arith)

module _ (s : Bytes) (group : Group) (verdict : Bool) (device : Controller) (answers room room' pslots ptrace eslots eslots' etrace etrace' : Bytes) (e : Outcome)
    (ran : Settles device (run_envelope s group (input_of verdict device eslots answers etrace)) e eslots eslots' etrace etrace') where
  pub refused_agrees : (t : Result ℕ Fault) (k : Refusal) (p : ℕ) → t ≡ Err (record { refusal = k; at = p }) → Translates (translate s group (length room)) t room room' →
      (o : Outcome) → o ≡ outcome_of device (refused k p) →
      Agreed s group verdict device answers room room' pslots pslots ptrace ptrace eslots eslots' etrace etrace'
      (record { translated = Err (record { refusal = k; at = p }); program = o; envelope = e })
  refused_agrees t k p q h o is =
      record {
        translated = rw q at h;
        envelope = ran;
        program = λ n z. apart k p n z;
        no_program_lem = λ k' p' z. let (a, b) = one_fault k k' p p' z in (rw (← a, ← b) is, refl, refl);
        short = λ m c l.
            let z : Translates (refused ShortRoom 0) (Err (record { refusal = k; at = p })) room room' = rw (q, (demand_3 s group m c).short (length room) l) at h in
            (z.0, z.1);
        only-short = λ m k' p' c z.
            let (a, b) = one_fault k k' p p' z in
            rw (← a, ← b) (refused-short s group m k p room room' (told s group m (length room) c) (rw q at h));
        fixed = λ m n c z. apart k p n z;
        formed = λ m n p' c z. apart k p n z;
        agree = λ m c l i j. absurd (refuses (program_for s group m) k p room room' (rw (q, (demand_3 s group m c).enough (length room) l) at h));
      }

  pub program_agrees : (t : Result ℕ Fault) (n : ℕ) → t ≡ Ok n → Translates (translate s group (length room)) t room room' → (part : Bytes) → part ≡ take n room' →
      (r : Outcome) (pslots' ptrace' : Bytes) → Settles device (run_program part (input_of verdict device pslots answers ptrace)) r pslots pslots' ptrace ptrace' →
      Agreed s group verdict device answers room room' pslots pslots' ptrace ptrace' eslots eslots' etrace etrace'
      (record { translated = Ok n; program = r; envelope = e })
  program_agrees t n q h part is r pslots' ptrace' d =
      record {
        translated = rw q at h;
        envelope = ran;
        program = λ n' z. let a : n ≡ n' = cc in rw (← a, ← is) d;
        no_program_lem = λ k p z. apart k p n (sym z);
        short = λ m c l.
            let z : Translates (refused ShortRoom 0) (Ok n) room room' = rw (q, (demand_3 s group m c).short (length room) l) at h in
            apart ShortRoom 0 n (sym z.0);
        only-short = λ m k p c z. apart k p n (sym z);
        fixed = λ m n' c z. let a : n ≡ n' = cc in rw (← a) (stands m c);
        formed = λ m n' p c z e. never m p c e;
        agree = λ m c l i j. both m c l i j;
      }
    where
      stands : (m : Manifest) → check s ≡ got m → (n ≡ length (program_for s group m)) × (take n room' ≡ program_for s group m) × (drop n room' ≡ drop n room)
      stands m c =
          let w = written (translate s group (length room)) t room room' n h q in
          let b : w.bytes ≡ program_for s group m = given-program s group m (length room) w.bytes (told s group m (length room) c) w.is in
          (w.size ∙ ap length b, w.first ∙ b, w.beyond)

      never : (m : Manifest) (p : ℕ) → check s ≡ got m → r.answer ≡ Err (record { refusal = BadProgram; at = p }) → ⊥
      never m p c e =
          let x : Input = input_of verdict device pslots answers ptrace in
          let a : run_program part x ≡ refused BadProgram p = refused-answer device (run_program part x) BadProgram p (rw d.0 at e) in
          let b : part ≡ program_for s group m = is ∙ (stands m c).1 in
          never97 (program_for s group m) (program_of s group m) x p (demand_3 s group m c).formed (rw b at a)

      both : (m : Manifest) → check s ≡ got m → length (program_for s group m) ≤ length room → pslots ≡ eslots → ptrace ≡ etrace →
          (r ≡ e) × (pslots' ≡ eslots') × (ptrace' ≡ etrace')
      both m c l i j =
          let p : part ≡ program_for s group m = is ∙ (stands m c).1 in
          let x : Input = input_of verdict device eslots answers etrace in
          let same : run_program part (input_of verdict device pslots answers ptrace) ≡ run_envelope s group x = rw (p, i, j) ((demand_3 s group m c).same x) in
          let f : Settles device (run_envelope s group x) r eslots pslots' etrace ptrace' = rw (same, i, j) at d in
          (f.0 ∙ sym ran.0, f.1 ∙ sym ran.1, f.2 ∙ sym ran.2)
