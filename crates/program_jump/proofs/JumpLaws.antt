-- A run that passes over records, and one at a jump.
use Prim.Native.Nat.{ℕ, zero, suc, ◌+◌, ◌-◌, ◌≤◌, ◌<◌}
use mathlib.Core.Path.{◌≡◌, sym, ap, ◌∙◌}
use mathlib.Core.List.{List, [], ◌∷◌}
use native.Mathlib.Omega.{arith}
use native.Mathlib.Numerals.{add-one}
use native.Mathlib.Nat.{add-zero, add-suc, suc-add}
use lib.ListN.{length, drop}
use lib.Seq.{drop-drop, drop-nil}
use Rattle.rules.specs.declared.answers.Group.{Group}
use Rattle.rules.specs.Bytes.{Bytes, two_at}
use Rattle.rules.specs.Program.{Rec, does, jump}
use Rattle.rules.specs.ProgramFormat.{target_from, argument_from, record_size}
use Rattle.rules.specs.ProgramRun.{exec}
use Rattle.rules.specs.ProgramTest.{non_jumps}
use Rattle.rules.specs.Step.{Env, State}
use Rattle.program_jump.specs.Jump.{RecordsAt, AdvanceJob, Advanced, JumpJob, Jumped}
use Rattle.program_jump.proofs.FirstRecord.{First, first_of}
use Rattle.program_record.proofs.ReadRecord.{Jumps}

module _ (env : Env) where
  pub exec_past : (rs : List Rec) (n k : ℕ) (st : State) → exec env rs n k st ≡ exec env (drop k rs) (n + k) 0 st
  unfolding exec
  exec_past [] n k st = rw drop-nil
  exec_past (r ∷ rs) n zero st = rw add-zero
  exec_past (r ∷ rs) n (suc k) st = rw (add-suc, ← suc-add n k) (exec_past rs (suc n) k st)

  pub exec-jump : (t n : ℕ) (rs : List Rec) (st : State) → n < t → exec env (jump t ∷ rs) n 0 st ≡ exec env (drop (t - (n + 1)) rs) t 0 st
  unfolding exec
  exec-jump t n rs st h =
      let e : suc n + (t - suc n) ≡ t = omega arith in
      rw add-one (rw e at (exec_past rs (suc n) (t - suc n) st))

pub fewer : (k : ℕ) (rs : List Rec) → non_jumps (drop k rs) ≤ non_jumps rs
fewer k [] = rw drop-nil (omega arith)
fewer zero (r ∷ rs) = omega arith
fewer (suc k) (does op i p t ∷ rs) = omega (arith, fewer k rs)
fewer (suc k) (jump t ∷ rs) = fewer k rs

module _ (p : Bytes) (g : Group) (comps total n at : ℕ) (x : RecordsAt p g comps total n at) where
  pub advance_start : Advanced p g comps total n at x n at
  advance_start = let z : n - n ≡ 0 = omega arith in record { place = x; records = rw z }

  module _ (k next : ℕ) (a : Advanced p g comps total n at x k next) where
    pub advance_done : (t : ℕ) → k ≡ t → Advanced p g comps total n at x t next
    advance_done t e = rw (← e) a

  module _ (k next : ℕ) (a : Advanced p g comps total n at x k next) (l : k < total) where
    abbrev here : First p g comps total k next a.place
    here = first_of p g comps total k next a.place l

    pub advance_room : next + record_size + two_at p (next + argument_from) ≤ length p
    advance_room = here.room

    pub advance_next : n ≤ k → Advanced p g comps total n at x (k + 1) (next + record_size + two_at p (next + argument_from))
    advance_next h =
        let e : k + 1 - n ≡ k - n + 1 = omega arith in
        let q : drop (k - n) x.records ≡ here.first ∷ here.others.records = sym a.records ∙ here.records in
        record { place = here.others; records = rw (e, ← drop-drop 1 (k - n) x.records, q) }

-- a run at a jump
module _ (p : Bytes) (at n : ℕ) (j : JumpJob p at n) where
  abbrev jumper : First p j.group j.components j.total n at j.place
  jumper = first_of p j.group j.components j.total n at j.place j.before

  pub jump-room : at + record_size ≤ length p
  jump-room = omega (arith, jumper.room)

  pub jumps : Jumps j.group j.components j.total n jumper.first (two_at p (at + target_from)) (two_at p (at + argument_from))
  jumps = jumper.kind.jumps j.stands

  module _ (target : ℕ) (et : target ≡ two_at p (at + target_from)) where
    pub jump-forward : n < target
    jump-forward = omega (arith, jumps.forward)

    abbrev pub jump_advances : AdvanceJob p (at + record_size) (n + 1) target
    jump_advances =
        let z : at + record_size + two_at p (at + argument_from) ≡ at + record_size = omega (arith, jumps.none) in
        let o = jumper.others in
        record {
          group = j.group;
          components = j.components;
          total = j.total;
          place = record { records = o.records; below = o.below; fits = omega (arith, o.fits); reads = rw z at o.reads };
          forward = omega (arith, jumps.forward);
          within = omega (arith, jumps.within);
        }

    pub jumped : (r : ℕ) → Advanced p j.group j.components j.total (n + 1) (at + record_size) jump_advances.place target r →
        Jumped p at n j (record { at = r; n = target })
    jumped r b =
        let e : j.place.records ≡ jump target ∷ jumper.others.records =
        jumper.records ∙ ap (λ (y : Rec). y ∷ jumper.others.records) (jumps.is ∙ ap jump (sym et)) in
        let m : non_jumps j.place.records ≡ non_jumps jumper.others.records = ap non_jumps e in
        let m' : non_jumps b.place.records ≡ non_jumps (drop (target - (n + 1)) jumper.others.records) = ap non_jumps b.records in
        record {
          place = b.place;
          further = jump-forward;
          few = omega (arith, fewer (target - (n + 1)) jumper.others.records);
          goes = λ env st.
              ap (λ (rs : List Rec). exec env rs n 0 st) e ∙ exec-jump env target n jumper.others.records st jump-forward
              ∙ ap (λ (rs : List Rec). exec env rs target 0 st) (sym b.records);
        }
