-- The core of demand 3: the records of a sequence, run, do what the sequence does.
use Prim.Native.Nat.{ℕ, suc, ◌+◌, ◌-◌, ◌≤◌, ◌<◌}
use mathlib.Core.Path.{◌≡◌, refl, sym, ap, ◌∙◌}
use mathlib.Core.List.{List, [], ◌∷◌, ◌++◌, append_assoc}
use mathlib.Core.Bool.{Bool, true, false, ◌&&◌, cond}
use mathlib.Core.Option.{Option, some, none}
use native.Mathlib.Omega.{arith}
use native.Mathlib.Numerals.{add-one}
use native.Mathlib.Nat.{add_assoc, zero-add, add-zero, add-suc, suc-add}
use lib.Dec.{T, eqb}
use lib.ListN.{length, length-append}
use borrow.Author.Tests.{ne_eqb}
use Rattle.rules.specs.declared.answers.End.{End}
use Rattle.rules.specs.declared.answers.End.TheVariants.{Finished, ConditionFailed, Started, Failed}
use Rattle.rules.specs.declared.answers.Failure.{Failure}
use Rattle.rules.specs.Commands.{Op, vendor, class, image_match, set_index, abort, set_params, override_params, fetch, copy, run, swap, component}
use Rattle.rules.specs.Manifest.{Seq, end, then, Cmd, one, sub, try, Alts, last, or}
use Rattle.rules.specs.Step.{Env, State, Out, out, step, acts, fetches, copies, swaps, unless, given}
use Rattle.rules.specs.Run.{on, run_seq, run_cmd, run_alts, run_all, index_after, coerce_after}
use Rattle.rules.specs.Program.{Rec, does, jump, target_of, size, size_cmd, size_alts, flat_seq, flat_cmd, flat_alts, flat_all}
use Rattle.rules.specs.ProgramFormat.{NONE}
use Rattle.rules.specs.ProgramRun.{exec, goto, resume}

mutual
  unfolding size flat_seq

  pub length-seq : (s : Seq) (coercible : Bool) (i : ℕ) (c : Bool) (t z n : ℕ) → length (flat_seq s coercible i c t z n) ≡ size s
  length-seq end coercible i c t z n = refl
  length-seq (then x xs) coercible i c t z n =
      rw (
        length-append,
        length-cmd x i (cond (coercible && c) z t) n,
        length-seq xs coercible (index_after x i) (coerce_after x c) t z (n + size_cmd x),
      )

  pub length-cmd : (x : Cmd) (i t n : ℕ) → length (flat_cmd x i t n) ≡ size_cmd x
  length-cmd (one p op b) i t n = refl
  length-cmd (sub s) i t n = length-seq s true i false t (n + size s) n
  length-cmd (try a) i t n = length-alts a i t (n + size_alts a) n

  pub length-alts : (a : Alts) (i t z n : ℕ) → length (flat_alts a i t z n) ≡ size_alts a
  length-alts (last s) i t z n = length-seq s false i false _ z n
  length-alts (or s a) i t z n =
      rw (length-append, length-seq s false i false (n + size s + 1) z n, length-alts a i t z (n + size s + 1)) (omega arith)

-- a command that is no condition does not fail as one
abbrev pub Sound : End → Type 0
Sound Finished = Unit {0}
Sound ConditionFailed = ⊥
Sound Started = Unit {0}
Sound (Failed n) = Unit {0}

unless_sound : (b : Bool) (f : Failure) (st : State) (o : Out) → Sound o.end → Sound (unless b f st o).end
unfolding unless
unless_sound true f st o h = h
unless_sound false f st o h = tt

given_sound : {A : Type 0} (a : Option A) (st : State) (f : A → Out) → ((x : A) → Sound (f x).end) → Sound (given a st f).end
unfolding given
given_sound none st f h = tt
given_sound (some a) st f h = h a

pub and_left : (a b : Bool) → T (a && b) → T a
and_left true b h = tt
and_left false b h = h

cond-fits : (a b : Bool) (z t m k : ℕ) → m ≤ t → (T a → z ≡ m) → k ≤ m → k ≤ cond (a && b) z t
cond-fits true true z t m k h e l = let q : z ≡ m = e tt in omega arith
cond-fits true false z t m k h e l = omega arith
cond-fits false b z t m k h e l = omega arith

module _ (env : Env) where
  resume_sound : (rest : List Rec) (m t t' : ℕ) (e : End) (st : State) → Sound e → resume env rest m t (out e st) ≡ resume env rest m t' (out e st)
  unfolding on
  resume_sound rest m t t' Finished st h = refl
  resume_sound rest m t t' ConditionFailed st h = absurd h
  resume_sound rest m t t' Started st h = refl
  resume_sound rest m t t' (Failed n) st h = refl

  -- passing over the first records
  skip : (xs ys : List Rec) (n k : ℕ) (st : State) → exec env (xs ++ ys) n (length xs + k) st ≡ exec env ys (n + length xs) k st
  unfolding exec
  skip [] ys n k st = rw (zero-add, add-zero)
  skip (x ∷ xs) ys n k st = rw (suc-add (length xs) k, add-suc, ← suc-add n (length xs)) (skip xs ys (suc n) k st)

  pub exec-does : (op : Op) (i p t n : ℕ) (rest : List Rec) (st : State) →
      exec env (does op i p t ∷ rest) n 0 st ≡ resume env rest (n + 1) t (step env op i p st)
  unfolding exec goto
  exec-does op i p t n rest st = rw add-one

  exec-jump : (z n : ℕ) (rest : List Rec) (st : State) → exec env (jump z ∷ rest) n 0 st ≡ exec env rest (n + 1) (z - (n + 1)) st
  unfolding exec
  exec-jump z n rest st = rw add-one

  -- a command with the target of its record: only a condition fails as one
  one_law : (op : Op) (i p t n : ℕ) (rest : List Rec) (st : State) →
      exec env (does op i p (target_of op t) ∷ rest) n 0 st ≡ resume env rest (n + 1) t (step env op i p st)
  unfolding step acts fetches copies swaps
  one_law op i p t n rest st = exec-does op i p (target_of op t) n rest st ∙ go op
    where
      sound : (o : Op) → Sound (step env o i p st).end → resume env rest (n + 1) NONE (step env o i p st) ≡ resume env rest (n + 1) t (step env o i p st)
      sound o h = resume_sound rest (n + 1) NONE t (step env o i p st).end (step env o i p st).state h

      go : (o : Op) → resume env rest (n + 1) (target_of o t) (step env o i p st) ≡ resume env rest (n + 1) t (step env o i p st)
      go (vendor v) = refl
      go (class v) = refl
      go image_match = refl
      go (set_index k) = sound (set_index k) tt
      go abort = sound abort tt
      go (set_params q) = sound (set_params q) tt
      go (override_params q) = sound (override_params q) tt
      go fetch = sound fetch (given_sound _ st _ λ u. unless_sound _ _ _ _ (unless_sound _ _ _ _ (unless_sound _ _ _ _ tt)))
      go copy = sound copy (given_sound _ st _ λ j. unless_sound _ _ _ _ (unless_sound _ _ _ _ tt))
      go run = sound run (unless_sound _ _ _ _ tt)
      go swap = sound swap (given_sound _ st _ λ j. unless_sound _ _ _ _ (unless_sound _ _ _ _ tt))

  -- a failed condition goes on at t, past the records f
  pass : (f rest : List Rec) (m k t : ℕ) (st : State) → length f ≡ k → m + k ≤ t →
      exec env (f ++ rest) m (t - m) st ≡ exec env rest (m + k) (t - (m + k)) st
  pass f rest m k t st len fits =
      let e : t - m ≡ length f + (t - (m + k)) = omega arith in
      rw (e, skip f rest m (t - (m + k)) st, len)

  goto_past : (f rest : List Rec) (m k t : ℕ) (st : State) → length f ≡ k → m + k ≤ t → goto env (f ++ rest) m t st ≡ goto env rest (m + k) t st
  unfolding goto
  goto_past f rest m k t st len fits =
      ap (λ (y : Out). elim (eqb t NONE) as (λ _. Out) [ true ↦ out ConditionFailed st | false ↦ y ]) (pass f rest m k t st len fits)

  goto-here : (rest : List Rec) (m : ℕ) (st : State) → m < NONE → goto env rest m m st ≡ exec env rest m 0 st
  unfolding goto
  goto-here rest m st small =
      let d : m - m ≡ 0 = omega arith in
      rw (ne_eqb m NONE (omega arith), goto) (rw d)

  -- after the first command of a sequence, which gave e and st; f are the records of the others, and g what these do
  seq-step : (b : Bool) (t z m k : ℕ) (f rest : List Rec) (g : State → Out) → length f ≡ k → m + k ≤ t → (T b → z ≡ m + k) → m + k < NONE →
      ((st : State) → exec env (f ++ rest) m 0 st ≡ resume env rest (m + k) t (g st)) → (e : End) (st : State) →
      on e st (λ st'. exec env (f ++ rest) m 0 st') (λ st'. goto env (f ++ rest) m (cond b z t) st')
      ≡ resume env rest (m + k) t (on e st g (λ st'. out (cond b Finished ConditionFailed) st'))
  unfolding on
  seq-step b t z m k f rest g len fits coercible small ih Finished st = ih st
  seq-step true t z m k f rest g len fits coercible small ih ConditionFailed st =
      rw (coercible tt, goto_past f rest m k (m + k) st len (omega arith), goto-here rest (m + k) st small)
  seq-step false t z m k f rest g len fits coercible small ih ConditionFailed st = goto_past f rest m k t st len fits
  seq-step b t z m k f rest g len fits coercible small ih Started st = refl
  seq-step b t z m k f rest g len fits coercible small ih (Failed n) st = refl

  -- after an alternative that is not the last: f are the records of the others, and g what these do
  alts-step : (t z m k : ℕ) (f rest : List Rec) (g : State → Out) → length f ≡ k → z ≡ m + 1 + k → m + 1 + k < NONE →
      ((st : State) → exec env (f ++ rest) (m + 1) 0 st ≡ resume env rest (m + 1 + k) t (g st)) → (e : End) (st : State) →
      on e st (λ st'. exec env (jump z ∷ (f ++ rest)) m 0 st') (λ st'. goto env (jump z ∷ (f ++ rest)) m (m + 1) st')
      ≡ resume env rest (m + 1 + k) t (on e st (λ st'. out Finished st') g)
  unfolding on
  alts-step t z m k f rest g len ez small ih Finished st =
      let d : m + 1 + k - (m + 1 + k) ≡ 0 = omega arith in
      rw (ez, exec-jump (m + 1 + k) m (f ++ rest) st, pass f rest (m + 1) k (m + 1 + k) st len (omega arith), d)
  alts-step t z m k f rest g len ez small ih ConditionFailed st =
      goto_past (jump z ∷ []) (f ++ rest) m 1 (m + 1) st refl (omega arith) ∙ goto-here (f ++ rest) (m + 1) st (omega arith) ∙ ih st
  alts-step t z m k f rest g len ez small ih Started st = refl
  alts-step t z m k f rest g len ez small ih (Failed n) st = refl

  mutual
    unfolding flat_seq size run_seq on

    pub seq_law : (s : Seq) (coercible : Bool) (i : ℕ) (c : Bool) (t z n : ℕ) (rest : List Rec) (st : State) →
        n + size s ≤ t → (T coercible → z ≡ n + size s) → n + size s < NONE →
        exec env (flat_seq s coercible i c t z n ++ rest) n 0 st ≡ resume env rest (n + size s) t (run_seq env s coercible i c st)
    seq_law end coercible i c t z n rest st fits h small = rw add-zero
    seq_law (then x xs) coercible i c t z n rest st fits h small =
        let f : List Rec = flat_seq xs coercible (index_after x i) (coerce_after x c) t z (n + size_cmd x) in
        let e : T coercible → z ≡ n + size_cmd x + size xs = λ q. h q ∙ sym (add_assoc n (size_cmd x) (size xs)) in
        rw (append_assoc, ← add_assoc n (size_cmd x) (size xs))
        (cmd_law x i (cond (coercible && c) z t) n (f ++ rest) st (cond-fits coercible c z t (n + size_cmd x + size xs) (n + size_cmd x) (omega arith) e (omega arith)) (omega arith)
        ∙ seq-step (coercible && c) t z (n + size_cmd x) (size xs) f rest (λ st'. run_seq env xs coercible (index_after x i) (coerce_after x c) st')
        (length-seq xs coercible (index_after x i) (coerce_after x c) t z (n + size_cmd x)) (omega arith) (λ q. e (and_left coercible c q)) (omega arith)
        (λ st'. seq_law xs coercible (index_after x i) (coerce_after x c) t z (n + size_cmd x) rest st' (omega arith) e (omega arith))
        (run_cmd env x i st).end (run_cmd env x i st).state)

    pub cmd_law : (x : Cmd) (i t n : ℕ) (rest : List Rec) (st : State) → n + size_cmd x ≤ t → n + size_cmd x < NONE →
        exec env (flat_cmd x i t n ++ rest) n 0 st ≡ resume env rest (n + size_cmd x) t (run_cmd env x i st)
    cmd_law (one p op b) i t n rest st fits small = one_law op (component op i) p t n rest st
    cmd_law (sub s) i t n rest st fits small = seq_law s true i false t (n + size s) n rest st fits (λ _. refl) small
    cmd_law (try a) i t n rest st fits small = alts_law a i t (n + size_alts a) n rest st fits refl small

    pub alts_law : (a : Alts) (i t z n : ℕ) (rest : List Rec) (st : State) → n + size_alts a ≤ t → z ≡ n + size_alts a → n + size_alts a < NONE →
        exec env (flat_alts a i t z n ++ rest) n 0 st ≡ resume env rest (n + size_alts a) t (run_alts env a i st)
    alts_law (last s) i t z n rest st fits e small = seq_law s false i false t z n rest st fits (λ q. absurd q) small
    alts_law (or s a) i t z n rest st fits e small =
        let f : List Rec = flat_alts a i t z (n + size s + 1) in
        let m : n + (size s + (1 + size_alts a)) ≡ n + size s + 1 + size_alts a = omega arith in
        rw (append_assoc, m)
        (seq_law s false i false (n + size s + 1) z n (jump z ∷ (f ++ rest)) st (omega arith) (λ q. absurd q) (omega arith)
        ∙ alts-step t z (n + size s) (size_alts a) f rest (λ st'. run_alts env a i st') (length-alts a i t z (n + size s + 1)) (omega arith) (omega arith)
        (λ st'. alts_law a i t z (n + size s + 1) rest st' (omega arith) (omega arith) (omega arith))
        (run_seq env s false i false st).end (run_seq env s false i false st).state)

  all-step : (rest : List Rec) (m : ℕ) (g : State → Out) → ((st : State) → exec env rest m 0 st ≡ g st) → (e : End) (st : State) →
      resume env rest m NONE (out e st) ≡ on e st g (λ st'. out ConditionFailed st')
  unfolding on goto
  all-step rest m g ih Finished st = ih st
  all-step rest m g ih ConditionFailed st = refl
  all-step rest m g ih Started st = refl
  all-step rest m g ih (Failed n) st = refl

  pub all_law : (ss : List Seq) (n : ℕ) (st : State) → n + length (flat_all ss n) < NONE → exec env (flat_all ss n) n 0 st ≡ run_all env ss st
  unfolding flat_all run_all exec
  all_law [] n st small = refl
  all_law (s ∷ ss) n st small =
      let f : List Rec = flat_seq s false 0 false NONE 0 n in
      let l : length f ≡ size s = length-seq s false 0 false NONE 0 n in
      let j : length (f ++ flat_all ss (n + size s)) ≡ length f + length (flat_all ss (n + size s)) = length-append f (flat_all ss (n + size s)) in
      seq_law s false 0 false NONE 0 n (flat_all ss (n + size s)) st (omega arith) (λ q. absurd q) (omega arith)
      ∙ all-step (flat_all ss (n + size s)) (n + size s) (λ st'. run_all env ss st') (λ st'. all_law ss (n + size s) st' (omega arith))
      (run_seq env s false 0 false st).end (run_seq env s false 0 false st).state
