-- The bytes of records.
use Prim.Native.Nat.{ℕ, ◌+◌, ◌-◌, ◌≤◌, ◌<◌}
use mathlib.Core.Path.{◌≡◌, refl, sym, ◌∙◌}
use mathlib.Core.List.{List, [], ◌∷◌, ◌++◌, append-nil}
use mathlib.Core.Bool.{cond}
use native.Mathlib.Omega.{arith}
use lib.Dec.{eqb}
use lib.ListN.{length, length-append}
use Rattle.rules.specs.Bytes.{Bytes, put}
use Rattle.rules.specs.Commands as Rules
use Rattle.rules.specs.ProgramFormat.{JUMP, NONE, record_size}
use Rattle.rules.specs.Commands.{Op, code, set_index_code}
use Rattle.rules.specs.Manifest.{one}
use Rattle.rules.specs.Program.{does, jump, target_of, arg_bytes, rec_bytes, flat_cmd, flat_seq}
use Rattle.run_slots.specs.Params.{Fit}
use Rattle.run_commands.specs.Op.{op_of, IsCode}
use Rattle.manifest_accessors.specs.declared.arguments.Args.{Args}
use Rattle.manifest_accessors.specs.Arguments.{ArgumentRead}
use Rattle.rules_theorems.proofs.OpLaws.{code-small}
use Rattle.manifest_accessors.proofs.OneLaws.{one_plain, coerce-after}
use Rattle.translate_argument.specs.Argument.{Filled}
use Rattle.translate_record.specs.declared.record.WriteState.{WriteState}
use Rattle.translate_record.specs.Record.{head_bytes, written, JumpWrote, LeafJob, CommandWrote}
use Rattle.byte_buffer.proofs.PutLaws.{put-before}

-- a record is its head and its argument
head-length : (c i p t n : ℕ) → length (head_bytes c i p t n) ≡ record_size
unfolding head_bytes
head-length c i p t n = refl

command-bytes : (op : Op) (i p t : ℕ) → written (does op i p t ∷ []) ≡ head_bytes (code op) i p t (length (arg_bytes op)) ++ arg_bytes op
unfolding head_bytes written rec_bytes
command-bytes op i p t = append-nil _

jump-bytes : (t : ℕ) → written (jump t ∷ []) ≡ head_bytes JUMP 0 0 t 0
unfolding head_bytes written rec_bytes
jump-bytes t = refl

flat-one : (p : ℕ) (op : Op) (b : _) (i t n : ℕ) → flat_cmd (one p op b) i t n ≡ does op (Rules.component op i) p (target_of op t) ∷ []
unfolding flat_seq
flat-one p op b i t n = refl

pub jump-wrote : (target : ℕ) (state : WriteState) (room room' : Bytes) → room' ≡ put room state.to (head_bytes JUMP 0 0 target 0) →
    JumpWrote target state room (record { next = state.next; index = state.index; coerce = state.coerce; n = state.n + 1; to = state.to + record_size }) room'
jump-wrote target state room room' e =
    record {
      wrote = record { filled = e ∙ (rw (jump-bytes target)); to = rw (jump-bytes target, head-length JUMP 0 0 target 0); n = refl };
      next = refl;
      index = refl;
      coerce = refl;
    }

module _ (s : Bytes) (table : List ℕ) (c at : ℕ) (state : WriteState) (room : Bytes) (j : LeafJob s table c at state room) (a : Args) (r : ArgumentRead s c at j.argument a) where
  is_code : code j.argument.op ≡ c
  is_code = (one_plain s c at j.argument).0

  pub leaf-code : IsCode s c a.value a.params
  leaf-code = rw r.op is_code

  pub leaf-small : c < 256
  leaf-small = omega (arith, is_code, code-small j.argument.op)

  pub leaf-fit : Fit s 256 a.params
  leaf-fit = record { source = omega (arith, r.fit.source, j.components); digest = r.fit.digest }

  pub leaf_room : state.to + record_size + length (arg_bytes (op_of s c a.value a.params)) ≤ length room
  leaf_room = rw r.op j.enough

  module _ (i : ℕ) (e : i ≡ cond (eqb c set_index_code) a.value state.index) where
    leaf-component : i ≡ Rules.component j.argument.op state.index
    leaf-component = e ∙ sym (r.component state.index)

    pub leaf-inside : i < j.argument.n
    leaf-inside = omega (arith, leaf-component, r.inside state.index j.inside)

    pub leaf-wrote : (target t : ℕ) → t ≡ cond (Rules.condition_in (Rules.row_of c Rules.commands)) target NONE → (to : ℕ) (room₁ : Bytes) →
        Filled (arg_bytes (op_of s c a.value a.params)) (state.to + record_size) room to room₁ →
        (room₂ : Bytes) → room₂ ≡ put room₁ state.to (head_bytes c i state.next t (to - (state.to + record_size))) → (b : ℕ) → b ≡ cond (eqb a.coerce 0) state.coerce a.coerce →
        CommandWrote (one state.next j.argument.op j.argument.coerce) j.argument.to j.argument.n target state room
        (record { next = a.next; index = i; coerce = b; n = state.n + 1; to = to }) room₂
    leaf-wrote target t et to room₁ f room₂ g b eb =
        let op = j.argument.op in
        let args = arg_bytes op in
        let f' : Filled args (state.to + record_size) room to room₁ = rw r.op at f in
        let size : to - (state.to + record_size) ≡ length args = omega (arith, f'.next) in
        let target_is : t ≡ target_of op target = rw is_code et in
        let head = head_bytes (code op) (Rules.component op state.index) state.next (target_of op target) (length args) in
        let ten : length head ≡ record_size = head-length _ _ _ _ _ in
        let bytes : written (flat_cmd (one state.next op j.argument.coerce) state.index target state.n) ≡ head ++ args = rw
        (flat-one state.next op j.argument.coerce state.index target state.n) (command-bytes op _ state.next (target_of op target)) in
        let whole : put (put room (state.to + record_size) args) state.to head ≡ put room state.to (head ++ args) = rw ten at (put-before room state.to head args) in
        let same : head_bytes c i state.next t (to - (state.to + record_size)) ≡ head = rw (size, target_is, leaf-component, is_code) in
        record {
          wrote = record {
            filled = g ∙ (rw (same, f'.filled, bytes) whole);
            to = rw bytes (omega (arith, f'.next, ten, length-append head args));
            n = rw (flat-one state.next op j.argument.coerce state.index target state.n);
          };
          next = r.next;
          index = leaf-component;
          inside = leaf-inside;
          coerce = rw (eb, ← r.coerce) (coerce-after a.coerce state.coerce);
        }
