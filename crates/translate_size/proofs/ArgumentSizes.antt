-- How many bytes the argument of a command has.
use Prim.Native.Nat.{ℕ, ◌+◌, ◌-◌, ◌≤◌, ◌<◌}
use mathlib.Core.Path.{◌≡◌, refl, sym, ap, ◌∙◌}
use mathlib.Core.Bool.{Bool, true, false, cond}
use mathlib.Core.List.{[], ◌∷◌}
use mathlib.Core.Option.{some, none}
use native.Mathlib.Omega.{arith}
use lib.Dec.{eqb}
use lib.ListN.{length}
use borrow.Author.Tests.{ne_eqb, eqb-false}
use Rattle.rules.specs.Bytes.{Bytes, part, be4}
use Rattle.rules.specs.Limits.{limits}
use Rattle.rules.specs.ProgramFormat.{entry_size, source_bytes, size_bytes}
use Rattle.rules.specs.Program.{entry, param_bytes, arg_bytes}
use Rattle.rules_theorems.proofs.OpLaws.{weight_is}
use Rattle.rules.proofs.BytesLaws.{length_part}
use Rattle.rules.specs.declared.tables.Argument.{Argument}
use Rattle.rules.specs.Commands.{row_of, vendor_code, class_code, image_match_code, set_index_code, abort_code, try_each_code, set_parameters_code, override_code}
use Rattle.rules.specs.Commands.{fetch_code, copy_code, run_code, run_sequence_code, swap_code, uri_key, source_key, digest_key, size_key}
use Rattle.rules_kinds.specs.Kinds.{kind_of}
use Rattle.run_slots.specs.Params.{optional, meaning, Fit}
use Rattle.run_commands.specs.Op.{op_of}
use Rattle.manifest_accessors.specs.declared.arguments.Args.{Args}
use Rattle.manifest_accessors.specs.Arguments.{ArgumentAt, ArgumentRead, Within}
use Rattle.translate_size.specs.Size.{parameters_size, argument_size}
use Rattle.rules_kinds.proofs.KindTests.{on}

-- a parameter of n bytes that is set
string-size : (s : Bytes) (k x n : ℕ) → (0 < x → x + n ≤ length s) → length (entry k (λ b. b) (optional x (part s x n))) ≡ cond (eqb x 0) 0 n + cond (eqb x 0) 0 entry_size
string-size s k x n f = go (eqb x 0) refl
  where
    go : (b : Bool) → eqb x 0 ≡ b → length (entry k (λ b. b) (cond b none (some (part s x n)))) ≡ cond b 0 n + cond b 0 entry_size
    go true e = refl
    go false e = let d : x ≡ 0 → ⊥ = eqb-false x 0 e in omega (arith, length_part s x n (f (omega (arith, d))))

byte_size : (k x n : ℕ) → length (entry k (λ (n : ℕ). n ∷ []) (optional x n)) ≡ cond (eqb x 0) 0 (entry_size + source_bytes)
byte_size k x n = go (eqb x 0)
  where
    go : (b : Bool) → length (entry k (λ (n : ℕ). n ∷ []) (cond b none (some n))) ≡ cond b 0 (entry_size + source_bytes)
    go true = refl
    go false = refl

word_size : (k x n : ℕ) → length (entry k be4 (optional x n)) ≡ cond (eqb x 0) 0 (entry_size + size_bytes)
word_size k x n = go (eqb x 0)
  where
    go : (b : Bool) → length (entry k be4 (cond b none (some n))) ≡ cond b 0 (entry_size + size_bytes)
    go true = refl
    go false = refl

digest-size : (x : ℕ) → cond (eqb x 0) 0 limits.digest + cond (eqb x 0) 0 entry_size ≡ cond (eqb x 0) 0 (entry_size + limits.digest)
digest-size x = go (eqb x 0)
  where
    go : (b : Bool) → cond b 0 limits.digest + cond b 0 entry_size ≡ cond b 0 (entry_size + limits.digest)
    go true = refl
    go false = refl

parameters_are : (s : Bytes) (n : ℕ) (a : Args) → Fit s n a.params → Within s a.params → length (param_bytes (meaning s a.params)) ≡ parameters_size a
unfolding meaning
parameters_are s n a f w =
    omega (
      arith,
      weight_is (meaning s a.params),
      string-size s uri_key a.params.uri a.params.length w.inside,
      byte_size source_key a.params.source (a.params.source - 1),
      string-size s digest_key a.params.digest limits.digest f.digest,
      digest-size a.params.digest,
      word_size size_key a.params.size (a.params.size - 1),
    )

module _ (s : Bytes) (c v n : ℕ) (a : Args) (f : Fit s n a.params) (w : Within s a.params) (sixteen : c < 3 → v + limits.class ≤ length s) where
  op-size : argument_size (kind_of c) a ≡ length (arg_bytes (op_of s c v a.params))
  unfolding op_of kind_of
  op-size = on c vendor_code (λ z. rw z (sym (length_part s v limits.class (sixteen (omega arith)))))
      λ d₁. on c class_code (λ z. rw z (sym (length_part s v limits.class (sixteen (omega arith)))))
      λ d₂. on c image_match_code (λ z. rw z)
      λ d₃. on c set_index_code (λ z. rw z)
      λ d₁₂. on c abort_code (λ z. rw z)
      λ d₁₄. on c try_each_code (λ z. rw z)
      λ d₁₅. on c set_parameters_code (λ z. rw z (sym (parameters_are s n a f w)))
      λ d₁₉. on c override_code (λ z. rw z (sym (parameters_are s n a f w)))
      λ d₂₀. on c fetch_code (λ z. rw z)
      λ d₂₁. on c copy_code (λ z. rw z)
      λ d₂₂. on c run_code (λ z. rw z)
      λ d₂₃. on c run_sequence_code (λ z. rw z)
      λ d₃₀. on c swap_code (λ z. rw z)
      λ d₃₂. rw (
        row_of,
        ne_eqb c vendor_code d₁,
        ne_eqb c class_code d₂,
        ne_eqb c image_match_code d₃,
        ne_eqb c set_index_code d₁₂,
        ne_eqb c abort_code d₁₄,
        ne_eqb c try_each_code d₁₅,
        ne_eqb c set_parameters_code d₁₉,
        ne_eqb c override_code d₂₀,
        ne_eqb c fetch_code d₂₁,
        ne_eqb c copy_code d₂₂,
        ne_eqb c run_code d₂₃,
        ne_eqb c run_sequence_code d₃₀,
        ne_eqb c swap_code d₃₂,
      )

pub argument_is : (s : Bytes) (c at : ℕ) (x : ArgumentAt s c at) (a : Args) → ArgumentRead s c at x a → (k : Argument) → k ≡ kind_of c → argument_size k a ≡ length (arg_bytes x.op)
argument_is s c at x a r k e =
    ap (λ (k : Argument). argument_size k a) e ∙ op-size s c a.value x.n a r.fit r.within r.sixteen ∙ ap (λ y. length (arg_bytes y)) r.op
