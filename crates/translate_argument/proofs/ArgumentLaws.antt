-- The bytes of parameters and arguments.
use Prim.Native.Nat.{ℕ, ◌+◌, ◌-◌, ◌≤◌}
use mathlib.Core.Path.{◌≡◌, refl}
use mathlib.Core.List.{[], ◌∷◌, ◌++◌, append-nil}
use mathlib.Core.Logic.{◌⊎◌, inl, inr}
use native.Mathlib.Omega.{arith}
use lib.ListN.{length, length-append}
use Rattle.rules.specs.Bytes.{Bytes, put, part, be4}
use Rattle.rules.specs.Limits.{limits}
use Rattle.rules.specs.Commands.{Op, vendor, class, image_match, set_index, abort, set_params, override_params, fetch, copy, run, swap, code, vendor_code}
use Rattle.rules.specs.Commands.{class_code, set_parameters_code, override_code, uri_key, source_key, digest_key, size_key}
use Rattle.rules.specs.Program.{entry, param_bytes, arg_bytes}
use Rattle.run_slots.specs.declared.params.Params.{Params}
use Rattle.run_slots.specs.Params.{optional, meaning}
use Rattle.run_commands.specs.Op.{op_of}
use Rattle.translate_argument.specs.Argument.{Filled}
use Rattle.rules.proofs.BytesLaws.{length_part}
use Rattle.translate_argument.proofs.FillLaws.{filled-then}

-- the entries of the parameters
module _ (s : Bytes) (p : Params) where
  abbrev pub uri_bytes : Bytes
  uri_bytes = entry uri_key (λ b. b) (optional p.uri (part s p.uri p.length))

  abbrev pub source_bytes : Bytes
  source_bytes = entry source_key (λ n. n ∷ []) (optional p.source (p.source - 1))

  abbrev pub digest_bytes : Bytes
  digest_bytes = entry digest_key (λ b. b) (optional p.digest (part s p.digest limits.digest))

  abbrev pub size_bytes : Bytes
  size_bytes = entry size_key be4 (optional p.size (p.size - 1))

  params_are : param_bytes (meaning s p) ≡ uri_bytes ++ (source_bytes ++ (digest_bytes ++ size_bytes))
  unfolding meaning
  params_are = rw (append-nil size_bytes)

  pub params-length : length (param_bytes (meaning s p)) ≡ length uri_bytes + length source_bytes + length digest_bytes + length size_bytes
  params-length =
      rw params_are
      (omega (arith, length-append uri_bytes (source_bytes ++ (digest_bytes ++ size_bytes)), length-append source_bytes (digest_bytes ++ size_bytes), length-append digest_bytes size_bytes))

  pub params-filled : (to : ℕ) (room : Bytes) (p₁ : ℕ) (room₁ : Bytes) (p₂ : ℕ) (room₂ : Bytes) (p₃ : ℕ) (room₃ : Bytes) (p₄ : ℕ) (room₄ : Bytes) →
      Filled uri_bytes to room p₁ room₁ → Filled source_bytes p₁ room₁ p₂ room₂ → Filled digest_bytes p₂ room₂ p₃ room₃ → Filled size_bytes p₃ room₃ p₄ room₄ →
      Filled (param_bytes (meaning s p)) to room p₄ room₄
  params-filled to room p₁ room₁ p₂ room₂ p₃ room₃ p₄ room₄ a b c d =
      rw params_are (filled-then _ _ _ _ _ _ _ _ a (filled-then _ _ _ _ _ _ _ _ b (filled-then _ _ _ _ _ _ _ _ c d)))

-- the argument by the code
module _ (s : Bytes) (c v : ℕ) (p : Params) where
  pub sixteen-bytes : (c ≡ vendor_code) ⊎ (c ≡ class_code) → arg_bytes (op_of s c v p) ≡ part s v limits.class
  unfolding op_of
  sixteen-bytes (inl k) = rw k
  sixteen-bytes (inr k) = rw k

  pub sixteen-filled : (c ≡ vendor_code) ⊎ (c ≡ class_code) → v + limits.class ≤ length s → (to : ℕ) (room room' : Bytes) → room' ≡ put room to (part s v limits.class) →
      Filled (arg_bytes (op_of s c v p)) to room (to + limits.class) room'
  sixteen-filled k l to room room' e = rw (sixteen-bytes k) (record { filled = e; next = omega (arith, length_part s v limits.class l) })

  pub params-bytes : (c ≡ set_parameters_code) ⊎ (c ≡ override_code) → arg_bytes (op_of s c v p) ≡ param_bytes (meaning s p)
  unfolding op_of
  params-bytes (inl k) = rw k
  params-bytes (inr k) = rw k

pub no_bytes : (op : Op) (c : ℕ) → code op ≡ c → (1 ≤ c → 3 ≤ c) → (19 ≤ c → 21 ≤ c) → arg_bytes op ≡ []
no_bytes (vendor b) c k i j = absurd (omega (arith, i (omega arith)))
no_bytes (class b) c k i j = absurd (omega (arith, i (omega arith)))
no_bytes image_match c k i j = refl
no_bytes (set_index n) c k i j = refl
no_bytes abort c k i j = refl
no_bytes (set_params p) c k i j = absurd (omega (arith, j (omega arith)))
no_bytes (override_params p) c k i j = absurd (omega (arith, j (omega arith)))
no_bytes fetch c k i j = refl
no_bytes copy c k i j = refl
no_bytes run c k i j = refl
no_bytes swap c k i j = refl
