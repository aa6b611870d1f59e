-- The two answers of a translation differ, and so do those of two faults.
use Prim.Native.Nat.{ℕ}
use mathlib.Core.Path.{◌≡◌, ap}
use native.Mathlib.Omega.{arith}
use Rattle.std.specs.Prelude.{Result, Ok, Err}
use Rattle.rules.specs.declared.answers.Fault.{Fault}
use Rattle.rules.specs.declared.answers.Refusal.{Refusal}

pub apart : {A : Type 0} (k : Refusal) (p n : ℕ) → ◌≡◌ {A = Result ℕ Fault} (Err (record { refusal = k; at = p })) (Ok n) → A
apart k p n e = let z : ◌≡◌ {A = ℕ} 0 1 = cc in absurd (omega arith)

pub one_fault : (k k' : Refusal) (p p' : ℕ) →
    ◌≡◌ {A = Result ℕ Fault} (Err (record { refusal = k; at = p })) (Err (record { refusal = k'; at = p' })) → (k ≡ k') × (p ≡ p')
one_fault k k' p p' e =
    let f : ◌≡◌ {A = Fault} (record { refusal = k; at = p }) (record { refusal = k'; at = p' }) = cc in
    (ap (λ (x : Fault). x.refusal) f, ap (λ (x : Fault). x.at) f)
