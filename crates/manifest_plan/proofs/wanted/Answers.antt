use Prim.Native.Nat.{ℕ, zero, suc, ◌<◌}
use mathlib.Core.Path.{◌≡◌, refl}
use mathlib.Core.Bool.{false, cond}
use native.Mathlib.Omega.{arith}
use lib.Dec.{ltb, leb, eqb}
use borrow.Author.Tests.{eq-eqb, ne_eqb}
use Rattle.rules.specs.declared.answers.Group.{Group}
use Rattle.rules.specs.declared.answers.Group.TheVariants.{Install, Boot}
use Rattle.rules.specs.Commands.{among, section_key}
use Rattle.rules.specs.Limits.{section_count}
use Rattle.rules.specs.Run.{sections_of}
use Rattle.manifest_plan.proofs.wanted.Goals as goal

in-install : (k : ℕ) → k < section_count → (k ≡ 0 → ⊥) → ltb k 3 ≡ among (section_key k) (sections_of Install)
in-install zero h d = absurd (d refl)
in-install (suc zero) h d = refl
in-install (suc (suc zero)) h d = refl
in-install (suc (suc (suc zero))) h d = refl
in-install (suc (suc (suc (suc zero)))) h d = refl
in-install (suc (suc (suc (suc (suc zero))))) h d = refl
in-install (suc (suc (suc (suc (suc (suc k)))))) h d = absurd (omega arith)

in-boot : (k : ℕ) → k < section_count → (k ≡ 0 → ⊥) → leb 3 k ≡ among (section_key k) (sections_of Boot)
in-boot zero h d = absurd (d refl)
in-boot (suc zero) h d = refl
in-boot (suc (suc zero)) h d = refl
in-boot (suc (suc (suc zero))) h d = refl
in-boot (suc (suc (suc (suc zero)))) h d = refl
in-boot (suc (suc (suc (suc (suc zero))))) h d = refl
in-boot (suc (suc (suc (suc (suc (suc k)))))) h d = absurd (omega arith)

module _ (g : Group) (k to : ℕ) (d : to ≡ 0 → ⊥) (h : (0 < k) × (k < section_count)) where
  install-law : g ≡ Install → ltb k 3 ≡ cond (eqb to 0) false (among (section_key k) (sections_of g))
  install-law e = rw (ne_eqb to 0 d, e) (in-install k h.1 (λ z. omega (arith, h.0)))

  boot-law : g ≡ Boot → leb 3 k ≡ cond (eqb to 0) false (among (section_key k) (sections_of g))
  boot-law e = rw (ne_eqb to 0 d, e) (in-boot k h.1 (λ z. omega (arith, h.0)))

pub returns-then-to-eq0 : goal.returns-then-to-eq0
returns-then-to-eq0 c = rw (eq-eqb _ 0 c.if-to-eq0.true)

pub returns-in-Install : goal.returns-in-Install
returns-in-Install c = install-law _ _ _ c.if-to-eq0.false c.requires c.in-Install.is

pub returns-in-Boot : goal.returns-in-Boot
returns-in-Boot c = boot-law _ _ _ c.if-to-eq0.false c.requires c.in-Boot.is
