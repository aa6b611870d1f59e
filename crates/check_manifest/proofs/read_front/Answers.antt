use Prim.Native.Nat.{ℕ}
use mathlib.Core.Path.{◌≡◌, sym, ap, ◌∙◌}
use Rattle.std.specs.Prelude.{Ok}
use Rattle.rules.specs.Got.{Got, got}
use Rattle.cbor_reading.specs.declared.Reading.{Reading}
use Rattle.cbor_reading.specs.Reading.{reading}
use Rattle.rules.specs.Check.{front_at}
use Rattle.cbor_reading.proofs.ReadingLaws.{handed, item-stopped, item_went, place_of-stopped, place_of-went, reading-stopped, reading_went}
use Rattle.check_manifest.proofs.read_front.Goals as goal

known : (x : Got (ℕ × ℕ)) (r : Reading) → Ok r ≡ reading (λ n. n) x → x ≡ got (r.value, r.at)
known x r e = let (n, q, v) = reading_went (λ n. n) x r e in q ∙ ap (λ (k : ℕ). got (k, r.at)) (sym v)

pub returns-in_err-h : goal.returns-in_err-h
unfolding front_at
returns-in_err-h c = rw (handed _ _ c.from_residual.ensures.1, item-stopped _ _ _ _ _ _ _ c.in_err-h.ensures)

pub returns-in_err-p : goal.returns-in_err-p
unfolding front_at
returns-in_err-p c =
    rw (handed _ _ c.from_residual-in_err-p.ensures.1, item_went _ _ _ _ _ _ _ c.in_ok-h.ensures, place_of-stopped _ _ c.in_err-p.ensures)

pub returns-in_err-n : goal.returns-in_err-n
unfolding front_at
returns-in_err-n c =
    rw (handed _ _ c.from_residual-in_err-n.ensures.1, item_went _ _ _ _ _ _ _ c.in_ok-h.ensures, place_of-went _ _ c.in_ok-p.ensures)
    (rw (reading-stopped (λ n. n) _ _ c.in_err-n.ensures))

pub returns : goal.returns
unfolding front_at
returns c =
    rw (item_went _ _ _ _ _ _ _ c.in_ok-h.ensures, place_of-went _ _ c.in_ok-p.ensures, known _ _ c.in_ok-n.ensures)
