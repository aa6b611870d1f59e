-- One event more, or less, of the walks over a trace.
use Prim.Native.Nat.{ℕ, suc, ◌+◌, ◌-◌, ◌<◌}
use mathlib.Core.Path.{◌≡◌, refl, ◌∙◌}
use mathlib.Core.Bool.{true, false}
use mathlib.Core.List.{[]}
use lib.ListN.{length}
use lib.Seq.{take_all}
use native.Mathlib.Omega.{arith}
use native.Mathlib.Numerals.{add-one}
use Rattle.rules.specs.Bytes.{Bytes, part}
use Rattle.depot_matches.specs.declared.images.ImageOrigin.TheVariants.{Answer}
use Rattle.depot_matches.specs.Events.{event_at, fetches_in, fetches_before}
use Rattle.depot_matches.specs.Values.{value_after, value_before}
use Rattle.depot_matches.specs.Images.{came_from, fetched_by, origin_of, origin}

pub fetches-next : (t : Bytes) (i : ℕ) → fetches_before t (i + 1) ≡ fetches_before t i + fetches_in (event_at t i)
unfolding fetches_before
fetches-next t i = rw (add-one i)

pub value-next : (p t : Bytes) (key c i : ℕ) → value_before p t key c (i + 1) ≡ value_after p (event_at t i) key c (value_before p t key c i)
unfolding value_before
value-next p t key c i = rw (add-one i)

module _ (p t : Bytes) (c i : ℕ) where
  next_fetched : fetched_by (event_at t i) c ≡ true → Answer (fetches_before t i) ≡ origin p t c (suc i)
  unfolding origin
  next_fetched e = rw e

  next-moved : fetched_by (event_at t i) c ≡ false → origin p t (came_from p t i c) i ≡ origin p t c (suc i)
  unfolding origin
  next-moved e = rw e

module _ (p t : Bytes) (c i : ℕ) (h : 0 < i) where
  again : origin p t c (suc (i - 1)) ≡ origin p t c i
  again =
      let e : suc (i - 1) ≡ i = omega arith in
      rw e

  pub origin_fetched : fetched_by (event_at t (i - 1)) c ≡ true → Answer (fetches_before t (i - 1)) ≡ origin p t c i
  origin_fetched e = next_fetched p t c (i - 1) e ∙ again

  pub origin-moved : fetched_by (event_at t (i - 1)) c ≡ false → origin p t (came_from p t (i - 1) c) (i - 1) ≡ origin p t c i
  origin-moved e = next-moved p t c (i - 1) e ∙ again

pub origin-start : (p t : Bytes) (c i : ℕ) → i ≡ 0 → origin_of c ≡ origin p t c i
unfolding origin
origin-start p t c i e = rw e

pub fetches-start : (t : Bytes) → 0 ≡ fetches_before t 0
unfolding fetches_before
fetches-start t = refl

pub value-start : (p t : Bytes) (key c : ℕ) → [] ≡ value_before p t key c 0
unfolding value_before
value-start p t key c = refl

pub whole_part : (s : Bytes) → part s 0 (length s) ≡ s
whole_part s = take_all (length s) s (omega arith)
