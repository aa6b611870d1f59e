-- A head is refused with 65 at its own place, so a reader that is put there is as it was (01, the last paragraph: 'or 65 with nothing moved').
use Rattle.std.specs.Prelude.{Result, IsOk, Ok, Err}
use Prim.Native.Nat.{ℕ, ◌+◌}
use mathlib.Core.Path.{◌≡◌, refl}
use mathlib.Core.Bool.{Bool, true, false}
use mathlib.Core.Logic.{◌⊎◌, inl, inr}
use lib.Dec.{ltb, leb}
use lib.ListN.{get_or}
use Rattle.rules.specs.declared.answers.Fault.{Fault}
use Rattle.rules.specs.declared.answers.Refusal.TheVariants.{NotCbor}
use Rattle.rules.specs.Answers.{refusal_number}
use Rattle.rules.specs.Bytes.{Bytes}
use Rattle.rules.specs.Got.{Got, refused, got, need, ◌>>=◌}
use Rattle.rules.specs.Cbor.{Head, head, known, more, least, value}
use Rattle.cbor_heads.specs.declared.Head as Heads
use Rattle.cbor_reader.specs.declared.Reader.{Reader}
use Rattle.cbor_reader.specs.Read.{read_of, head_here, moved}

-- where it is refused, it is with 65 and at that place
abbrev At : ℕ → Got Head → Type 0
At at (refused r p) = (r ≡ NotCbor) × (p ≡ at)
At at (got h) = Unit {0}

test : (t : Bool) (at : ℕ) (k : Unit {0} → Got Head) → At at (k tt) → At at (need t NotCbor at >>= k)
test true at k h = h
test false at k h = (refl, refl)

head-place : (s : Bytes) (e at : ℕ) → At at (head s e at)
unfolding head
head-place s e at =
    let b = get_or s at 0 in
    test (ltb at e) at _ (test (known b) at _ (test (leb (at + 1 + more b) e) at _ (test (leb (least (more b)) (value s at)) at _ tt)))

-- the place that an answer gives: after the head, or where it is refused
abbrev pub place_in : Result Heads.Head Fault → ℕ
place_in (Ok h) = h.next
place_in (Err f) = f.at

-- the place that is answered is that of the moved reader
pub put_next : (d : Reader) → record { envelope = d.envelope; at = place_in (read_of (head_here d)) } ≡ moved d (head_here d)
put_next d = go (head_here d) (head-place _ _ _)
  where
    go : (x : Got Head) → At d.at x → record { envelope = d.envelope; at = place_in (read_of x) } ≡ moved d x
    go (refused r p) (n, h) = λ i. record { envelope = d.envelope; at = h i }
    go (got h) _ = refl

-- a head, or 65 with nothing moved
pub or_65 : (d : Reader) →
    IsOk (read_of (head_here d)) ⊎
    ((read_of (head_here d) ≡ Err (record { refusal = NotCbor; at = d.at })) × (refusal_number NotCbor ≡ 65) × (moved d (head_here d) ≡ d))
or_65 d = go (head_here d) (head-place _ _ _)
  where
    go : (x : Got Head) → At d.at x →
        IsOk (read_of x) ⊎ ((read_of x ≡ Err (record { refusal = NotCbor; at = d.at })) × (refusal_number NotCbor ≡ 65) × (moved d x ≡ d))
    go (refused r p) (n, h) = inr ((λ i. Err (record { refusal = n i; at = h i })), refl, refl)
    go (got h) _ = inl refl
