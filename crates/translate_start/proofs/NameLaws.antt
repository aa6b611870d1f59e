-- The records of identifiers, one after the other.
use Prim.Native.Nat.{ℕ, ◌+◌, ◌-◌, ◌≤◌, ◌<◌}
use mathlib.Core.Path.{◌≡◌, sym, ap, ◌∙◌}
use mathlib.Core.List.{List, [], ◌++◌, map}
use native.Mathlib.Omega.{arith}
use lib.ListN.{length, length-append}
use Rattle.rules.specs.Bytes.{Bytes, put, bytes_at, span_at, InBytes, flat}
use Rattle.rules.specs.ProgramFormat.{name_size}
use Rattle.rules.specs.Program.{id_bytes}
use Rattle.run_slot_search.specs.Search.{names_at}
use Rattle.run_slot_search.proofs.SearchLaws.{left_at, left-turn, left_end, left-all}
use Rattle.translate_argument.specs.Argument.{Filled}
use Rattle.rules.proofs.BytesLaws.{length_part}
use Rattle.rules.proofs.BytesLaws.{put-append}

module _ (s : Bytes) (a : List ℕ) (n : ℕ) where
  abbrev pub named : Bytes
  named = flat (map id_bytes (names_at s a n))

  -- the bytes of those from number k on
  unfoldable pub names_left : ℕ → Bytes
  names_left k = flat (map id_bytes (left_at s a k n))

  pub names-all : named ≡ names_left 0
  unfolding names_left
  names-all = ap (λ (l : List Bytes). flat (map id_bytes l)) (left-all s a n)

  pub names-none : (k : ℕ) → n ≤ k → names_left k ≡ []
  unfolding names_left
  names-none k h = ap (λ (l : List Bytes). flat (map id_bytes l)) (left_end s a k n h)

  module _ (k : ℕ) (h : k < n) where
    names-turn : names_left k ≡ id_bytes (bytes_at s (span_at a k)) ++ names_left (k + 1)
    unfolding names_left
    names-turn = ap (λ (l : List Bytes). flat (map id_bytes l)) (left-turn s a k n h)

    module _ (i : InBytes a n (length s)) where
      name-size : length (id_bytes (bytes_at s (span_at a k))) ≡ name_size + ((span_at a k).to - (span_at a k).from)
      name-size = omega (arith, length_part s (span_at a k).from ((span_at a k).to - (span_at a k).from) (omega (arith, i k h)))

      pub left-size : length (names_left k) ≡ name_size + ((span_at a k).to - (span_at a k).from) + length (names_left (k + 1))
      left-size = ap length names-turn ∙ length-append (id_bytes (bytes_at s (span_at a k))) (names_left (k + 1)) ∙ omega (arith, name-size)

      -- one more is written
      module _ (to : ℕ) (room : Bytes) (r : ℕ) (room' : Bytes) (f : Filled (id_bytes (bytes_at s (span_at a k))) to room r room') where
        pub left-put : put room to (names_left k) ≡ put room' r (names_left (k + 1))
        left-put =
            rw (f.filled, f.next)
            (ap (put room to) names-turn ∙ sym (put-append room to (id_bytes (bytes_at s (span_at a k))) (names_left (k + 1))))

        pub left-next : r + length (names_left (k + 1)) ≡ to + length (names_left k)
        left-next = omega (arith, f.next, name-size, left-size)
