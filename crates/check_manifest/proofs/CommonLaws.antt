-- Common, one step after the other, in the order in which it is read.
use Prim.Native.Nat.{ℕ, ◌+◌, ◌-◌, ◌*◌}
use mathlib.Core.Path.{◌≡◌}
use mathlib.Core.List.{List}
use lib.ListN.{length}
use Rattle.std.specs.Prelude.{Result, Ok, Err}
use Rattle.rules.specs.declared.answers.Fault.{Fault}
use Rattle.rules.specs.declared.answers.Refusal.TheVariants.{NotCbor}
use Rattle.rules.specs.Limits.{limits}
use Rattle.rules.specs.Bytes.{Bytes, Span, span}
use Rattle.rules.specs.Got.{Got, refused, got}
use Rattle.rules.specs.Cbor.{BYTES, MAP, item}
use Rattle.rules.specs.Manifest.{Section, count_all}
use Rattle.rules.specs.Check.{key, in_bytes, components, common_seq, common_at, common_in}
use Rattle.cbor_reading.specs.declared.Reading.{Reading}
use Rattle.check_manifest.specs.declared.Common.{Common}
use Rattle.check_manifest.specs.Sections.{Placed}
use Rattle.check_manifest.specs.Body.{common_of, list_reading, Ids, Kept}
use Rattle.cbor_reading.proofs.ReadingLaws.{stop_of, went}
use Rattle.check_manifest.proofs.InBytesLaws.{in_stop, in_bad, in_over, in_got}

-- what is promised of common
abbrev pub CommonPromise : ℕ → Got ((List Span × List Section) × Span) → Result Common Fault → List ℕ → List ℕ → List ℕ → List ℕ → Type 0
CommonPromise wt x c ids ids' places places' = (c ≡ common_of wt x) × Kept (λ y. y.0) (λ y. y.1) x ids ids' places places'

-- a refusal promises nothing of the places
pub common_stop : (wt : ℕ) (x : Got ((List Span × List Section) × Span)) (d : Fault) (i i' p p' : List ℕ) → x ≡ refused d.refusal d.at → CommonPromise wt x (Err d) i i' p p'
common_stop wt x d i i' p p' y = (rw y, rw y tt)

module _ (s : Bytes) (wt e at : ℕ) where
  pub common_no_bytes : (d : Fault) → item BYTES 0 limits.largest s e at ≡ refused d.refusal d.at → common_in s wt e at ≡ refused d.refusal d.at
  unfolding common_in
  common_no_bytes d x = in_stop s (common_at s wt) e at d x

  module _ (v p : ℕ) (q : item BYTES 0 limits.largest s e at ≡ got (record { kind = BYTES; num = v; next = p })) where
    -- what stops the map stops common
    stops : (d : Fault) → common_at s wt (p + v) p ≡ refused d.refusal d.at → common_in s wt e at ≡ refused d.refusal d.at
    unfolding common_in
    stops d x = in_bad s (common_at s wt) e at v p q d x

    pub common_no_map : (d : Fault) → item MAP 1 2 s (p + v) p ≡ refused d.refusal d.at → common_in s wt e at ≡ refused d.refusal d.at
    unfolding common_at
    common_no_map d x = stops d (rw x)

    module _ (k p₂ : ℕ) (q₂ : item MAP 1 2 s (p + v) p ≡ got (record { kind = MAP; num = k; next = p₂ })) where
      pub common_no_key : (d : Fault) → key s 2 (p + v) p₂ ≡ refused d.refusal d.at → common_in s wt e at ≡ refused d.refusal d.at
      unfolding common_at
      common_no_key d x = stops d (rw (q₂, x))

      module _ (p₃ : ℕ) (q₃ : key s 2 (p + v) p₂ ≡ got p₃) where
        pub common_no_list : (d : Fault) → in_bytes s (components s) (p + v) p₃ ≡ refused d.refusal d.at → common_in s wt e at ≡ refused d.refusal d.at
        unfolding common_at
        common_no_list d x = stops d (rw (q₂, q₃, x))

        module _ (ids : List Span) (u : Span) (q₄ : in_bytes s (components s) (p + v) p₃ ≡ got (ids, u)) (n a : ℕ) (en : n ≡ length ids) (ea : a ≡ u.to) where
          here : common_seq s (length ids) wt (k - 1) (p + v) u.to ≡ common_seq s n wt (k - 1) (p + v) a
          here = rw (en, ea)

          pub common-bad : (d : Fault) → common_seq s n wt (k - 1) (p + v) a ≡ refused d.refusal d.at → common_in s wt e at ≡ refused d.refusal d.at
          unfolding common_at
          common-bad d x = stops d (rw (q₂, q₃, q₄, here, x))

          module _ (xs : List Section) (next : ℕ) (q₅ : common_seq s n wt (k - 1) (p + v) a ≡ got (xs, next)) where
            held : common_at s wt (p + v) p ≡ got ((ids, xs), next)
            unfolding common_at
            held = rw (q₂, q₃, q₄, here, q₅)

            pub common-left_over : (next ≡ p + v → ⊥) → common_in s wt e at ≡ refused NotCbor next
            unfolding common_in
            common-left_over o = in_over s (common_at s wt) e at v p q (ids, xs) next held o

            common-got : next ≡ p + v → common_in s wt e at ≡ got ((ids, xs), span p (p + v))
            unfolding common_in
            common-got o = in_got s (common_at s wt) e at v p q (ids, xs) next held o

            pub common-good : next ≡ p + v → (c : ℕ) → c ≡ wt * count_all xs → (i i' b b' : List ℕ) → Ids (λ l. l) (in_bytes s (components s) (p + v) p₃) i i' →
                Placed (λ ys. ys) (common_seq s n wt (k - 1) (p + v) a) b b' →
                CommonPromise wt (common_in s wt e at) (Ok (record { from = p; to = p + v; components = n; commands = c })) i i' b b'
            common-good o c ec i i' b b' x y =
                rw (common-got o)
                ((λ j. Ok (record { from = p; to = p + v; components = en j; commands = ec j })), (rw q₄ at x, rw q₅ at y))

-- what the list of components gave where it went on
pub list_went : (s : Bytes) (e at : ℕ) (r : Reading) → Ok r ≡ list_reading (in_bytes s (components s) e at) →
    (ids : List Span) × (u : Span) × (in_bytes s (components s) e at ≡ got (ids, u)) × (r.at ≡ u.to) × (r.value ≡ length ids)
list_went s e at r q =
    let (a, g, x, y) = went (λ a. a.1.to) (λ a. length a.0) (in_bytes s (components s) e at) r q in
    (a.0, a.1, g, x, y)

pub list-stopped : (s : Bytes) (e at : ℕ) (d : Fault) → Err d ≡ list_reading (in_bytes s (components s) e at) → in_bytes s (components s) e at ≡ refused d.refusal d.at
list-stopped s e at d q = stop_of (λ a. a.1.to) (λ a. length a.0) (in_bytes s (components s) e at) d q
