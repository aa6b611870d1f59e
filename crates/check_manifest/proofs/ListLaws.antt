-- The component list in its byte string.
use Prim.Native.Nat.{ℕ, ◌+◌}
use mathlib.Core.Path.{◌≡◌, ap, ◌∙◌}
use mathlib.Core.List.{List}
use lib.ListN.{length}
use Rattle.std.specs.Prelude.{Result, Ok, Err}
use Rattle.rules.specs.declared.answers.Fault.{Fault}
use Rattle.rules.specs.Limits.{limits}
use Rattle.rules.specs.Bytes.{Bytes, Span}
use Rattle.rules.specs.Got.{refused, got}
use Rattle.rules.specs.Cbor.{BYTES, item}
use Rattle.rules.specs.Check.{in_bytes, components}
use Rattle.cbor_reading.specs.declared.Reading.{Reading}
use Rattle.cbor_reading.specs.Reading.{reading}
use Rattle.cbor_reading.proofs.ReadingLaws.{reading_went}
use Rattle.component_ids.specs.Identifiers.{laid, ids_read}
use Rattle.component_ids.proofs.IdentifierLaws.{read_all}
use Rattle.check_manifest.specs.Body.{list_reading, Ids}
use Rattle.check_manifest.proofs.InBytesLaws.{in_got}

module _ (s : Bytes) (e at : ℕ) where
  -- what is promised of it
  abbrev Promise : Result Reading Fault → List ℕ → List ℕ → Type 0
  Promise r a b = (r ≡ list_reading (in_bytes s (components s) e at)) × Ids (λ l. l) (in_bytes s (components s) e at) a b

  pub list_stop : (d : Fault) (a b : List ℕ) → in_bytes s (components s) e at ≡ refused d.refusal d.at → Promise (Err d) a b
  list_stop d a b y = (rw y, rw y tt)

  pub list-good : (v p : ℕ) → item BYTES 0 limits.largest s e at ≡ got (record { kind = BYTES; num = v; next = p }) → (r : Reading) →
      Ok r ≡ reading length (components s (p + v) p) → r.at ≡ p + v → (a b : List ℕ) → b ≡ laid (ids_read s (p + v) p) a → Promise (Ok r) a b
  list-good v p q r y o a b k =
      let (ids, w, n) = reading_went length (components s (p + v) p) r y in
      rw (in_got s (components s) e at v p q ids r.at w o) ((λ j. Ok (record { at = o j; value = n j })), k ∙ ap (λ (l : List Span). laid l a) (read_all s (p + v) p ids r.at w))
