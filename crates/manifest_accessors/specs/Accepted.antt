-- What check reported of an envelope that it accepted.
use Rattle.std.specs.Prelude.{ℕ, ◌≡◌, List, length, replicate}
use Rattle.rules.specs.Bytes.{Bytes}
use Rattle.rules.specs.Got.{got}
use Rattle.rules.specs.Limits.{section_places}
use Rattle.rules.specs.Limits as Limits
use Rattle.rules.specs.Manifest.{Manifest}
use Rattle.rules.specs.Check.{check}
use Rattle.component_ids.specs.Identifiers.{laid}
use Rattle.check_manifest.specs.Sections.{placed}

pub record Accepted (s : Bytes) (number n : ℕ) (ids sections : List ℕ) : Type 0 where
  pub manifest : Manifest
  pub checks : check s ≡ got manifest
  pub numbered : number ≡ manifest.number
  pub count : n ≡ length manifest.ids
  pub names : ids ≡ laid manifest.ids (replicate Limits.places 0)
  pub places : sections ≡ placed manifest.sections (replicate section_places 0)
