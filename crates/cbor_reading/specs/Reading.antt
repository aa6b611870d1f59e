-- A reading of the rules as the code hands it back: where it ends and a number, or the fault.
use Rattle.std.specs.Prelude.{ℕ, Result, Ok, Err}
use Rattle.rules.specs.declared.answers.Refusal.{Refusal}
use Rattle.rules.specs.declared.answers.Fault.{Fault}
use Rattle.rules.specs.Got.{Got, refused, got}
use Rattle.rules.specs.Cbor.{Head}
use Rattle.rules.specs.Cbor as Cbor
use Rattle.cbor_reading.specs.declared.Reading.{Reading}

abbrev pub fault : {T : Type 0} → Refusal → ℕ → Result T Fault
fault r p = Err (record { refusal = r; at = p })

abbrev pub ends : ℕ → ℕ → Result Reading Fault
ends p v = Ok (record { at = p; value = v })

-- of what was read, f of it
abbrev pub result_of : {A B : Type 0} → (A → B) → Got A → Result B Fault
result_of f (refused r p) = fault r p
result_of f (got a) = Ok (f a)

-- by the place after what was read, and a number of it
abbrev pub view : {A : Type 0} → (A → ℕ) → (A → ℕ) → Got A → Result Reading Fault
view place value (refused r p) = fault r p
view place value (got a) = ends (place a) (value a)

-- of a head: the place after it, and its number
abbrev pub head_reading : Got Head → Result Reading Fault
head_reading = view (λ h. h.next) (λ h. h.num)

-- of an item: the place after it
abbrev pub item_reading : Got Head → Result Reading Fault
item_reading = view Cbor.after (λ h. 0)

-- of a place alone
abbrev pub place_reading : Got ℕ → Result Reading Fault
place_reading = view (λ p. p) (λ p. 0)

-- of a place alone, as it is
abbrev pub place_of : Got ℕ → Result ℕ Fault
place_of = result_of (λ p. p)

-- of something and the place after it: f of it
abbrev pub reading : {A : Type 0} → (A → ℕ) → Got (A × ℕ) → Result Reading Fault
reading f = view (λ a. a.1) (λ a. f a.0)

-- and nothing of it
abbrev pub after : {A : Type 0} → Got (A × ℕ) → Result Reading Fault
after = reading (λ a. 0)

-- a reading without its number
abbrev pub unnumbered : Result Reading Fault → Result Reading Fault
unnumbered (Ok r) = ends r.at 0
unnumbered (Err f) = Err f
