-- The numbers of refusals.
use mathlib.Core.Path.{◌≡◌, refl}
use native.Mathlib.Omega.{arith}
use Rattle.rules.specs.Base.{Refusal, EnvelopeTooLong, NotCbor, Malformed, WrongVersion, RepeatedIdentifier, UnknownCommand, UnknownParameter, NotAllowed, NoSuchComponent}
use Rattle.rules.specs.Base.{TooDeep, TooManyCommands, NotVerified, EventOpen, WrongNumber, BadSlots, NoSlot, BadAnswers, ShortTrace, ShortRoom, BadProgram}
use Rattle.rules.specs.Answers.{refusal_number, refusal_of}

-- each is known by its number
pub of_number : (r : Refusal) → refusal_of (refusal_number r) ≡ r
of_number EnvelopeTooLong = refl
of_number NotCbor = refl
of_number Malformed = refl
of_number WrongVersion = refl
of_number RepeatedIdentifier = refl
of_number UnknownCommand = refl
of_number UnknownParameter = refl
of_number NotAllowed = refl
of_number NoSuchComponent = refl
of_number TooDeep = refl
of_number TooManyCommands = refl
of_number NotVerified = refl
of_number EventOpen = refl
of_number WrongNumber = refl
of_number BadSlots = refl
of_number NoSlot = refl
of_number BadAnswers = refl
of_number ShortTrace = refl
of_number ShortRoom = refl
of_number BadProgram = refl

-- and no number is 0
pub not-zero : (r : Refusal) → refusal_number r ≡ 0 → ⊥
not-zero EnvelopeTooLong e = omega arith
not-zero NotCbor e = omega arith
not-zero Malformed e = omega arith
not-zero WrongVersion e = omega arith
not-zero RepeatedIdentifier e = omega arith
not-zero UnknownCommand e = omega arith
not-zero UnknownParameter e = omega arith
not-zero NotAllowed e = omega arith
not-zero NoSuchComponent e = omega arith
not-zero TooDeep e = omega arith
not-zero TooManyCommands e = omega arith
not-zero NotVerified e = omega arith
not-zero EventOpen e = omega arith
not-zero WrongNumber e = omega arith
not-zero BadSlots e = omega arith
not-zero NoSlot e = omega arith
not-zero BadAnswers e = omega arith
not-zero ShortTrace e = omega arith
not-zero ShortRoom e = omega arith
not-zero BadProgram e = omega arith
