-- The library's names that the rules use, each of which means what the library says, and the types that the code declares.
pub use Rattle.std.specs.Prelude.{ℕ, suc, ◌+◌, ◌-◌, ◌*◌, ◌/◌, ◌%◌, zero, List, [], ◌∷◌, ◌++◌, map, Bool, true, false, ◌&&◌, ◌||◌, cond, not, eqb, ltb, leb, take, drop, get_or, length, replicate, set}
pub use Rattle.std.proofs.Math.Option.{Option, some, none, get_or as option_get_or}
pub use Rattle.std.proofs.lemmas.List.Edits.{sets}
pub use Rattle.rules.specs.declared.answers.End.{End}
pub use Rattle.rules.specs.declared.answers.End.TheVariants.{Finished, ConditionFailed, Started, Failed}
pub use Rattle.rules.specs.declared.answers.Failure.{Failure}
pub use Rattle.rules.specs.declared.answers.Failure.TheVariants.{ParameterUnset, Aborted, NoAnswer, BadStatus, TooLarge, NothingToCopy, NothingToRun}
pub use Rattle.rules.specs.declared.answers.Fault.{Fault}
pub use Rattle.rules.specs.declared.answers.Group.{Group}
pub use Rattle.rules.specs.declared.answers.Group.TheVariants.{Install, Boot}
pub use Rattle.rules.specs.declared.answers.Refusal.{Refusal}
pub use Rattle.rules.specs.declared.answers.Refusal.TheVariants.{EnvelopeTooLong, NotCbor, Malformed, WrongVersion, RepeatedIdentifier, UnknownCommand}
pub use Rattle.rules.specs.declared.answers.Refusal.TheVariants.{UnknownParameter, NotAllowed, NoSuchComponent, TooDeep}
pub use Rattle.rules.specs.declared.answers.Refusal.TheVariants.{TooManyCommands, NotVerified, EventOpen, WrongNumber, BadSlots, NoSlot, BadAnswers, ShortTrace, ShortRoom, BadProgram}
pub use Rattle.rules.specs.declared.controller.Controller.{Controller}
pub use Rattle.rules.specs.declared.controller.Limits.{Limits}
pub use Rattle.rules.specs.declared.tables.Argument.{Argument}
pub use Rattle.rules.specs.declared.tables.Argument.TheVariants.{Sixteen, Nil, Index, Alternatives, Parameters, Sequence}
pub use Rattle.rules.specs.declared.tables.Command.{Command}
pub use Rattle.rules.specs.declared.tables.Parameter.{Parameter}
pub use Rattle.rules.specs.declared.tables.Parameter.TheVariants.{Coerce, Uri, Source, Digest, Size}
pub use Rattle.rules.specs.declared.tables.ParameterRow.{ParameterRow}
