-- The words for codes, keys and numbers of document 01.
use Rattle.std.specs.Prelude.{ℕ, cond, List, [], ◌∷◌, ◌++◌, map, eqb}
use Rattle.rules.specs.declared.answers.Refusal.TheVariants as R
use Rattle.rules.specs.declared.answers.Failure.TheVariants as F
use Rattle.rules.specs.declared.answers.End.TheVariants as E
use Rattle.rules.specs.Answers.{refusal_number, failure_number, end_number}
use Rattle.rules.specs.Commands.{params, COMMON, PAYLOAD_FETCH, INSTALL, VALIDATE, LOAD, RUN}
use Rattle.rules.specs.Commands.{commands as Commands·commands}
use Rattle.rules.specs.ProgramFormat.{JUMP}
use Rattle.text.specs.Text.{Bytes, ascii}
use Rattle.text_rows.specs.Rows.{Row, ◌means◌, named, word_of}

-- the command table in its order, and the jump of a program
unfoldable pub commands : List Row
commands =
    named (map (λ r. r.number) Commands·commands ++ (JUMP ∷ []))
    ("vendor"
    ∷ "class"
    ∷ "image match"
    ∷ "set component index"
    ∷ "abort"
    ∷ "try each"
    ∷ "set parameters"
    ∷ "override parameters"
    ∷ "fetch"
    ∷ "copy"
    ∷ "run"
    ∷ "run sequence"
    ∷ "swap"
    ∷ "jump"
    ∷ [])

unfoldable pub command_words : ℕ → Bytes
command_words n = word_of n commands

-- the parameter table in its order
unfoldable pub parameters : List Row
parameters = named (map (λ p. p.number) params) ("coerce" ∷ "URI" ∷ "source" ∷ "digest" ∷ "size" ∷ [])

unfoldable pub parameter_words : ℕ → Bytes
parameter_words n = word_of n parameters

-- the sections of a manifest
unfoldable pub sections : List Row
sections =
    COMMON means "common"
    ∷ PAYLOAD_FETCH means "payload fetch"
    ∷ INSTALL means "install"
    ∷ VALIDATE means "validate"
    ∷ LOAD means "load"
    ∷ RUN means "run"
    ∷ []

unfoldable pub section_words : ℕ → Bytes
section_words n = word_of n sections

-- "Refusal numbers"; of 74 as 02, T-01, has it
unfoldable pub refusals : List Row
refusals =
    refusal_number R.EnvelopeTooLong means "envelope over 4,096 bytes"
    ∷ refusal_number R.NotCbor means "CBOR rule broken, item past its container's end, or bytes left over"
    ∷ refusal_number R.Malformed means "wrong type, key, order, count or length"
    ∷ refusal_number R.WrongVersion means "version not 1"
    ∷ refusal_number R.RepeatedIdentifier means "identifier twice"
    ∷ refusal_number R.UnknownCommand means "code not listed"
    ∷ refusal_number R.UnknownParameter means "parameter not listed"
    ∷ refusal_number R.NotAllowed means "command not allowed there"
    ∷ refusal_number R.NoSuchComponent means "index or source not below the count"
    ∷ refusal_number R.TooDeep means "depth over 4"
    ∷ refusal_number R.TooManyCommands means "commands past 256, common's counted for each section"
    ∷ refusal_number R.NotVerified means "signature verdict is no"
    ∷ refusal_number R.EventOpen means "install while an event is open"
    ∷ refusal_number R.WrongNumber means "install: number not above the device's; boot: not equal"
    ∷ refusal_number R.NoSlot means "a component has no slot"
    ∷ refusal_number R.ShortTrace means "trace under 2,048 bytes"
    ∷ refusal_number R.BadSlots means "slot count not 1 to 8, identifier not 1 to 32 bytes or twice, present size over capacity"
    ∷ refusal_number R.BadAnswers means "answers not a multiple of 37 bytes"
    ∷ refusal_number R.ShortRoom means "program longer than the room"
    ∷ refusal_number R.BadProgram means "program not well formed"
    ∷ []

unfoldable pub refusal_words : ℕ → Bytes
refusal_words n = word_of n refusals

-- "How a run goes": the end of a run, or the failure that ended it
unfoldable pub ends : List Row
ends =
    end_number E.Finished means "finished"
    ∷ end_number E.ConditionFailed means "condition failed"
    ∷ end_number E.Started means "started"
    ∷ failure_number F.ParameterUnset means "parameter unset"
    ∷ failure_number F.Aborted means "aborted"
    ∷ failure_number F.NoAnswer means "no answer left"
    ∷ failure_number F.BadStatus means "bad status"
    ∷ failure_number F.TooLarge means "larger than the capacity"
    ∷ failure_number F.NothingToCopy means "nothing to copy: slot absent"
    ∷ failure_number F.NothingToRun means "nothing to run: slot absent"
    ∷ []

unfoldable pub end_words : ℕ → Bytes
end_words n = word_of n ends

-- the result of an event
unfoldable pub result_words : ℕ → Bytes
result_words n = cond (eqb n (end_number E.Finished)) (ascii "success") (end_words n)
