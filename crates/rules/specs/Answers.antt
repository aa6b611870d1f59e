-- The types that answers are made of, which the code declares, and the number that document 01 gives each of their cases.
use Rattle.rules.specs.Base.{ℕ, cond, eqb, Group, Install, Boot, Refusal, EnvelopeTooLong, NotCbor, Malformed, WrongVersion, RepeatedIdentifier, UnknownCommand, UnknownParameter, NotAllowed}
use Rattle.rules.specs.Base.{NoSuchComponent, TooDeep, TooManyCommands, NotVerified, EventOpen, WrongNumber, BadSlots, NoSlot, BadAnswers, ShortTrace, ShortRoom, BadProgram, Failure}
use Rattle.rules.specs.Base.{ParameterUnset, Aborted, NoAnswer, BadStatus, TooLarge, NothingToCopy, NothingToRun, End, Finished, ConditionFailed, Started, Failed}

-- 01, The flat program: 'group (0 install, 1 boot)'
abbrev pub group_number : Group → ℕ
group_number Install = 0
group_number Boot = 1

-- 01, Refusal numbers, 'Given exactly when': 64 'envelope over 4,096 bytes'; 65 'CBOR rule broken, item past its container's end, or bytes
-- left over'; 66 'wrong type, key, order, count or length'; 67 'version not 1'; 68 'identifier twice'; 69, 70 'code, parameter not listed';
-- 71 'command not allowed there'; 72 'index or source not below the count'; 73, 74 'depth over 4; 257th command'; 80 'signature verdict is
-- no'; 81 'install while an event is open'; 82 'install: number not above the device's; boot: not equal'; 85 'slot count not 1 to 8,
-- identifier not 1 to 32 bytes or twice, present size over capacity'; 83 'a component has no slot'; 86 'answers not a multiple of 37
-- bytes'; 84 'trace under 2,048 bytes'; 96 'program longer than the room'; 97 'program not well formed'
abbrev pub refusal_number : Refusal → ℕ
refusal_number EnvelopeTooLong = 64
refusal_number NotCbor = 65
refusal_number Malformed = 66
refusal_number WrongVersion = 67
refusal_number RepeatedIdentifier = 68
refusal_number UnknownCommand = 69
refusal_number UnknownParameter = 70
refusal_number NotAllowed = 71
refusal_number NoSuchComponent = 72
refusal_number TooDeep = 73
refusal_number TooManyCommands = 74
refusal_number NotVerified = 80
refusal_number EventOpen = 81
refusal_number WrongNumber = 82
refusal_number BadSlots = 85
refusal_number NoSlot = 83
refusal_number BadAnswers = 86
refusal_number ShortTrace = 84
refusal_number ShortRoom = 96
refusal_number BadProgram = 97

-- the refusal of a number that some refusal has
abbrev pub refusal_of : ℕ → Refusal
refusal_of n =
    cond (eqb n 64) EnvelopeTooLong
    (cond (eqb n 65) NotCbor
    (cond (eqb n 66) Malformed
    (cond (eqb n 67) WrongVersion
    (cond (eqb n 68) RepeatedIdentifier
    (cond (eqb n 69) UnknownCommand
    (cond (eqb n 70) UnknownParameter
    (cond (eqb n 71) NotAllowed
    (cond (eqb n 72) NoSuchComponent
    (cond (eqb n 73) TooDeep
    (cond (eqb n 74) TooManyCommands
    (cond (eqb n 80) NotVerified
    (cond (eqb n 81) EventOpen
    (cond (eqb n 82) WrongNumber
    (cond (eqb n 83) NoSlot
    (cond (eqb n 84) ShortTrace
    (cond (eqb n 85) BadSlots
    (cond (eqb n 86) BadAnswers
    (cond (eqb n 96) ShortRoom BadProgram))))))))))))))))))

-- 01, How a run goes: a parameter 'unset, 32'; '14: failure 33'; of 21 'no answer left, 34', 'bad status, 35'; of 21, 22, 32 too large for
-- the 'capacity, 36'; of 22 'source slot absent, 37'; of 23 'slot absent, 38'
abbrev pub failure_number : Failure → ℕ
failure_number ParameterUnset = 32
failure_number Aborted = 33
failure_number NoAnswer = 34
failure_number BadStatus = 35
failure_number TooLarge = 36
failure_number NothingToCopy = 37
failure_number NothingToRun = 38

-- 'End: 0 finished, 1 condition failed, 2 started, or the failure number'
abbrev pub end_number : End → ℕ
end_number Finished = 0
end_number ConditionFailed = 1
end_number Started = 2
end_number (Failed f) = failure_number f

-- in an event 'result (0, 1 condition failed, or failure number)': of a run command that starts an image it is 0
abbrev pub result_number : End → ℕ
result_number Finished = 0
result_number ConditionFailed = 1
result_number Started = 0
result_number (Failed f) = failure_number f

-- the failure and the end of a number that some failure or end has
abbrev pub failure_of : ℕ → Failure
failure_of n =
    cond (eqb n 32) ParameterUnset
    (cond (eqb n 33) Aborted
    (cond (eqb n 34) NoAnswer
    (cond (eqb n 35) BadStatus (cond (eqb n 36) TooLarge (cond (eqb n 37) NothingToCopy NothingToRun)))))

abbrev pub end_of : ℕ → End
end_of n = cond (eqb n 0) Finished (cond (eqb n 1) ConditionFailed (cond (eqb n 2) Started (Failed (failure_of n))))
