-- The number of each refusal.
use Rattle.std.specs.Prelude.{ℕ}
use Rattle.error.specs.declared.TranscriptError.{TranscriptError}
use Rattle.error.specs.declared.TranscriptError.TheVariants.{InvalidField, InvalidPrefix, NotRecording, MissingBegin, MismatchedBeginEnd, InvalidKind, PatternFull, MissingEnd, InvalidName, WeakCodec, CountOverMax, Ended, NoStepLeft, StepMismatch, ShortBuffer, ShortProof, ReadOverMax, MissingValues, ShortValues, BadValue, StepsLeft, TrailingBytes}

abbrev pub number : TranscriptError → ℕ
number InvalidField = 1
number InvalidPrefix = 2
number NotRecording = 3
number (MissingBegin position) = 4
number (MismatchedBeginEnd begin-position end-position) = 5
number (InvalidKind begin-position interaction-position) = 6
number PatternFull = 7
number (MissingEnd position) = 8
number InvalidName = 9
number WeakCodec = 10
number CountOverMax = 11
number Ended = 12
number NoStepLeft = 13
number StepMismatch = 14
number ShortBuffer = 15
number ShortProof = 16
number ReadOverMax = 17
number MissingValues = 18
number ShortValues = 19
number (BadValue index fault) = 20
number StepsLeft = 21
number TrailingBytes = 22
