-- A recorder: the steps that it holds, and whether it has ended.
use Rattle.std.specs.Prelude.{◌≡◌, true, cond, ◌||◌, List, Ok, Err, Result, ◌==◌}
use Rattle.error.specs.declared.TranscriptError.{TranscriptError}
use Rattle.error.specs.declared.TranscriptError.TheVariants.{NotRecording}
use Rattle.error.specs.Numbers.{number}
use Rattle.pattern.specs.Patterns.{drafted}
use Rattle.player.specs.Taken.{Taken}
use Rattle.pattern.specs.Walk.{added, checked}
use Rattle.state.specs.declared.pattern_state.PatternState.{PatternState}
use Rattle.step.specs.declared.interaction.Interaction.{Interaction}

abbrev pub record_of : PatternState → Taken
record_of p = record { steps = drafted p.draft; ended = p.ended }

-- is it live, and may the step come next
abbrev pub asked : Taken → Interaction → Result (Unit {0}) TranscriptError
asked t s = cond t.ended (Err NotRecording) (added t.steps s)

-- is it live, and is the whole a pattern
abbrev pub finished : Taken → Result (List Interaction) TranscriptError
finished t = cond t.ended (Err NotRecording) (checked t.steps)

-- a finish refuses an ended recorder and an open scope, and nothing else
abbrev pub Finishes : Result (List Interaction) TranscriptError → Type 0
Finishes (Ok steps) = Unit {0}
Finishes (Err e) = (number e == 3 || number e == 8) ≡ true
