-- What a recorder or a player means: the steps that it has taken, and whether it has ended.
use Rattle.std.specs.Prelude.{Bool, true, not, ◌||◌, List, [], ◌∷◌, ◌++◌, Ok, Err, Result, ◌==◌}
use Rattle.error.specs.declared.TranscriptError.{TranscriptError}
use Rattle.error.specs.Numbers.{number}
use Rattle.step.specs.declared.interaction.Interaction.{Interaction}

pub record Taken : Type 0 where
  pub steps : List Interaction
  pub ended : Bool

-- a full pattern is no reason to end
abbrev pub ends : TranscriptError → Bool
ends e = not (number e == 7)

-- adds the step, or leaves the steps and ends
abbrev pub after : Taken → Interaction → Result (Unit {0}) TranscriptError → Taken
after t s (Ok u) = record { steps = t.steps ++ s ∷ []; ended = t.ended }
after t s (Err e) = record { steps = t.steps; ended = t.ended || ends e }

abbrev pub aborted : List Interaction → Taken
aborted steps = record { steps = steps; ended = true }
