-- A player: its pattern, how many steps it has played, and whether it has ended.
use Rattle.std.specs.Prelude.{ℕ, ◌+◌, Bool, true, cond, List, length, take, Ok, Err, Result, nat_lt}
use Rattle.error.specs.declared.TranscriptError.{TranscriptError}
use Rattle.error.specs.declared.TranscriptError.TheVariants.{Ended, NoStepLeft, StepMismatch, StepsLeft}
use Rattle.player.specs.declared.player.PatternPlayer.{PatternPlayer}
use Rattle.pattern.specs.Patterns.{steps}
use Rattle.player.specs.Taken.{Taken}
use Rattle.pattern.specs.Walk.{step_at}
use Rattle.step.specs.declared.interaction.Interaction.{Interaction}
use Rattle.step.specs.Steps.{alike}

pub record Play : Type 0 where
  pub pattern : List Interaction
  pub position : ℕ
  pub ended : Bool

abbrev pub play_of : PatternPlayer → Play
play_of p = record { pattern = steps p.pattern; position = p.position; ended = p.ended }

abbrev pub Answer : Type 0
Answer = Result (Unit {0}) TranscriptError

-- is it live, is a step left, and is it this one
abbrev pub asked : Play → Interaction → Answer
asked p s =
    cond p.ended (Err Ended) (cond (nat_lt p.position (length p.pattern))
    (cond (alike (step_at p.pattern p.position) s) (Ok tt) (Err StepMismatch)) (Err NoStepLeft))

-- after a refusal it has ended; nothing else changes
abbrev pub peeked : Play → Answer → Play
peeked p (Ok u) = p
peeked p (Err e) = record { pattern = p.pattern; position = p.position; ended = true }

-- one step further, where one is left
abbrev pub advanced : Play → Play
advanced p = cond (nat_lt p.position (length p.pattern)) (record { pattern = p.pattern; position = p.position + 1; ended = p.ended }) p

abbrev pub moved : Play → Answer → Play
moved p (Ok u) = advanced p
moved p (Err e) = peeked p (Err e)

abbrev pub halted : Play → Play
halted p = record { pattern = p.pattern; position = p.position; ended = true }

-- the finish: is it live, and has every step been played
abbrev pub played_out : Play → Answer
played_out p = cond p.ended (Err Ended) (cond (nat_lt p.position (length p.pattern)) (Err StepsLeft) (Ok tt))

-- the steps taken are those played
abbrev pub taken : Play → Taken
taken p = record { steps = take p.position p.pattern; ended = p.ended }
