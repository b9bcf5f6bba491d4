-- What a pattern holds, and positions that lie before a place.
use Rattle.std.specs.Prelude.{◌≡◌, ℕ, ◌<◌, ◌≤◌, List, [], ◌∷◌, length, Ok, Err, Result}
use Rattle.error.specs.declared.TranscriptError.{TranscriptError}
use Rattle.error.specs.Numbers.{number}
use Rattle.pattern.specs.declared.draft.Draft.{Draft}
use Rattle.pattern.specs.declared.scopes.Scopes.{Scopes}
use Rattle.pattern.specs.declared.sequence.InteractionPattern.{InteractionPattern}
use Rattle.pattern.specs.Listed.{listed}
use Rattle.pattern.specs.Stack.{open_of}
use Rattle.step.specs.declared.interaction.Interaction.{Interaction}

abbrev pub steps : InteractionPattern → List Interaction
steps p = listed p.steps

abbrev pub drafted : Draft → List Interaction
drafted d = listed d.steps

abbrev pub held_result : Result Scopes TranscriptError → Result (List ℕ) TranscriptError
held_result (Ok s) = Ok (open_of s)
held_result (Err e) = Err e

-- the openers that a check leaves, where it refuses nothing
abbrev pub with_open : List ℕ → Result (Unit {0}) TranscriptError → Result (List ℕ) TranscriptError
with_open bs (Ok u) = Ok bs
with_open bs (Err e) = Err e

abbrev pub pattern_result : Result InteractionPattern TranscriptError → Result (List Interaction) TranscriptError
pattern_result (Ok p) = Ok (steps p)
pattern_result (Err e) = Err e

-- no refusal but that a scope is open
abbrev pub Unclosed : Result (List Interaction) TranscriptError → Type 0
Unclosed (Ok ss) = Unit {0}
Unclosed (Err e) = number e ≡ 8

abbrev pub Low : ℕ → List ℕ → Type 0
Low n [] = Unit {0}
Low n (b ∷ bs) = (b < n) × Low n bs

-- positions before a place, and no more of them than there are
pub record Within (n : ℕ) (bs : List ℕ) : Type 0 where
  pub low : Low n bs
  pub few : length bs ≤ n

abbrev pub WithinResult : ℕ → Result Scopes TranscriptError → Type 0
WithinResult n (Ok s) = Within n (open_of s)
WithinResult n (Err e) = Unit {0}
