-- How a list of steps is checked, one step after another, with the positions of the open openers at hand, innermost first.
use Rattle.std.specs.Prelude.{ℕ, cond, List, [], ◌∷◌, ◌++◌, length, Ok, Err, Result, nat_lt, slice_index_or}
use Rattle.error.specs.declared.TranscriptError.{TranscriptError}
use Rattle.error.specs.declared.TranscriptError.TheVariants.{MissingBegin, MismatchedBeginEnd, InvalidKind, PatternFull, MissingEnd}
use Rattle.pattern.specs.Rows.{then}
use Rattle.step.specs.declared.interaction.Hierarchy.{Hierarchy}
use Rattle.step.specs.declared.interaction.Hierarchy.TheVariants.{Atomic, Begin, End}
use Rattle.step.specs.declared.interaction.Interaction.{Interaction}
use Rattle.step.specs.declared.interaction.Kind.TheVariants.{Protocol}
use Rattle.step.specs.Steps.{admits, closes, marker_step}
use Rattle.step.specs.Texts.{u8_name}

-- any step: what stands at a position past the end
abbrev pub no_step : Interaction
no_step = marker_step Atomic Protocol u8_name u8_name

abbrev pub step_at : List Interaction → ℕ → Interaction
step_at steps b = slice_index_or steps b no_step

abbrev pub Open : Type 0
Open = Result (List ℕ) TranscriptError

-- within the innermost opener, if there is one
abbrev pub nested : List Interaction → List ℕ → Interaction → List ℕ → Open
nested before [] s open' = Ok open'
nested before (b ∷ bs) s open' = cond (admits (step_at before b) s) (Ok open') (Err (InvalidKind b (length before)))

abbrev pub closed : List Interaction → List ℕ → Interaction → Open
closed before [] s = Err (MissingBegin (length before))
closed before (b ∷ bs) s = cond (closes s (step_at before b)) (Ok bs) (Err (MismatchedBeginEnd b (length before)))

-- the openers after one step more
abbrev pub structure : List Interaction → List ℕ → Interaction → Hierarchy → Open
structure before bs s Atomic = nested before bs s bs
structure before bs s Begin = nested before bs s (length before ∷ bs)
structure before bs s End = closed before bs s

-- a place among the 64 is asked for last
abbrev pub placed : ℕ → Open → Open
placed p (Ok bs) = cond (nat_lt p 64) (Ok bs) (Err PatternFull)
placed p (Err e) = Err e

unfoldable pub met : List Interaction → List ℕ → Interaction → Open
met before bs s = placed (length before) (structure before bs s s.hierarchy)

-- at the end every scope is closed
abbrev pub ended : List Interaction → List ℕ → Result (List Interaction) TranscriptError
ended steps [] = Ok steps
ended steps (b ∷ bs) = Err (MissingEnd b)

-- the steps that the candidates make, or the first refusal
unfoldable pub walk : {A : Type 0} → (A → Result Interaction TranscriptError) → List Interaction → List ℕ → List A → Result (List Interaction) TranscriptError
walk made before bs [] = ended before bs
walk made before bs (x ∷ xs) = then (made x) (λ s. then (met before bs s) (λ open'. walk made (before ++ s ∷ []) open' xs))

abbrev pub validated : {A : Type 0} → (A → Result Interaction TranscriptError) → List A → Result (List Interaction) TranscriptError
validated made xs = walk made [] [] xs

-- of steps that are good by their type
abbrev pub checked : List Interaction → Result (List Interaction) TranscriptError
checked steps = validated (λ s. Ok s) steps

-- the openers that a sequence leaves open, or the first refusal
unfoldable pub runs : List Interaction → List ℕ → List Interaction → Open
runs before bs [] = Ok bs
runs before bs (s ∷ ss) = then (met before bs s) (λ open'. runs (before ++ s ∷ []) open' ss)

abbrev pub opens : List Interaction → Open
opens steps = runs [] [] steps

abbrev pub openers : Open → List ℕ
openers (Ok bs) = bs
openers (Err e) = []

-- whether a step is refused, and by what
abbrev pub refusal_of : Open → Result (Unit {0}) TranscriptError
refusal_of (Ok bs) = Ok tt
refusal_of (Err e) = Err e

-- the answer to one step more
abbrev pub added : List Interaction → Interaction → Result (Unit {0}) TranscriptError
added steps s = refusal_of (then (opens steps) (λ bs. met steps bs s))
