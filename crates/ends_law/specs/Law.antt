-- What an accepted string means, for every past of a verifier; and what a prover's finish means, for every past of a prover.
use Rattle.std.specs.Prelude.{◌≡◌, ℕ, ◌≤◌, ◌↔◌, List, [], ◌++◌, map, length, take, Some, Ok, Result}
use Rattle.challenger.specs.Sponge.{Sponge}
use Rattle.codec.specs.Coding.{Wire, Coding}
use Rattle.digits.specs.Digits.{Bytes}
use Rattle.ends.specs.Calls.{Call, step}
use Rattle.ends.specs.Format.{Values, AllAllowed, LawfulCalls, string, Event, intake, draws_of, after}
use Rattle.ends.specs.Prover.{Prover}
use Rattle.ends.specs.Shared.{seeded}
use Rattle.ends.specs.Verifier.{Verifier, made, finish}
use Rattle.ends_law.specs.Pasts.{Making, wires, Asked, Ran, calls_left, handed_out, Told, Wrote, kept_told, told_calls, told_values}
use Rattle.ends_law.specs.Provers.{prover, plays, NoneRefused, Writes, end_of, shown_by}
use Rattle.error.specs.declared.TranscriptError.{TranscriptError}
use Rattle.step.specs.declared.interaction.Interaction.{Interaction}

-- these calls are the pattern's steps in order, no step missing and none more
abbrev pub InOrder : List Interaction → List (Call Wire) → Type 0
InOrder pattern cs = map step cs ≡ map Some pattern

-- a list of values that these calls allow gives the string
pub record StringOf (cs : List (Call Wire)) (s : List ℕ) : Type 0 where
  pub values : Values cs
  pub allowed : AllAllowed cs values
  pub is : s ≡ string cs values

-- Two lists of values for the same calls and codecs. No unit, challenger, domain or state has a part in it.
pub record StringsApart : Type 0 where
  pub tell_values : (cs : List (Call Wire)) (vs ws : Values cs) → AllAllowed cs vs → AllAllowed cs ws → string cs vs ≡ string cs ws → vs ≡ ws
  pub none_begins_another : (cs : List (Call Wire)) (s rest : List ℕ) → StringOf cs s → StringOf cs (s ++ rest) → rest ≡ []

-- The same of their intakes, over one unit.
pub record IntakesApart {I : Type 0} (u : List ℕ → List I) (cs : List (Call (Coding I))) (vs ws : Values (wires cs)) : Type 0 where
  pub tell_values : intake u cs vs ≡ intake u cs ws → vs ≡ ws
  pub none_begins_another : (rest : List (Event I)) → intake u cs vs ++ rest ≡ intake u cs ws → rest ≡ []

module _ {S I : Type 0} (p : Sponge S I) (u : List ℕ → List I) where
  abbrev pub verifier : Making S → List ℕ → Verifier S
  verifier m narg = made p u m.domain narg m.before

  -- what a challenger that began as at the making has become when it took in what these calls and values give
  abbrev pub taken_in : Making S → (cs : List (Call (Coding I))) → Values (wires cs) → S
  taken_in m cs vs = after p (draws_of (wires cs)) (intake u cs vs) (seeded p u m.domain m.before).state

  -- Of a past from the making over a string to an end, and of whether the finish is then accepted.
  pub record OfPast (m : Making S) (narg : List ℕ) (past : List (Asked I)) (e : Verifier S) (accepted : Type 0) : Type 0 where
    pub accepted_exactly_when : accepted ↔ InOrder m.domain.steps (wires (calls_left past)) × Writes p u m (calls_left past) narg
    pub each_list_has_a_prover : InOrder m.domain.steps (wires (calls_left past))
        → (vs : Values (wires (calls_left past))) → AllAllowed (wires (calls_left past)) vs
        → (buffer : List ℕ) → Bytes buffer → length (string (wires (calls_left past)) vs) ≤ length buffer
        → (w : Writes p u m (calls_left past) (string (wires (calls_left past)) vs)) × (w.choice ≡ vs) × (w.buffer ≡ buffer)
    pub handed_out_agree : accepted → (w : Writes p u m (calls_left past) narg) → handed_out past ≡ shown_by p u m w
    pub states_agree : accepted → (w : Writes p u m (calls_left past) narg) → e.core.state ≡ (end_of p u m w).core.state
    pub state_is_the_intake : accepted → (w : Writes p u m (calls_left past) narg) → e.core.state ≡ taken_in m (calls_left past) w.choice
    pub accepted_is_a_string : accepted → StringOf (wires (calls_left past)) narg

  -- a string that a verifier with these calls left accepts
  pub record Accepts (m : Making S) (cs : List (Call (Coding I))) (s : List ℕ) : Type 0 where
    pub bytes : Bytes s
    pub past : List (Asked I)
    pub last : Verifier S
    pub ran : Ran p u past (verifier m s) last
    pub left : calls_left past ≡ cs
    pub accepted : finish last ≡ Ok tt

  -- For a challenger and a unit; the calls and their codecs are any. It speaks of an end and of whether its finish was accepted.
  pub record Law (e : Verifier S) (accepted : Type 0) : Type 0 where
    pub of_pasts : (m : Making S) (narg : List ℕ) (past : List (Asked I)) → Ran p u past (verifier m narg) e → OfPast m narg past e accepted
    pub strings_apart : StringsApart
    pub no_accepted_string_begins_another : (m n : Making S) (cs ds : List (Call (Coding I))) → wires cs ≡ wires ds
        → (s rest : List ℕ) → Accepts m cs s → Accepts n ds (s ++ rest) → rest ≡ []
    pub intakes_apart : (cs : List (Call (Coding I))) (vs ws : Values (wires cs)) → LawfulCalls cs → AllAllowed (wires cs) vs → AllAllowed (wires cs) ws
        → IntakesApart u cs vs ws
    -- string and intake are what a prover's calls write and take in, as long as none is refused
    pub provers_write_the_string : (m : Making S) (cs : List (Call (Coding I))) (vs : Values (wires cs)) (buffer : List ℕ)
        → NoneRefused p u cs vs (prover p u m buffer)
        → take (plays p u cs vs (prover p u m buffer)).filled (plays p u cs vs (prover p u m buffer)).buffer ≡ string (wires cs) vs
    pub provers_take_in_the_intake : (m : Making S) (cs : List (Call (Coding I))) (vs : Values (wires cs)) (buffer : List ℕ)
        → NoneRefused p u cs vs (prover p u m buffer) → (plays p u cs vs (prover p u m buffer)).core.state ≡ taken_in m cs vs

  -- Of a prover's past from the making over a buffer to an end, whose finish answered a count: the calls left are the pattern's steps in order,
  -- and buffer, count and challenger are those of their string and intake.
  pub record Finished (m : Making S) (past : List (Told I)) (e : Prover S) (count : ℕ) : Type 0 where
    pub in_order : InOrder m.domain.steps (wires (told_calls (kept_told past)))
    pub written : take count e.buffer ≡ string (wires (told_calls (kept_told past))) (told_values (kept_told past))
    pub long : count ≡ length (string (wires (told_calls (kept_told past))) (told_values (kept_told past)))
    pub taken : e.core.state ≡ taken_in m (told_calls (kept_told past)) (told_values (kept_told past))

  -- of an end, and of what its finish answered
  pub record ProverLaw (e : Prover S) (answer : Result ℕ TranscriptError) : Type 0 where
    pub of_pasts : (m : Making S) (buffer : List ℕ) (past : List (Told I)) → Wrote p u past (prover p u m buffer) e
        → (count : ℕ) → answer ≡ Ok count → Finished m past e count
