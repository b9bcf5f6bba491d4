-- What prover and verifier share: a player and a challenger's state, and the questions that every step is put.
use Rattle.std.specs.Prelude.{ℕ, Bool, true, false, not, List, [], ◌∷◌, drop, Some, None, Option, nat_le}
use Rattle.challenger.specs.Sponge.{Sponge, absorbed, drawn, turned}
use Rattle.codec.specs.Coding.{Wire}
use Rattle.domain_separator.specs.Domains.{Domain, domain_seed}
use Rattle.ends.specs.Calls.{Call, challenge, step}
use Rattle.ends.specs.Questions.{Outcome, Question, ask, put, yes}
use Rattle.error.specs.declared.TranscriptError.TheVariants.{WeakCodec, Ended, NoStepLeft, StepMismatch}
use Rattle.player.specs.Plays.{Play, advanced, halted}
use Rattle.step.specs.declared.interaction.Interaction.{Interaction}
use Rattle.step.specs.declared.text.Text.{Text}
use Rattle.step.specs.Steps.{alike}

pub record Core (State : Type 0) : Type 0 where
  pub play : Play
  pub state : State

-- at its making an end's challenger takes in the unit's items of the seed
abbrev pub seeded : {S I : Type 0} → Sponge S I → (List ℕ → List I) → Domain → S → Core S
seeded p u d s = record { play = record { pattern = d.steps; position = 0; ended = false }; state = absorbed p (u (domain_seed d)) s }

-- ended, and else as it was
abbrev pub stopped : {S : Type 0} → Core S → Core S
stopped c = record { play = halted c.play; state = c.state }

-- with the next step played, and a state of the challenger
abbrev pub stepped : {S : Type 0} → S → Core S → Core S
stepped s c = record { play = advanced c.play; state = s }

-- the steps not yet played
abbrev pub ahead : Play → List Interaction
ahead p = drop p.position p.pattern

abbrev pub some_left : List Interaction → Bool
some_left [] = false
some_left (s ∷ ss) = true

abbrev pub is_that : Option Interaction → Interaction → Bool
is_that None s = false
is_that (Some t) s = alike s t

abbrev pub next_is : Call Wire → List Interaction → Bool
next_is c [] = false
next_is c (s ∷ ss) = is_that (step c) s

-- Of an end that holds a core.
module _ {S E : Type 0} (core : E → Core S) (with_core : Core S → E → E) where
  -- 12 to 14: is it live, is a step left, and is that the call's, alike in every field?
  abbrev pub stepping : Call Wire → E → List (Question E)
  stepping c e =
      ask (not (core e).play.ended) Ended e
      ∷ ask (some_left (ahead (core e).play)) NoStepLeft (with_core (stopped (core e)) e)
      ∷ ask (next_is c (ahead (core e).play)) StepMismatch (with_core (stopped (core e)) e)
      ∷ []

  -- 10 before them: does the codec declare enough bits for a challenge?
  abbrev pub drawing : Wire → Call Wire → E → List (Question E)
  drawing w c e = ask (nat_le 128 w.bits) WeakCodec e ∷ stepping c e

-- a challenge, by the challenger's state
abbrev pub sample : {S I : Type 0} → Sponge S I → Wire → S → List ℕ
sample p w s = w.sampled (drawn p w.draws s)

abbrev pub sampled_state : {S I : Type 0} → Sponge S I → Wire → S → S
sampled_state p w s = turned p w.draws s

-- ---- the calls that prover and verifier share, of the core alone

-- begin and end: a step played, and nothing else
abbrev pub marked : {S : Type 0} → Call Wire → Core S → Outcome (Unit {0}) (Core S)
marked c e = put (stepping (λ x. x) (λ x _. x) c e) (yes tt (stepped e.state e))

abbrev pub challenged : {S I : Type 0} → Sponge S I → Text → Wire → Core S → Outcome (List ℕ) (Core S)
challenged p label w e =
    put (drawing (λ x. x) (λ x _. x) w (challenge label w) e) (yes (sample p w e.state) (stepped (sampled_state p w e.state) e))
