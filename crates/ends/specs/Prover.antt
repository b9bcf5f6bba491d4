-- The prover's end, with the buffer that its calls are given: its calls and its finish.
use Rattle.std.specs.Prelude.{ℕ, ◌+◌, List, [], ◌∷◌, ◌++◌, length, take, drop, Result, nat_le}
use Rattle.challenger.specs.Sponge.{Sponge, absorbed}
use Rattle.codec.specs.Coding.{Wire, Coding}
use Rattle.domain_separator.specs.Domains.{Domain}
use Rattle.ends.specs.Calls.{Call, scalars, bytes, challenge, begin, end, abort, wired}
use Rattle.ends.specs.Format.{Given, prefix, written}
use Rattle.ends.specs.Questions.{Outcome, Question, ask, put, yes}
use Rattle.ends.specs.Shared as shared
use Rattle.ends.specs.Shared.{Core, seeded, stopped, stepped, sample, sampled_state}
use Rattle.error.specs.declared.TranscriptError.{TranscriptError}
use Rattle.error.specs.declared.TranscriptError.TheVariants.{CountOverMax, ShortBuffer}
use Rattle.player.specs.Plays.{played_out}
use Rattle.std.specs.Result.{result_map_both}
use Rattle.std.specs.List.{flat_map}

pub record Prover (State : Type 0) : Type 0 where
  pub core : Core State
  pub buffer : List ℕ
  -- how much of the buffer is written
  pub filled : ℕ

abbrev pub with_core : {S : Type 0} → Core S → Prover S → Prover S
with_core c e = record { core = c; buffer = e.buffer; filled = e.filled }

abbrev pub made : {S I : Type 0} → Sponge S I → (List ℕ → List I) → Domain → List ℕ → S → Prover S
made p u d buffer s = record { core = seeded p u d s; buffer = buffer; filled = 0 }

-- with the next step played, bytes written after the filled part, and a state of the challenger
abbrev pub grown : {S : Type 0} → List ℕ → S → Prover S → Prover S
grown bs s e = record {
  core = stepped s e.core;
  buffer = take e.filled e.buffer ++ (bs ++ drop (e.filled + length bs) e.buffer);
  filled = e.filled + length bs;
}

abbrev pub halted : {S : Type 0} → Prover S → Prover S
halted e = with_core (stopped e.core) e

abbrev pub stepping : {S : Type 0} → Call Wire → Prover S → List (Question (Prover S))
stepping c e = shared.stepping (λ e. e.core) with_core c e

-- 11 to 15, for a message of so many values or bytes that is written so
abbrev pub adding : {S : Type 0} → Call Wire → (count max : ℕ) → List ℕ → Prover S → List (Question (Prover S))
adding c count max bs e = ask (nat_le count max) CountOverMax (halted e) ∷ stepping c e ++ ask (nat_le (e.filled + length bs) (length e.buffer)) ShortBuffer e ∷ []

-- What a prover's call answers: a challenge, or nothing.
abbrev pub Got : Call Wire → Type 0
Got (scalars label w max) = Unit {0}
Got (bytes label max) = Unit {0}
Got (challenge label w) = List ℕ
Got (begin kind label name) = Unit {0}
Got (end kind label name) = Unit {0}
Got abort = Unit {0}

module _ {S I : Type 0} (p : Sponge S I) (u : List ℕ → List I) where
  -- the challenger's state with a count taken in
  abbrev pub with_count : (max count : ℕ) → S → S
  with_count max count s = absorbed p (u (prefix max count)) s

  abbrev pub questions : (c : Call (Coding I)) → Given (wired c) → Prover S → List (Question (Prover S))
  questions (scalars label k max) vs e = adding (scalars label k.wire max) (length vs) max (written (scalars label k.wire max) vs) e
  questions (bytes label max) bs e = adding (bytes label max) (length bs) max (written (bytes label max) bs) e
  questions (challenge label k) g e = shared.drawing (λ e. e.core) with_core k.wire (challenge label k.wire) e
  questions (begin kind label name) g e = stepping (begin kind label name) e
  questions (end kind label name) g e = stepping (end kind label name) e
  questions abort g e = []

  -- what a call comes to where no question is answered with no
  abbrev pub passes : (c : Call (Coding I)) → Given (wired c) → Prover S → Outcome (Got (wired c)) (Prover S)
  passes (scalars label k max) vs e =
      yes tt (grown (written (scalars label k.wire max) vs) (absorbed p (flat_map k.items vs) (with_count max (length vs) e.core.state)) e)
  passes (bytes label max) bs e = yes tt (grown (written (bytes label max) bs) (absorbed p (u bs) (with_count max (length bs) e.core.state)) e)
  passes (challenge label k) g e = yes (sample p k.wire e.core.state) (with_core (stepped (sampled_state p k.wire e.core.state) e.core) e)
  passes (begin kind label name) g e = yes tt (with_core (stepped e.core.state e.core) e)
  passes (end kind label name) g e = yes tt (with_core (stepped e.core.state e.core) e)
  passes abort g e = yes tt (halted e)

  abbrev pub told : (c : Call (Coding I)) → Given (wired c) → Prover S → Outcome (Got (wired c)) (Prover S)
  told c g e = put (questions c g e) (passes c g e)

-- 12 and 21; it answers how many bytes are written
abbrev pub finish : {S : Type 0} → Prover S → Result ℕ TranscriptError
finish e = result_map_both (λ _. e.filled) (λ r. r) (played_out e.core.play)
