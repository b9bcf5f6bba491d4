-- The past of a verifier and of a prover: any calls after the making, the refused ones included.
use Rattle.std.specs.Prelude.{◌≡◌, ℕ, cond, List, [], ◌∷◌, map, Ok, Err, Result}
use Rattle.challenger.specs.Sponge.{Sponge}
use Rattle.codec.specs.Coding.{Wire, Coding}
use Rattle.domain_separator.specs.Domains.{Domain}
use Rattle.ends.specs.Calls.{Call, scalars, bytes, challenge, begin, end, abort, wired}
use Rattle.ends.specs.Format.{Given, Values}
use Rattle.ends.specs.Prover.{Prover, Got, told}
use Rattle.ends.specs.Questions.{turned_back}
use Rattle.ends.specs.Verifier.{Verifier, Reply, asked}
use Rattle.error.specs.declared.TranscriptError.{TranscriptError}

-- How an end is made: over a challenger in a state, and for a domain, which has the pattern and gives the seed.
pub record Making (State : Type 0) : Type 0 where
  pub before : State
  pub domain : Domain

abbrev pub wires : {I : Type 0} → List (Call (Coding I)) → List (Call Wire)
wires cs = map wired cs

-- ---- a verifier's

-- a call, the room of its buffer for values, and what it answered
pub record Asked (Item : Type 0) : Type 0 where
  pub call : Call (Coding Item)
  pub room : ℕ
  pub answer : Result (Reply (wired call)) TranscriptError

-- the calls that led from one end to another
pub data Ran {S I : Type 0} (p : Sponge S I) (u : List ℕ → List I) : List (Asked I) → Verifier S → Verifier S → Type 0 where
  none : {e : Verifier S} → Ran p u [] e e
  more : {x : Asked I} {xs : List (Asked I)} {e e₁ e₂ : Verifier S}
      → x.answer ≡ (asked p u x.call x.room e).answer → e₁ ≡ (asked p u x.call x.room e).left → Ran p u xs e₁ e₂ → Ran p u (x ∷ xs) e e₂

-- a past less the calls turned back untouched
abbrev pub kept : {I : Type 0} → List (Asked I) → List (Asked I)
kept [] = []
kept (x ∷ xs) = cond (turned_back x.answer) (kept xs) (x ∷ kept xs)

abbrev pub calls_left : {I : Type 0} → List (Asked I) → List (Call (Coding I))
calls_left past = map (λ x. x.call) (kept past)

-- the values, bytes or challenge that an answer hands out
abbrev pub handed : (c : Call Wire) → Result (Reply c) TranscriptError → List (List ℕ)
handed (scalars label w max) (Ok vs) = vs
handed (scalars label w max) (Err e) = []
handed (bytes label max) (Ok r) = r.1 ∷ []
handed (bytes label max) (Err e) = []
handed (challenge label w) (Ok v) = v ∷ []
handed (challenge label w) (Err e) = []
handed (begin kind label name) r = []
handed (end kind label name) r = []
handed abort r = []

-- call by call
abbrev pub handed_out : {I : Type 0} → List (Asked I) → List (List (List ℕ))
handed_out past = map (λ x. handed (wired x.call) x.answer) (kept past)

-- ---- a prover's

-- a call, what it was given, and what it answered
pub record Told (Item : Type 0) : Type 0 where
  pub call : Call (Coding Item)
  pub given : Given (wired call)
  pub answer : Result (Got (wired call)) TranscriptError

pub data Wrote {S I : Type 0} (p : Sponge S I) (u : List ℕ → List I) : List (Told I) → Prover S → Prover S → Type 0 where
  none : {e : Prover S} → Wrote p u [] e e
  more : {x : Told I} {xs : List (Told I)} {e e₁ e₂ : Prover S}
      → x.answer ≡ (told p u x.call x.given e).answer → e₁ ≡ (told p u x.call x.given e).left → Wrote p u xs e₁ e₂ → Wrote p u (x ∷ xs) e e₂

abbrev pub kept_told : {I : Type 0} → List (Told I) → List (Told I)
kept_told [] = []
kept_told (x ∷ xs) = cond (turned_back x.answer) (kept_told xs) (x ∷ kept_told xs)

abbrev pub told_calls : {I : Type 0} → List (Told I) → List (Call (Coding I))
told_calls past = map (λ x. x.call) past

-- the values given, call by call
abbrev pub told_values : {I : Type 0} (past : List (Told I)) → Values (wires (told_calls past))
told_values [] = tt
told_values (x ∷ xs) = (x.given, told_values xs)
