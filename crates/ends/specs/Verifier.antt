-- The verifier's end over a string: its calls and its finish.
use Rattle.std.specs.Prelude.{ℕ, zero, suc, ◌+◌, ◌*◌, Bool, true, cond, ◌&&◌, List, [], ◌∷◌, ◌++◌, length, take, drop, Ok, Err, Result, ◌==◌, nat_le, slice_index_or}
use Rattle.challenger.specs.Sponge.{Sponge, absorbed}
use Rattle.codec.specs.Coding.{Wire, Coding}
use Rattle.digits.specs.Digits.{number}
use Rattle.domain_separator.specs.Domains.{Domain}
use Rattle.ends.specs.Calls.{Call, scalars, bytes, challenge, begin, end, abort, wired}
use Rattle.ends.specs.Questions.{Outcome, Question, ask, put, yes}
use Rattle.ends.specs.Shared as shared
use Rattle.ends.specs.Shared.{Core, seeded, stopped, stepped, sample, sampled_state}
use Rattle.error.specs.declared.TranscriptError.{TranscriptError}
use Rattle.error.specs.declared.TranscriptError.TheVariants.{ShortProof, ReadOverMax, MissingValues, ShortValues, BadValue, TrailingBytes}
use Rattle.length_prefix.specs.Prefix.{width}
use Rattle.player.specs.Plays.{played_out}
use Rattle.std.specs.Result.{result_and}
use Rattle.std.specs.List.{flat_map}

pub record Verifier (State : Type 0) : Type 0 where
  pub core : Core State
  pub narg : List ℕ
  -- how much of the string has been read
  pub place : ℕ

abbrev pub with_core : {S : Type 0} → Core S → Verifier S → Verifier S
with_core c e = record { core = c; narg = e.narg; place = e.place }

abbrev pub made : {S I : Type 0} → Sponge S I → (List ℕ → List I) → Domain → List ℕ → S → Verifier S
made p u d narg s = record { core = seeded p u d s; narg = narg; place = 0 }

abbrev pub halted : {S : Type 0} → Verifier S → Verifier S
halted e = with_core (stopped e.core) e

-- with the next step played, at a place and with a state of the challenger; live, or ended by a reading that failed
abbrev pub went : {S : Type 0} → ℕ → S → Verifier S → Verifier S
went place s e = record { core = stepped s e.core; narg = e.narg; place = place }

abbrev pub failed : {S : Type 0} → ℕ → S → Verifier S → Verifier S
failed place s e = record { core = stopped (stepped s e.core); narg = e.narg; place = place }

abbrev pub stepping : {S : Type 0} → Call Wire → Verifier S → List (Question (Verifier S))
stepping c e = shared.stepping (λ e. e.core) with_core c e

-- ---- what stands in the string

-- n parts of w bytes each
abbrev pub cut : ℕ → ℕ → List ℕ → List (List ℕ)
cut zero w s = []
cut (suc n) w s = take w s ∷ cut n w (drop w s)

abbrev pub all_good : Wire → List (List ℕ) → Bool
all_good w [] = true
all_good w (v ∷ vs) = w.decodes v && all_good w vs

-- the values before the first that the codec does not take
abbrev pub good : Wire → List (List ℕ) → List (List ℕ)
good w [] = []
good w (v ∷ vs) = cond (w.decodes v) (v ∷ good w vs) []

-- the prefix at the place, its count, and the place past it
abbrev pub prefix_at : {S : Type 0} → ℕ → Verifier S → List ℕ
prefix_at max e = take (width max) (drop e.place e.narg)

abbrev pub count_at : {S : Type 0} → ℕ → Verifier S → ℕ
count_at max e = number (prefix_at max e)

abbrev pub past_prefix : {S : Type 0} → ℕ → Verifier S → ℕ
past_prefix max e = e.place + width max

-- so many values, or bytes, as the count says, and the place past n values
abbrev pub values_at : {S : Type 0} → Wire → ℕ → Verifier S → List (List ℕ)
values_at w max e = cut (count_at max e) w.wide (drop (past_prefix max e) e.narg)

abbrev pub part_at : {S : Type 0} → ℕ → Verifier S → List ℕ
part_at max e = take (count_at max e) (drop (past_prefix max e) e.narg)

abbrev pub past_values : {S : Type 0} → Wire → ℕ → ℕ → Verifier S → ℕ
past_values w n max e = past_prefix max e + n * w.wide

-- the first value that the codec does not take, by its index and the codec's fault
abbrev pub bad_value : Wire → List (List ℕ) → TranscriptError
bad_value w vs = BadValue (length (good w vs)) (w.fault (slice_index_or vs (length (good w vs)) []))

-- ---- the calls

-- What a verifier's call answers: the values, which it has stored; a part of the string, with its place; a challenge; or nothing.
abbrev pub Reply : Call Wire → Type 0
Reply (scalars label w max) = List (List ℕ)
Reply (bytes label max) = ℕ × List ℕ
Reply (challenge label w) = List ℕ
Reply (begin kind label name) = Unit {0}
Reply (end kind label name) = Unit {0}
Reply abort = Unit {0}

module _ {S I : Type 0} (p : Sponge S I) (u : List ℕ → List I) where
  -- the challenger's state with the count taken in, and then some values
  abbrev pub with_count : ℕ → Verifier S → S
  with_count max e = absorbed p (u (prefix_at max e)) e.core.state

  abbrev pub with_values : Coding I → List (List ℕ) → ℕ → Verifier S → S
  with_values k vs max e = absorbed p (flat_map k.items vs) (with_count max e)

  -- 20: does the codec take each value? The earlier ones are stored and taken in, and the place is past the bad one.
  abbrev pub taking : Coding I → ℕ → Verifier S → Question (Verifier S)
  taking k max e =
      let vs = values_at k.wire max e in
      record {
        holds = all_good k.wire vs;
        refusal = bad_value k.wire vs;
        stored = good k.wire vs;
        leaves = failed (past_values k.wire (suc (length (good k.wire vs))) max e) (with_values k (good k.wire vs) max e) e;
      }

  -- 16 and 17, for the prefix
  abbrev pub counting : ℕ → Verifier S → List (Question (Verifier S))
  counting max e =
      ask (nat_le (past_prefix max e) (length e.narg)) ShortProof (failed e.place e.core.state e)
      ∷ ask (nat_le (count_at max e) max) ReadOverMax (failed (past_prefix max e) e.core.state e)
      ∷ []

  -- The room is that of the buffer for values.
  abbrev pub questions : Call (Coding I) → (room : ℕ) → Verifier S → List (Question (Verifier S))
  questions (scalars label k max) room e =
      stepping (scalars label k.wire max) e
      ++ (counting max e
      ++ ask (nat_le (past_values k.wire (count_at max e) max e) (length e.narg)) MissingValues (failed (past_prefix max e) (with_count max e) e)
      ∷ ask (nat_le (count_at max e) room) ShortValues e
      ∷ taking k max e
      ∷ [])
  questions (bytes label max) room e =
      stepping (bytes label max) e
      ++ (counting max e ++ ask (nat_le (past_prefix max e + count_at max e) (length e.narg)) ShortProof (failed (past_prefix max e) e.core.state e) ∷ [])
  questions (challenge label k) room e = shared.drawing (λ e. e.core) with_core k.wire (challenge label k.wire) e
  questions (begin kind label name) room e = stepping (begin kind label name) e
  questions (end kind label name) room e = stepping (end kind label name) e
  questions abort room e = []

  -- what a call comes to where no question is answered with no
  abbrev pub passes : (c : Call (Coding I)) → Verifier S → Outcome (Reply (wired c)) (Verifier S)
  passes (scalars label k max) e = record {
    answer = Ok (values_at k.wire max e);
    stored = values_at k.wire max e;
    left = went (past_values k.wire (count_at max e) max e) (with_values k (values_at k.wire max e) max e) e;
  }
  passes (bytes label max) e = yes (past_prefix max e, part_at max e) (went (past_prefix max e + count_at max e) (absorbed p (u (part_at max e)) (with_count max e)) e)
  passes (challenge label k) e = yes (sample p k.wire e.core.state) (with_core (stepped (sampled_state p k.wire e.core.state) e.core) e)
  passes (begin kind label name) e = yes tt (with_core (stepped e.core.state e.core) e)
  passes (end kind label name) e = yes tt (with_core (stepped e.core.state e.core) e)
  passes abort e = yes tt (halted e)

  abbrev pub asked : (c : Call (Coding I)) → (room : ℕ) → Verifier S → Outcome (Reply (wired c)) (Verifier S)
  asked c room e = put (questions c room e) (passes c e)

-- 12, 21 and 22
abbrev pub finish : {S : Type 0} → Verifier S → Result (Unit {0}) TranscriptError
finish e = result_and (played_out e.core.play) (cond (e.place == (length e.narg)) (Ok tt) (Err TrailingBytes))
