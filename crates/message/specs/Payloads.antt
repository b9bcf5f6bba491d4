-- A message behind its prefix: what a challenger takes in, and what is written or stored.
use Rattle.std.specs.Prelude.{ℕ, ◌+◌, ◌*◌, cond, List, [], ◌∷◌, ◌++◌, map, length, take, drop, Ok, Err, Result, nat_le}
use Rattle.challenger.specs.Sponge.{Sponge, absorbed}
use Rattle.codec.specs.Coding.{Coding}
use Rattle.ends.specs.Questions.{Outcome, ask, put}
use Rattle.ends.specs.Verifier.{cut, good, all_good, bad_value}
use Rattle.error.specs.declared.TranscriptError.{TranscriptError}
use Rattle.error.specs.declared.TranscriptError.TheVariants.{ShortBuffer, MissingValues, ShortValues}
use Rattle.std.specs.List.{flat_map}

-- a buffer with values stored from its start
abbrev pub stored_in : {T : Type 0} → (List ℕ → T) → List (List ℕ) → List T → List T
stored_in value vs out = map value vs ++ drop (length vs) out

-- a buffer with bytes written at a place
abbrev pub wrote : List ℕ → ℕ → List ℕ → List ℕ
wrote out at bs = take at out ++ (bs ++ drop (at + length bs) out)

-- Bytes after the filled part of a buffer, and a challenger's state before and after they are taken in: 15.
pub record Put (State : Type 0) : Type 0 where
  -- how far the buffer is filled then
  pub answer : Result ℕ TranscriptError
  pub buffer : List ℕ
  pub state : State

abbrev pub putting : {S : Type 0} → List ℕ → List ℕ → ℕ → S → S → Put S
putting bs out filled s s' =
    cond (nat_le (filled + length bs) (length out)) (record { answer = Ok (filled + length bs); buffer = wrote out filled bs; state = s' })
    (record { answer = Err ShortBuffer; buffer = out; state = s })

module _ {S I : Type 0} (p : Sponge S I) (u : List ℕ → List I) (k : Coding I) (prefix : List ℕ) where
  -- the challenger's state with a prefix taken in, and then values
  abbrev pub taken_in : List (List ℕ) → S → S
  taken_in vs s = absorbed p (flat_map k.items vs) (absorbed p (u prefix) s)

  -- So many values from the front of a string, into a buffer with so much room: 18, 19 and 20.
  abbrev pub taking : List ℕ → (count room : ℕ) → S → Outcome (Unit {0}) S
  taking s count room st =
      let vs = cut count k.wire.wide s in
      put (ask (nat_le (count * k.wire.wide) (length s)) MissingValues (absorbed p (u prefix) st)
      ∷ ask (nat_le count room) ShortValues st
      ∷ record { holds = all_good k.wire vs; refusal = bad_value k.wire vs; stored = good k.wire vs; leaves = taken_in (good k.wire vs) st }
      ∷ [])
      (record { answer = Ok tt; stored = vs; left = taken_in vs st })
