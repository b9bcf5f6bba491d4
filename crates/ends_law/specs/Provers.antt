-- A prover by given calls: it has a choice of values, and none of its calls is refused.
use Rattle.std.specs.Prelude.{◌≡◌, ℕ, true, List, [], ◌∷◌, take, is_ok, Ok, Err, Result}
use Rattle.challenger.specs.Sponge.{Sponge}
use Rattle.codec.specs.Coding.{Wire, Coding}
use Rattle.digits.specs.Digits.{Bytes}
use Rattle.ends.specs.Calls.{Call, scalars, bytes, challenge, begin, end, abort, wired}
use Rattle.ends.specs.Format.{Given, Values, AllAllowed}
use Rattle.ends.specs.Prover.{Prover, Got, told, made, finish}
use Rattle.ends_law.specs.Pasts.{Making, wires}
use Rattle.error.specs.declared.TranscriptError.{TranscriptError}

-- what a call was given, or drew
abbrev pub shown : (c : Call Wire) → Given c → Result (Got c) TranscriptError → List (List ℕ)
shown (scalars label w max) vs r = vs
shown (bytes label max) bs r = bs ∷ []
shown (challenge label w) g (Ok v) = v ∷ []
shown (challenge label w) g (Err e) = []
shown (begin kind label name) g r = []
shown (end kind label name) g r = []
shown abort g r = []

module _ {S I : Type 0} (p : Sponge S I) (u : List ℕ → List I) where
  -- the end after its calls; that none was refused; the values given and challenges drawn, call by call
  abbrev pub plays : (cs : List (Call (Coding I))) → Values (wires cs) → Prover S → Prover S
  plays [] vs e = e
  plays (c ∷ cs) vs e = plays cs vs.1 (told p u c vs.0 e).left

  abbrev pub NoneRefused : (cs : List (Call (Coding I))) → Values (wires cs) → Prover S → Type 0
  NoneRefused [] vs e = Unit {0}
  NoneRefused (c ∷ cs) vs e = (is_ok (told p u c vs.0 e).answer ≡ true) × NoneRefused cs vs.1 (told p u c vs.0 e).left

  abbrev pub all_shown : (cs : List (Call (Coding I))) → Values (wires cs) → Prover S → List (List (List ℕ))
  all_shown [] vs e = []
  all_shown (c ∷ cs) vs e = shown (wired c) vs.0 (told p u c vs.0 e).answer ∷ all_shown cs vs.1 (told p u c vs.0 e).left

  module _ (m : Making S) where
    abbrev pub prover : List ℕ → Prover S
    prover buffer = made p u m.domain buffer m.before

    -- A prover by these calls writes this string: all its calls are given one buffer, none is refused, nor its finish, and the string is the
    -- first bytes of that buffer, as many as the finish answers.
    pub record Writes (cs : List (Call (Coding I))) (s : List ℕ) : Type 0 where
      pub choice : Values (wires cs)
      pub allowed : AllAllowed (wires cs) choice
      pub buffer : List ℕ
      pub bytes : Bytes buffer
      pub unrefused : NoneRefused cs choice (prover buffer)
      pub count : ℕ
      pub finished : finish (plays cs choice (prover buffer)) ≡ Ok count
      pub first_bytes : s ≡ take count (plays cs choice (prover buffer)).buffer

    module _ {cs : List (Call (Coding I))} {s : List ℕ} (w : Writes cs s) where
      abbrev pub end_of : Prover S
      end_of = plays cs w.choice (prover w.buffer)

      -- its values and challenges, call by call
      abbrev pub shown_by : List (List (List ℕ))
      shown_by = all_shown cs w.choice (prover w.buffer)
