-- The questions that a call is put, in order, and what it comes to.
use Rattle.std.specs.Prelude.{ℕ, Bool, false, cond, ◌||◌, List, [], ◌∷◌, Ok, Err, Result, ◌==◌}
use Rattle.error.specs.declared.TranscriptError.{TranscriptError}
use Rattle.error.specs.Numbers.{number}

-- What a call comes to: its answer, the values that it stored from the start of the buffer given to it, and the end that it leaves.
pub record Outcome (Reply End : Type 0) : Type 0 where
  pub answer : Result Reply TranscriptError
  pub stored : List (List ℕ)
  pub left : End

-- A question: whether the answer is yes; and if it is no, the refusal, the values stored before it, and the end that it leaves.
pub record Question (End : Type 0) : Type 0 where
  pub holds : Bool
  pub refusal : TranscriptError
  pub stored : List (List ℕ)
  pub leaves : End

-- one whose refusal stores nothing
abbrev pub ask : {E : Type 0} → Bool → TranscriptError → E → Question E
ask b r e = record { holds = b; refusal = r; stored = []; leaves = e }

-- The first no decides; where there is none, the call goes through.
abbrev pub put : {R E : Type 0} → List (Question E) → Outcome R E → Outcome R E
put [] o = o
put (q ∷ qs) o = cond q.holds (put qs o) (record { answer = Err q.refusal; stored = q.stored; left = q.leaves })

-- a call that went through and stored nothing
abbrev pub yes : {R E : Type 0} → R → E → Outcome R E
yes r e = record { answer = Ok r; stored = []; left = e }

-- 10, 12, 15 and 19 turn a call back untouched.
abbrev pub turns_back : TranscriptError → Bool
turns_back e = (number e == 10 || number e == 12) || (number e == 15 || number e == 19)

abbrev pub turned_back : {R : Type 0} → Result R TranscriptError → Bool
turned_back (Ok r) = false
turned_back (Err e) = turns_back e
