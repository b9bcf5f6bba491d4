-- Where a list of questions stops, and the three that every step is put, by what the player answers.
use Rattle.std.proofs.Common.{◌≡◌, ℕ, ◌<◌, Bool, true, false, cond, not, ltb, List, [], ◌∷◌, ◌++◌, length, is_ok, Some, Ok, Err, sym, refl, ap, ◌∙◌, arith, ltb-true}
use Rattle.codec.specs.Coding.{Wire}
use Rattle.ends.proofs.Ahead.{clash, ahead_some, some_left_is}
use Rattle.ends.specs.Calls.{Call, step}
use Rattle.ends.specs.Questions.{Outcome, Question, ask, put}
use Rattle.ends.specs.Shared.{Core, stopped, ahead, some_left, is_that, next_is, stepping}
use Rattle.error.specs.declared.TranscriptError.{TranscriptError}
use Rattle.error.specs.declared.TranscriptError.TheVariants.{Ended, NoStepLeft, StepMismatch}
use Rattle.pattern.specs.Walk.{step_at}
use Rattle.player.specs.Plays.{Play, Answer, asked}
use Rattle.std.specs.List.{AllByRecursion as All}
use Rattle.step.specs.declared.interaction.Interaction.{Interaction}
use Rattle.step.specs.Steps.{alike}

-- what a question answered with no comes to
abbrev pub no_to : {R E : Type 0} → Question E → Outcome R E
no_to q = record { answer = Err q.refusal; stored = q.stored; left = q.leaves }

-- every question is answered with yes
abbrev pub Holds : {E : Type 0} → List (Question E) → Type 0
Holds = All (λ q. q.holds ≡ true)

module _ {R E : Type 0} where
  pub put_on : (q : Question E) (qs : List (Question E)) (o : Outcome R E) → q.holds ≡ true → put (q ∷ qs) o ≡ put qs o
  put_on q qs o h = ap (λ b. cond b (put qs o) (no_to q)) h

  pub put_no : (q : Question E) (qs : List (Question E)) (o : Outcome R E) → q.holds ≡ false → put (q ∷ qs) o ≡ no_to q
  put_no q qs o h = ap (λ b. cond b (put qs o) (no_to q)) h

  pub put_all : (qs : List (Question E)) (o : Outcome R E) → Holds qs → put qs o ≡ o
  put_all [] o h = refl
  put_all (q ∷ qs) o h = put_on q qs o h.0 ∙ put_all qs o h.1

  -- past questions that are answered with yes
  pub put_past : (before behind : List (Question E)) (o : Outcome R E) → Holds before → put (before ++ behind) o ≡ put behind o
  put_past [] behind o h = refl
  put_past (q ∷ before) behind o h = put_on q (before ++ behind) o h.0 ∙ put_past before behind o h.1

  -- at the first that is answered with no
  pub put_stops : (before : List (Question E)) (q : Question E) (behind : List (Question E)) (o : Outcome R E) → Holds before → q.holds ≡ false
      → put (before ++ (q ∷ behind)) o ≡ no_to q
  put_stops before q behind o h n = put_past before (q ∷ behind) o h ∙ put_no q behind o n

  pub put_unrefused : (qs : List (Question E)) (o : Outcome R E) → is_ok (put qs o).answer ≡ true → Holds qs
  put_unrefused [] o h = tt
  put_unrefused (q ∷ qs) o h = go q.holds refl h (put_unrefused qs o)
    where
      go : (b : Bool) → q.holds ≡ b → is_ok (cond b (put qs o) (no_to q)).answer ≡ true → (is_ok (put qs o).answer ≡ true → Holds qs) → Holds (q ∷ qs)
      go true e h rest = (e, rest h)
      go false e h rest = clash h

-- ---- the questions of every step, by what the player answers

-- the call's step is the one that is tested
next_alike : (c : Call Wire) (s : Interaction) (p : Play) → step c ≡ Some s → p.position < length p.pattern
    → next_is c (ahead p) ≡ alike (step_at p.pattern p.position) s
next_alike c s p e h = ap (next_is c) (ahead_some p h) ∙ ap (λ o. is_that o (step_at p.pattern p.position)) e

-- what the player answers, by its three questions
abbrev answers : (a b d : Bool) → Answer
answers a b d = cond a (Err Ended) (cond b (cond d (Ok tt) (Err StepMismatch)) (Err NoStepLeft))

same_refusal : (n r : TranscriptError) → ◌≡◌ {A = Answer} (Err n) (Err r) → n ≡ r
same_refusal n r e = cc

module _ {S E : Type 0} (core : E → Core S) (with_core : Core S → E → E) (c : Call Wire) (s : Interaction) (its : step c ≡ Some s) (e : E) where
  abbrev left : Bool
  left = ltb (core e).play.position (length (core e).play.pattern)

  abbrev alike_next : Bool
  alike_next = alike (step_at (core e).play.pattern (core e).play.position) s

  some : (b : Bool) → left ≡ b → some_left (ahead (core e).play) ≡ b
  some b y = some_left_is (core e).play ∙ y

  that : (b : Bool) → left ≡ true → alike_next ≡ b → next_is c (ahead (core e).play) ≡ b
  that b y z = next_alike c s (core e).play its (ltb-true _ _ y) ∙ z

  pub stepping_holds : asked (core e).play s ≡ Ok tt → Holds (stepping core with_core c e)
  stepping_holds h = go (core e).play.ended left alike_next refl refl refl h
    where
      go : (a b d : Bool) → (core e).play.ended ≡ a → left ≡ b → alike_next ≡ d → answers a b d ≡ Ok tt → Holds (stepping core with_core c e)
      go true b d x y z h = absurd (let z : ◌≡◌ {A = ℕ} 0 1 = cc in omega arith)
      go false false d x y z h = absurd (let z : ◌≡◌ {A = ℕ} 0 1 = cc in omega arith)
      go false true false x y z h = absurd (let z : ◌≡◌ {A = ℕ} 0 1 = cc in omega arith)
      go false true true x y z h = (ap not x, (some true y, (that true y z, tt)))

  -- where the player goes on, so do the questions
  pub stepping_on : {R : Type 0} (rest : List (Question E)) (o : Outcome R E) → asked (core e).play s ≡ Ok tt
      → put (stepping core with_core c e ++ rest) o ≡ put rest o
  stepping_on rest o h = put_past (stepping core with_core c e) rest o (stepping_holds h)

  module _ (same : with_core (core e) e ≡ e) where
    as_it_was : (core e).play.ended ≡ true → e ≡ with_core (stopped (core e)) e
    as_it_was x =
        sym same ∙ (λ i. with_core (record { play = record { pattern = (core e).play.pattern; position = (core e).play.position; ended = x i }; state = (core e).state }) e)

    -- Where it refuses, they stop; the end is ended then, and an ended one stays so.
    pub stepping_stops : {R : Type 0} (rest : List (Question E)) (o : Outcome R E) (r : TranscriptError) → asked (core e).play s ≡ Err r
        → put (stepping core with_core c e ++ rest) o ≡ record { answer = Err r; stored = []; left = with_core (stopped (core e)) e }
    stepping_stops {R} rest o r h = go (core e).play.ended left alike_next refl refl refl h
      where
        ended_so : TranscriptError → E → Outcome R E
        ended_so r l = record { answer = Err r; stored = []; left = l }

        live : Question E
        live = ask (not (core e).play.ended) Ended e

        some_step : Question E
        some_step = ask (some_left (ahead (core e).play)) NoStepLeft (with_core (stopped (core e)) e)

        this_step : Question E
        this_step = ask (next_is c (ahead (core e).play)) StepMismatch (with_core (stopped (core e)) e)

        go : (a b d : Bool) → (core e).play.ended ≡ a → left ≡ b → alike_next ≡ d → answers a b d ≡ Err r
            → put (stepping core with_core c e ++ rest) o ≡ record { answer = Err r; stored = []; left = with_core (stopped (core e)) e }
        go true b d x y z h = put_no live (some_step ∷ this_step ∷ rest) o (ap not x) ∙ (λ i. ended_so (same_refusal Ended r h i) (as_it_was x i))
        go false false d x y z h =
            put_stops (live ∷ []) some_step (this_step ∷ rest) o (ap not x, tt) (some false y)
            ∙ ap (λ n. ended_so n (with_core (stopped (core e)) e)) (same_refusal NoStepLeft r h)
        go false true false x y z h =
            put_stops (live ∷ some_step ∷ []) this_step rest o (ap not x, (some true y, tt)) (that false y z)
            ∙ ap (λ n. ended_so n (with_core (stopped (core e)) e)) (same_refusal StepMismatch r h)
        go false true true x y z h = absurd (let z : ◌≡◌ {A = ℕ} 0 1 = cc in omega arith)
