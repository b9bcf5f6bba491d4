-- The openers of a sequence: one step more, how far they reach, and what closing it comes to.
use Rattle.std.proofs.Common.{◌≡◌, ℕ, ◌+◌, Bool, true, false, cond, ltb, List, [], ◌∷◌, ◌++◌, length, is_ok, Ok, Err, Result, sym, refl, ap, ◌∙◌, subst, arith, length-append}
use Rattle.error.specs.declared.TranscriptError.{TranscriptError}
use Rattle.error.specs.declared.TranscriptError.TheVariants.{MismatchedBeginEnd, InvalidKind, PatternFull}
use Rattle.std.proofs.lemmas.List.{append_assoc, append-nil}
use Rattle.step.specs.declared.interaction.Hierarchy.{Hierarchy}
use Rattle.step.specs.declared.interaction.Hierarchy.TheVariants.{Atomic, Begin, End}
use Rattle.step.specs.declared.interaction.Interaction.{Interaction}
use Rattle.step.specs.Steps.{admits, closes}
use Rattle.pattern.specs.Patterns.{Within}
use Rattle.pattern.specs.Rows.{then}
use Rattle.pattern.specs.Walk.{Open, nested, closed, structure, placed, met, ended, walk, checked, runs, opens, openers, step_at}
use Rattle.pattern.proofs.Stacks.{clash, within_rest, within_more, within_push}
use Rattle.pattern.proofs.Walking.{walk_more, walk_none}

then_assoc : {A B C : Type 0} (m : Result A TranscriptError) (f : A → Result B TranscriptError) (g : B → Result C TranscriptError) → then m (λ x. then (f x) g) ≡ then (then m f) g
then_assoc (Ok x) f g = refl
then_assoc (Err e) f g = refl

then_same : {A B : Type 0} (m : Result A TranscriptError) (f g : A → Result B TranscriptError) → ((x : A) → f x ≡ g x) → then m f ≡ then m g
then_same (Ok x) f g h = h x
then_same (Err e) f g h = refl

pub runs_more : (before : List Interaction) (bs : List ℕ) (s : Interaction) (ss : List Interaction) → runs before bs (s ∷ ss) ≡ then (met before bs s) (λ o. runs (before ++ s ∷ []) o ss)
unfolding runs
runs_more before bs s ss = refl

pub runs_none : (before : List Interaction) (bs : List ℕ) → runs before bs [] ≡ Ok bs
unfolding runs
runs_none before bs = refl

-- one sequence after another
pub runs_append : (before : List Interaction) (bs : List ℕ) (ss ts : List Interaction) → runs before bs (ss ++ ts) ≡ then (runs before bs ss) (λ o. runs (before ++ ss) o ts)
runs_append before bs [] ts = ap (λ b. runs b bs ts) (sym (append-nil before)) ∙ sym (ap (λ m. then m (λ o. runs (before ++ []) o ts)) (runs_none before bs))
runs_append before bs (s ∷ ss) ts =
    runs_more before bs s (ss ++ ts)
    ∙ then_same (met before bs s) _ _ (λ o. runs_append (before ++ s ∷ []) o ss ts ∙ then_same (runs (before ++ s ∷ []) o ss) _ _ (λ q. ap (λ b. runs b q ts) (append_assoc before (s ∷ []) ss)))
    ∙ then_assoc (met before bs s) (λ o. runs (before ++ s ∷ []) o ss) (λ q. runs (before ++ s ∷ ss) q ts)
    ∙ sym (ap (λ m. then m (λ q. runs (before ++ s ∷ ss) q ts)) (runs_more before bs s ss))

runs_one : (before : List Interaction) (bs : List ℕ) (s : Interaction) → runs before bs (s ∷ []) ≡ met before bs s
runs_one before bs s = runs_more before bs s [] ∙ by (met before bs s)
  where
    by : (m : Open) → then m (λ o. runs (before ++ s ∷ []) o []) ≡ m
    by (Ok o) = runs_none (before ++ s ∷ []) o
    by (Err e) = refl

pub opens_push : (ss : List Interaction) (s : Interaction) → opens (ss ++ s ∷ []) ≡ then (opens ss) (λ bs. met ss bs s)
opens_push ss s = runs_append [] [] ss (s ∷ []) ∙ then_same (opens ss) _ _ (λ o. runs_one ss o s)

-- a walk over steps is their openers and then the end
pub walk_runs : (before : List Interaction) (bs : List ℕ) (ss : List Interaction) → walk (λ s. Ok s) before bs ss ≡ then (runs before bs ss) (λ o. ended (before ++ ss) o)
walk_runs before bs [] = walk_none (λ s. Ok s) before bs ∙ ap (λ b. ended b bs) (sym (append-nil before)) ∙ sym (ap (λ m. then m (λ o. ended (before ++ []) o)) (runs_none before bs))
walk_runs before bs (s ∷ ss) =
    walk_more (λ s. Ok s) before bs s ss
    ∙ then_same (met before bs s) _ _ (λ o. walk_runs (before ++ s ∷ []) o ss ∙ then_same (runs (before ++ s ∷ []) o ss) _ _ (λ q. ap (λ b. ended b q) (append_assoc before (s ∷ []) ss)))
    ∙ then_assoc (met before bs s) (λ o. runs (before ++ s ∷ []) o ss) (λ q. ended (before ++ s ∷ ss) q)
    ∙ sym (ap (λ m. then m (λ q. ended (before ++ s ∷ ss) q)) (runs_more before bs s ss))

pub checked_opens : (ss : List Interaction) → checked ss ≡ then (opens ss) (λ o. ended ss o)
checked_opens ss = walk_runs [] [] ss

-- ---- openers lie before the end, and there are no more of them than steps

pub cond_ok : (v : Bool) (go o : List ℕ) (e : TranscriptError) → cond v (Ok go) (Err e) ≡ Ok o → go ≡ o
cond_ok true go o e h = cc
cond_ok false go o e h = clash cc

pub nested_ok : (before : List Interaction) (bs : List ℕ) (s : Interaction) (go o : List ℕ) → nested before bs s go ≡ Ok o → go ≡ o
nested_ok before [] s go o e = cc
nested_ok before (b ∷ bs) s go o e = cond_ok (admits (step_at before b) s) go o (InvalidKind b (length before)) e

closed_within : (before : List Interaction) (bs : List ℕ) (s : Interaction) (o : List ℕ) (n : ℕ) → Within n bs → closed before bs s ≡ Ok o → Within n o
closed_within before [] s o n w e = clash cc
closed_within before (b ∷ bs) s o n w e =
    subst (Within n) (cond_ok (closes s (step_at before b)) bs o (MismatchedBeginEnd b (length before)) e) (within_rest n (b ∷ bs) w)

structure_within : (before : List Interaction) (bs : List ℕ) (s : Interaction) (h : Hierarchy) (o : List ℕ) → Within (length before) bs → structure before bs s h ≡ Ok o → Within (length before + 1) o
structure_within before bs s Atomic o w e = subst (Within (length before + 1)) (nested_ok before bs s bs o e) (within_more (length before) bs w)
structure_within before bs s Begin o w e = subst (Within (length before + 1)) (nested_ok before bs s (length before ∷ bs) o e) (within_push (length before) bs w)
structure_within before bs s End o w e = within_more (length before) o (closed_within before bs s o (length before) w e)

pub placed_ok : (n : ℕ) (r : Open) (o : List ℕ) → placed n r ≡ Ok o → r ≡ Ok o
placed_ok n (Ok b) o e = ap Ok (cond_ok (ltb n 64) b o PatternFull e)
placed_ok n (Err x) o e = clash cc

pub met_within : (before : List Interaction) (bs : List ℕ) (s : Interaction) (o : List ℕ) → Within (length before) bs → met before bs s ≡ Ok o → Within (length (before ++ s ∷ [])) o
unfolding met
met_within before bs s o w e =
    let long : length before + 1 ≡ length (before ++ s ∷ []) = sym (length-append before (s ∷ [])) in
    subst (λ n. Within n o) long (structure_within before bs s s.hierarchy o w (placed_ok (length before) (structure before bs s s.hierarchy) o e))

module _ (before : List Interaction) (s : Interaction) (ss : List Interaction) (o : List ℕ) (go : (q : List ℕ) → Within (length (before ++ s ∷ [])) q → runs (before ++ s ∷ []) q ss ≡ Ok o → Within (length ((before ++ s ∷ []) ++ ss)) o) where
  within_by : (bs : List ℕ) (m : Open) → met before bs s ≡ m → Within (length before) bs → then m (λ q. runs (before ++ s ∷ []) q ss) ≡ Ok o → Within (length ((before ++ s ∷ []) ++ ss)) o
  within_by bs (Ok q) e w h = go q (met_within before bs s q w e) h
  within_by bs (Err x) e w h = clash cc

runs_within : (before : List Interaction) (bs : List ℕ) (ss : List Interaction) (o : List ℕ) → Within (length before) bs → runs before bs ss ≡ Ok o → Within (length (before ++ ss)) o
runs_within before bs [] o w e =
    let same : bs ≡ o = let x = sym (runs_none before bs) ∙ e in cc in
    subst (λ l. Within (length l) o) (sym (append-nil before)) (subst (Within (length before)) same w)
runs_within before bs (s ∷ ss) o w e =
    subst (λ l. Within (length l) o) (append_assoc before (s ∷ []) ss)
    (within_by before s ss o (λ q wq h. runs_within (before ++ s ∷ []) q ss o wq h) bs (met before bs s) refl w (sym (runs_more before bs s ss) ∙ e))

pub opens_within : (ss : List Interaction) (bs : List ℕ) → opens ss ≡ Ok bs → Within (length ss) bs
opens_within ss bs e = runs_within [] [] ss bs (record { low = tt; few = omega arith }) e

pub opened : (r : Open) (bs : List ℕ) → is_ok r ≡ true → openers r ≡ bs → r ≡ Ok bs
opened (Ok b) bs t e = ap Ok e
opened (Err x) bs t e = clash (let z : false ≡ true = t in cc)
