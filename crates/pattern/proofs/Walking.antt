-- The walk over a sequence: one candidate more, its end, and that the steps it gives pass it themselves.
use Rattle.std.proofs.Common.{◌≡◌, ℕ, ◌+◌, ◌<◌, ◌≤◌, List, [], ◌∷◌, ◌++◌, length, get_or, drop, Some, None, Ok, Err, Result, sym, refl, ap, ◌∙◌}
use Rattle.error.specs.declared.TranscriptError.{TranscriptError}
use Rattle.error.specs.declared.TranscriptError.TheVariants.{MissingEnd}
use Rattle.std.proofs.lemmas.List.{drop_more, drop_all, append_assoc, append-nil}
use Rattle.step.specs.declared.interaction.Interaction.{Interaction}
use Rattle.pattern.specs.Patterns.{Within}
use Rattle.pattern.specs.Rows.{then}
use Rattle.pattern.specs.Stack.{top}
use Rattle.pattern.specs.Walk.{Open, met, ended, walk, validated, checked}
use Rattle.pattern.proofs.Stacks.{clash}

module _ {A : Type 0} (made : A → Result Interaction TranscriptError) where
  pub walk_more : (before : List Interaction) (bs : List ℕ) (x : A) (xs : List A) → walk made before bs (x ∷ xs) ≡ then (made x) (λ s. then (met before bs s) (λ o. walk made (before ++ s ∷ []) o xs))
  unfolding walk
  walk_more before bs x xs = refl

  pub walk_none : (before : List Interaction) (bs : List ℕ) → walk made before bs [] ≡ ended before bs
  unfolding walk
  walk_none before bs = refl

  -- where the loop stands: what is left comes to the same
  abbrev pub Sofar : List A → List Interaction → List ℕ → ℕ → Type 0
  Sofar xs steps bs p = walk made steps bs (drop p xs) ≡ validated made xs

  module _ (xs : List A) (steps : List Interaction) (bs : List ℕ) (p : ℕ) (lt : p < length xs) (so : Sofar xs steps bs p) (x : A) (is : x ≡ get_or xs p x) where
    here : validated made xs ≡ then (made x) (λ s. then (met steps bs s) (λ o. walk made (steps ++ s ∷ []) o (drop (p + 1) xs)))
    here =
        sym so ∙ ap (walk made steps bs) (drop_more xs p x lt ∙ ap (λ y. y ∷ drop (p + 1) xs) (sym is)) ∙ walk_more steps bs x (drop (p + 1) xs)

    pub not_made : {e : TranscriptError} → Err e ≡ made x → validated made xs ≡ Err e
    not_made e = here ∙ ap (λ m. then m (λ s. then (met steps bs s) (λ o. walk made (steps ++ s ∷ []) o (drop (p + 1) xs)))) (sym e)

    pub not_nested : {e : TranscriptError} (s : Interaction) → Ok s ≡ made x → Err e ≡ met steps bs s → validated made xs ≡ Err e
    not_nested s m e =
        here ∙ ap (λ r. then r (λ s. then (met steps bs s) (λ o. walk made (steps ++ s ∷ []) o (drop (p + 1) xs)))) (sym m)
        ∙ ap (λ r. then r (λ o. walk made (steps ++ s ∷ []) o (drop (p + 1) xs))) (sym e)

    pub nested_more : (s : Interaction) (o : List ℕ) → Ok s ≡ made x → Ok o ≡ met steps bs s → Sofar xs (steps ++ s ∷ []) o (p + 1)
    nested_more s o m e =
        sym (here ∙ ap (λ r. then r (λ s. then (met steps bs s) (λ o. walk made (steps ++ s ∷ []) o (drop (p + 1) xs)))) (sym m)
        ∙ ap (λ r. then r (λ o. walk made (steps ++ s ∷ []) o (drop (p + 1) xs))) (sym e))

  module _ (xs : List A) (steps : List Interaction) (bs : List ℕ) (p : ℕ) (all : length xs ≤ p) (so : Sofar xs steps bs p) where
    at_end : validated made xs ≡ ended steps bs
    at_end = sym so ∙ ap (walk made steps bs) (drop_all p xs all) ∙ walk_none steps bs

    ended_some : (cs : List ℕ) (b : ℕ) → Some b ≡ top cs → ended steps cs ≡ Err (MissingEnd b)
    ended_some [] b t = clash cc
    ended_some (c ∷ cs) b t = let e : c ≡ b = cc in ap (λ k. Err (MissingEnd k)) e

    ended_none : (cs : List ℕ) → None ≡ top cs → ended steps cs ≡ Ok steps
    ended_none [] t = refl
    ended_none (c ∷ cs) t = clash cc

    pub open_at_end : (b : ℕ) → Some b ≡ top bs → validated made xs ≡ Err (MissingEnd b)
    open_at_end b t = at_end ∙ ended_some bs b t

    pub closed_at_end : None ≡ top bs → validated made xs ≡ Ok steps
    closed_at_end t = at_end ∙ ended_none bs t

-- the steps that come out pass as a sequence of their own
pub record StepsOut (before : List Interaction) (bs : List ℕ) (all : List Interaction) : Type 0 where
  pub more : List Interaction
  pub joined : all ≡ before ++ more
  pub pass : walk (λ s. Ok s) before bs more ≡ Ok all

module _ {A : Type 0} (made : A → Result Interaction TranscriptError) (all : List Interaction) where
  abbrev GoesOut : List A → Type 0
  GoesOut xs = (before : List Interaction) (bs : List ℕ) → walk made before bs xs ≡ Ok all → StepsOut before bs all

  module _ (before : List Interaction) (bs : List ℕ) (xs : List A) (rest : GoesOut xs) where
    out_met : (s : Interaction) (r : Open) → met before bs s ≡ r → then r (λ o. walk made (before ++ s ∷ []) o xs) ≡ Ok all → StepsOut before bs all
    out_met s (Err x) m e = clash cc
    out_met s (Ok o) m e =
        let out = rest (before ++ s ∷ []) o e in
        record {
          more = s ∷ out.more;
          joined = out.joined ∙ append_assoc before (s ∷ []) out.more;
          pass = walk_more (λ x. Ok x) before bs s out.more ∙ ap (λ r. then r (λ o. walk (λ x. Ok x) (before ++ s ∷ []) o out.more)) m ∙ out.pass;
        }

    out_made : (m : Result Interaction TranscriptError) → then m (λ s. then (met before bs s) (λ o. walk made (before ++ s ∷ []) o xs)) ≡ Ok all → StepsOut before bs all
    out_made (Err x) e = clash cc
    out_made (Ok s) e = out_met s (met before bs s) refl e

  out_end : (before : List Interaction) (bs : List ℕ) → ended before bs ≡ Ok all → StepsOut before bs all
  out_end before [] e =
      let is : before ≡ all = cc in
      record { more = []; joined = sym is ∙ sym (append-nil before); pass = walk_none (λ x. Ok x) before [] ∙ e }
  out_end before (b ∷ bs) e = clash cc

  pub steps_out : (xs : List A) → GoesOut xs
  steps_out [] before bs e = out_end before bs (sym (walk_none made before bs) ∙ e)
  steps_out (x ∷ xs) before bs e = out_made before bs xs (steps_out xs) (made x) (sym (walk_more made before bs x xs) ∙ e)

  pub validated_checked : (xs : List A) → validated made xs ≡ Ok all → checked all ≡ Ok all
  validated_checked xs e =
      let out = steps_out xs [] [] e in
      ap (λ l. walk (λ s. Ok s) [] [] l) out.joined ∙ out.pass

-- where the validator's loop stands
pub record Going {A : Type 0} (made : A → Result Interaction TranscriptError) (xs : List A) (steps : List Interaction) (bs : List ℕ) (p : ℕ) : Type 0 where
  pub long : length steps ≡ p
  pub within : Within p bs
  pub so : Sofar made xs steps bs p
