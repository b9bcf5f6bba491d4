-- What one step comes to, by its hierarchy; and a step that is taken has a place.
use Rattle.std.proofs.Common.{◌≡◌, ℕ, ◌<◌, List, length, Ok, Err, sym, ap, ◌∙◌, ⊎_elim, le-ltb}
use Rattle.std.proofs.lemmas.Bool.{cases_lt}
use Rattle.error.specs.declared.TranscriptError.TheVariants.{PatternFull}
use Rattle.step.specs.declared.interaction.Hierarchy.{Hierarchy}
use Rattle.step.specs.declared.interaction.Interaction.{Interaction}
use Rattle.pattern.specs.Walk.{Open, structure, placed, met}
use Rattle.pattern.proofs.Stacks.{clash}

placed_free : (n : ℕ) (r : Open) (o : List ℕ) → Ok o ≡ placed n r → n < 64
placed_free n (Err e) o h = clash cc
placed_free n (Ok b) o h = ⊎_elim (λ lt. lt) (λ ge. let f = le-ltb n 64 ge in let g : Ok o ≡ Err PatternFull = h ∙ rw f in clash cc) (cases_lt n 64)

pub place_free : (n : ℕ) (o : List ℕ) → Ok o ≡ placed n (Ok o) → n < 64
place_free n o e = placed_free n (Ok o) o e

pub met_free : (before : List Interaction) (bs : List ℕ) (s : Interaction) (o : List ℕ) → Ok o ≡ met before bs s → length before < 64
unfolding met
met_free before bs s o h = placed_free (length before) (structure before bs s s.hierarchy) o h

module _ (before : List Interaction) (bs : List ℕ) (s : Interaction) (h : Hierarchy) (is : s.hierarchy ≡ h) where
  pub passed : (o : List ℕ) (r : Open) → Ok o ≡ structure before bs s h → r ≡ placed (length before) (Ok o) → met before bs s ≡ r
  unfolding met
  passed o r e p = ap (λ k. placed (length before) (structure before bs s k)) is ∙ ap (placed (length before)) (sym e) ∙ sym p
