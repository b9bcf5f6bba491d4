-- The step that a player expects.
use Rattle.std.proofs.Common.{◌≡◌, ◌+◌, ◌<◌, true, [], ◌∷◌, ◌++◌, length, take, Ok, ap, ◌∙◌, arith, lt-ltb}
use Rattle.std.proofs.lemmas.List.{take_more}
use Rattle.std.proofs.lemmas.Bool.Decides.{nat_tests}
use Rattle.step.specs.declared.interaction.Interaction.{Interaction}
use Rattle.step.specs.Steps.{alike}
use Rattle.step.proofs.Sames.{alike_decides}
use Rattle.player.specs.Plays.{Play, asked, advanced, taken}
use Rattle.pattern.specs.Walk.{no_step, step_at}

module _ (p : Play) (s : Interaction) (yes' : Ok tt ≡ asked p s) where
  pub accepted_left : p.position < length p.pattern
  accepted_left = grind (arith, nat_tests, yes')

  accepted_alike : alike (step_at p.pattern p.position) s ≡ true
  accepted_alike = grind (arith, nat_tests, yes')

  -- the steps taken, and the one that was accepted
  pub accepted_step : take (p.position + 1) p.pattern ≡ take p.position p.pattern ++ s ∷ []
  accepted_step =
      take_more p.pattern p.position no_step accepted_left
      ∙ ap (λ x. take p.position p.pattern ++ x ∷ []) ((alike_decides (step_at p.pattern p.position) s).0 accepted_alike)

  pub accepted_taken : taken (advanced p) ≡ record { steps = take p.position p.pattern ++ s ∷ []; ended = p.ended }
  accepted_taken =
      let a = lt-ltb p.position (length p.pattern) accepted_left in
      let on : advanced p ≡ record { pattern = p.pattern; position = p.position + 1; ended = p.ended } = rw a in
      ap taken on ∙ (λ i. record { steps = accepted_step i; ended = p.ended })
