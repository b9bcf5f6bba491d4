-- What `==` tells of the values of a step: it answers that two are equal exactly where they are one.
use Rattle.std.specs.Prelude.{◌≡◌, Bool, Decides}
use Rattle.step.specs.contracts.interaction.HierarchyPartialEq.TheImpl as hierarchy
use Rattle.step.specs.contracts.interaction.InteractionPartialEq.TheImpl as step
use Rattle.step.specs.contracts.interaction.KindPartialEq.TheImpl as kind
use Rattle.step.specs.contracts.interaction.LengthPartialEq.TheImpl as length_form
use Rattle.step.specs.contracts.tag_code.TagCodePartialEq.TheImpl as code
use Rattle.step.specs.contracts.text.TextPartialEq.TheImpl as text
use Rattle.step.specs.contracts.type_tag.TypeTagPartialEq.TheImpl as tag
use Rattle.step.specs.Steps.{same_hierarchy, same_kind, same_length, same_text, same_tag, alike}

-- a test decides whether two values are one
abbrev pub Tells : {X : Type 0} → (X → X → Bool) → Type 0
Tells {X} eq = (a b : X) → Decides (eq a b) (a ≡ b)

-- a test answers as another does
abbrev pub Computes : {X : Type 0} → (X → X → Bool) → (X → X → Bool) → Type 0
Computes {X} eq test = (a b : X) → eq a b ≡ test a b

-- Of the tests that the derived `==` compute.
pub record EqualitiesTell : Type 0 where
  pub hierarchies : Tells hierarchy.ghosts.eq
  pub kinds : Tells kind.ghosts.eq
  pub lengths : Tells length_form.ghosts.eq
  pub codes : Tells code.ghosts.eq
  pub texts : Tells text.ghosts.eq
  pub tags : Tells tag.ghosts.eq
  pub steps : Tells step.ghosts.eq
  pub same_hierarchies : Computes hierarchy.ghosts.eq same_hierarchy
  pub same_kinds : Computes kind.ghosts.eq same_kind
  pub same_lengths : Computes length_form.ghosts.eq same_length
  pub same_texts : Computes text.ghosts.eq same_text
  pub same_tags : Computes tag.ghosts.eq same_tag
  pub same_steps : Computes step.ghosts.eq alike
