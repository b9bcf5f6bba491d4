-- What a rendering tells.
use Rattle.std.specs.Prelude.{◌≡◌, ℕ, ◌^◌, ◌<◌, List, [], ◌++◌, map, length}
use Rattle.digits.specs.Digits.{Bytes}
use Rattle.std.specs.List.{AllByRecursion}
use Rattle.step.specs.Steps.{length_count}
use Rattle.step.specs.declared.interaction.Hierarchy.{Hierarchy}
use Rattle.step.specs.declared.interaction.Interaction.{Interaction}
use Rattle.step.specs.declared.interaction.Kind.{Kind}
use Rattle.step.specs.declared.interaction.Length.{Length}
use Rattle.step.specs.declared.text.Text.{Text}
use Rattle.step.specs.declared.type_tag.TypeTag.{TypeTag}
use Rattle.render.specs.Rendering.{rendering}

-- what a step shows of itself: all but its type name
pub record Shown : Type 0 where
  pub hierarchy : Hierarchy
  pub kind : Kind
  pub label : Text
  pub length : Length
  pub tag : TypeTag

abbrev pub shown : Interaction → Shown
shown s = record { hierarchy = s.hierarchy; kind = s.kind; label = s.label; length = s.length; tag = s.type_tag }

-- a step as it lies in memory: its numbers have at most 64 bits, and its basis is 32 bytes
pub record Stored (s : Interaction) : Type 0 where
  pub count : length_count s.length < 2 ^ 64
  pub modulus : s.type_tag.modulus < 2 ^ 64
  pub degree : s.type_tag.degree < 2 ^ 64
  pub whole : length s.type_tag.basis ≡ 32
  pub bytes : Bytes s.type_tag.basis

-- steps as they lie in memory
pub record Steps : Type 0 where
  pub list : List Interaction
  pub few : length list < 2 ^ 64
  pub stored : AllByRecursion Stored list

pub record RenderingsTell : Type 0 where
  -- as many steps, alike in all that they show
  pub tell : (a b : Steps) → rendering a.list ≡ rendering b.list → map shown a.list ≡ map shown b.list
  -- no rendering is the beginning of another
  pub prefix_free : (a b : Steps) (rest : List ℕ) → rendering a.list ++ rest ≡ rendering b.list → rest ≡ []
  -- type names make no difference
  pub unnamed : (xs ys : List Interaction) → map shown xs ≡ map shown ys → rendering xs ≡ rendering ys
