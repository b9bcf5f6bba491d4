-- The nesting rule as a grammar: how steps stand within one another, with no stack and no position.
use Rattle.std.specs.Prelude.{◌≡◌, ◌⊎◌, List, [], ◌∷◌, ◌++◌, Some, None, Option}
use Rattle.step.specs.declared.interaction.Hierarchy.TheVariants.{Atomic, Begin, End}
use Rattle.step.specs.declared.interaction.Interaction.{Interaction}
use Rattle.step.specs.declared.interaction.Kind.TheVariants.{Protocol}

-- Whether a step may stand in the scope of an opener: one of kind Protocol allows every kind, any other only its own. Outside every scope each may.
abbrev pub Allowed : Option Interaction → Interaction → Type 0
Allowed None s = Unit {0}
Allowed (Some opener) s = (opener.kind ≡ Protocol) ⊎ (opener.kind ≡ s.kind)

-- the step that closes the scope of an opener: it agrees with it in all but the hierarchy
abbrev pub closer : Interaction → Interaction
closer opener =
    record { hierarchy = End; kind = opener.kind; label = opener.label; type_tag = opener.type_tag; type_name = opener.type_name; length = opener.length }

-- Steps that nest in the scope of an opener, or outside every scope. Each closer closes the innermost opener, and every scope is closed.
pub data Nests : Option Interaction → List Interaction → Type 0 where
  empty : {within : Option Interaction} → Nests within []
  leaf : {within : Option Interaction} {s : Interaction} {rest : List Interaction} → s.hierarchy ≡ Atomic → Allowed within s → Nests within rest → Nests within (s ∷ rest)
  scope : {within : Option Interaction} {opener : Interaction} {inner rest : List Interaction} → opener.hierarchy ≡ Begin → Allowed within opener → Nests (Some opener) inner → Nests within rest
      → Nests within (opener ∷ inner ++ closer opener ∷ rest)
