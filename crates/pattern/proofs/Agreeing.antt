-- The test of a kind and the test of a closer say what the nesting rule says.
use Rattle.std.proofs.Common.{◌≡◌, true, ◌&&◌, Some, refl, ⊎_elim}
use mathlib.Core.Logic.{⊎_map}
use Rattle.std.proofs.lemmas.Bool.{and_from, and_parts, or_cases, or_left, or_right}
use Rattle.step.proofs.Sames.{hierarchy_decides, kind_decides, alike_decides}
use Rattle.step.specs.declared.interaction.Hierarchy.TheVariants.{Begin, End}
use Rattle.step.specs.declared.interaction.Interaction.{Interaction}
use Rattle.step.specs.declared.interaction.Kind.TheVariants.{Protocol}
use Rattle.step.specs.Steps.{admits, closes, alike, same_hierarchy, same_kind, same_but_hierarchy}
use Rattle.pattern.specs.Nests.{Allowed, closer}

module _ (opener s : Interaction) where
  pub admits_allowed : admits opener s ≡ true → Allowed (Some opener) s
  unfolding admits
  admits_allowed e =
      ⊎_map (kind_decides opener.kind Protocol).0 (kind_decides opener.kind s.kind).0
      (or_cases (same_kind opener.kind Protocol) (same_kind opener.kind s.kind) e)

  pub allowed_admits : Allowed (Some opener) s → admits opener s ≡ true
  unfolding admits
  allowed_admits a =
      ⊎_elim (λ e. or_left (same_kind opener.kind Protocol) (same_kind opener.kind s.kind) ((kind_decides opener.kind Protocol).1 e))
      (λ e. or_right (same_kind opener.kind Protocol) (same_kind opener.kind s.kind) ((kind_decides opener.kind s.kind).1 e)) a

  pub closes_closer : closes s opener ≡ true → s ≡ closer opener
  unfolding closes alike
  closes_closer e =
      let parts = and_parts (same_hierarchy s.hierarchy End) (same_hierarchy opener.hierarchy Begin && same_but_hierarchy s opener) e in
      let more = and_parts (same_hierarchy opener.hierarchy Begin) (same_but_hierarchy s opener) parts.1 in
      (alike_decides s (closer opener)).0 (and_from (same_hierarchy s.hierarchy End) (same_but_hierarchy s opener) parts.0 more.1)

pub closer_closes : (opener : Interaction) → opener.hierarchy ≡ Begin → closes (closer opener) opener ≡ true
unfolding closes alike
closer_closes opener h =
    let same = and_parts (same_hierarchy End End) (same_but_hierarchy (closer opener) opener) ((alike_decides (closer opener) (closer opener)).1 refl) in
    and_from (same_hierarchy End End) (same_hierarchy opener.hierarchy Begin && same_but_hierarchy (closer opener) opener) same.0
    (and_from (same_hierarchy opener.hierarchy Begin) (same_but_hierarchy (closer opener) opener) ((hierarchy_decides opener.hierarchy Begin).1 h) same.1)
