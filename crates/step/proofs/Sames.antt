-- Each test of a step's fields decides their equality, and so does the test of all six.
use Rattle.std.proofs.Common.{◌≡◌, true, false, ◌&&◌, Decides, sym, ap, ◌∙◌, rules}
use Rattle.std.proofs.Math.Bool.{and-false}
use Rattle.std.proofs.lemmas.Bool.Decides.{Decides-eqb, Decides-and, Decides-like, same_from_decides}
use Rattle.std.proofs.lemmas.Slice.Eq.{bytes_eq-Decides}
use Rattle.step.specs.Comparing.{same_fields, same_tag_fields, text_decides, tag_decides}
use Rattle.step.specs.contracts.interaction.HierarchyPartialEq.TheImpl as hierarchy_eq
use Rattle.step.specs.contracts.interaction.InteractionPartialEq.TheImpl as interaction_eq
use Rattle.step.specs.contracts.interaction.KindPartialEq.TheImpl as kind_eq
use Rattle.step.specs.contracts.interaction.LengthPartialEq.TheImpl as length_eq
use Rattle.step.specs.contracts.tag_code.TagCodePartialEq.TheImpl as code_eq
use Rattle.step.specs.contracts.text.TextPartialEq.TheImpl as text_eq
use Rattle.step.specs.contracts.type_tag.TypeTagPartialEq.TheImpl as tag_eq
use Rattle.step.specs.declared.interaction.Hierarchy.{Hierarchy}
use Rattle.step.specs.declared.interaction.Hierarchy.TheVariants.{Begin, End}
use Rattle.step.specs.declared.interaction.Interaction.{Interaction}
use Rattle.step.specs.declared.interaction.Kind.{Kind}
use Rattle.step.specs.declared.interaction.Length.{Length}
use Rattle.step.specs.Laws.{Tells, Computes}
use Rattle.step.specs.Steps.{same_hierarchy, same_kind, same_length, same_text, same_tag, same_but_hierarchy, alike, closes}

pub hierarchy_decides : (a b : Hierarchy) → Decides (same_hierarchy a b) (a ≡ b)
hierarchy_decides a b = search rules

pub kind_decides : (a b : Kind) → Decides (same_kind a b) (a ≡ b)
kind_decides a b = search rules

pub length_decides : (a b : Length) → Decides (same_length a b) (a ≡ b)
length_decides a b = search rules

pub alike_decides : (a b : Interaction) → Decides (alike a b) (a ≡ b)
unfolding alike
alike_decides a b =
    Decides-like _
    (λ e. λ i. record { hierarchy = e.0 i; kind = e.1.0 i; label = e.1.1.0 i; type_tag = e.1.1.1.0 i; type_name = e.1.1.1.1.0 i; length = e.1.1.1.1.1 i })
    (λ e. (ap (λ x. x.hierarchy) e, (ap (λ x. x.kind) e, (ap (λ x. x.label) e, (ap (λ x. x.type_tag) e, (ap (λ x. x.type_name) e, ap (λ x. x.length) e))))))
    (Decides-and _ _ (hierarchy_decides _ _) (Decides-and _ _ (kind_decides _ _) (Decides-and _ _ (text_decides _ _)
    (Decides-and _ _ (tag_decides _ _) (Decides-and _ _ (text_decides _ _) (length_decides _ _))))))

-- ---- what each derived `==` computes decides whether two values are one

pub hierarchy_tells : Tells hierarchy_eq.ghosts.eq
hierarchy_tells = search rules

pub kind_tells : Tells kind_eq.ghosts.eq
kind_tells = search rules

pub length_tells : Tells length_eq.ghosts.eq
length_tells = search rules

pub code_tells : Tells code_eq.ghosts.eq
code_tells = search rules

pub text_tells : Tells text_eq.ghosts.eq
text_tells a b =
    Decides-like _ (λ e. same_fields a b e.0 e.1) (λ e. (ap (λ t. t.bytes) e, ap (λ t. t.len) e))
    (Decides-and _ _ (bytes_eq-Decides a.bytes b.bytes) (Decides-eqb a.len b.len))

pub tag_tells : Tells tag_eq.ghosts.eq
tag_tells a b =
    Decides-like _ (λ e. same_tag_fields a b e.0 e.1.0 e.1.1.0 e.1.1.1)
    (λ e. (ap (λ t. t.code) e, (ap (λ t. t.modulus) e, (ap (λ t. t.degree) e, ap (λ t. t.basis) e))))
    (Decides-and _ _ (code_tells _ _) (Decides-and _ _ (Decides-eqb _ _) (Decides-and _ _ (Decides-eqb _ _) (bytes_eq-Decides _ _))))

-- ---- so it is the test of the definition

pub hierarchy_is : Computes hierarchy_eq.ghosts.eq same_hierarchy
hierarchy_is a b = same_from_decides _ _ (hierarchy_tells a b) (hierarchy_decides a b)

pub kind_is : Computes kind_eq.ghosts.eq same_kind
kind_is a b = same_from_decides _ _ (kind_tells a b) (kind_decides a b)

pub length_is : Computes length_eq.ghosts.eq same_length
length_is a b = same_from_decides _ _ (length_tells a b) (length_decides a b)

pub text_is : Computes text_eq.ghosts.eq same_text
text_is a b = same_from_decides _ _ (text_tells a b) (text_decides a b)

pub tag_is : Computes tag_eq.ghosts.eq same_tag
tag_is a b = same_from_decides _ _ (tag_tells a b) (tag_decides a b)

pub alike_is : Computes interaction_eq.ghosts.eq alike
unfolding alike
alike_is a b =
    λ i. hierarchy_is a.hierarchy b.hierarchy i && (kind_is a.kind b.kind i && (text_is a.label b.label i
    && (tag_is a.type_tag b.type_tag i && (text_is a.type_name b.type_name i && length_is a.length b.length i))))

-- ---- a closer is alike to the opener that ends in its place

module _ (s opener : Interaction) where
  abbrev ending : Interaction
  ending = record { hierarchy = End; kind = opener.kind; label = opener.label; type_tag = opener.type_tag; type_name = opener.type_name; length = opener.length }

  pub closes_open : hierarchy_eq.ghosts.eq opener.hierarchy Begin ≡ true → interaction_eq.ghosts.eq s ending ≡ closes s opener
  unfolding alike closes
  closes_open h =
      let open' = sym (hierarchy_is opener.hierarchy Begin) ∙ h in
      alike_is s ending ∙ sym (ap (λ t. same_hierarchy s.hierarchy End && (t && same_but_hierarchy s opener)) open')

  pub closes_shut : hierarchy_eq.ghosts.eq opener.hierarchy Begin ≡ false → false ≡ closes s opener
  unfolding closes
  closes_shut h =
      let shut = sym (hierarchy_is opener.hierarchy Begin) ∙ h in
      sym (ap (λ t. same_hierarchy s.hierarchy End && (t && same_but_hierarchy s opener)) shut ∙ and-false (same_hierarchy s.hierarchy End))
