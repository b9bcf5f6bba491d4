-- Each part of a step can be read back from the beginning of a text.
use Rattle.std.proofs.Common.{◌≡◌, ℕ, ◌^◌, ◌<◌, true, false, cond, eqb, List, ◌∷◌, ◌++◌, length, get_or, drop, codes, decimal, sym, refl, ap, ◌∙◌, arith}
use borrow.Author.Tests.{eqb-false}
use Rattle.digits.specs.Digits.{Bytes as AreBytes}
use Rattle.std.proofs.lemmas.List.{append_cancel_left, append_assoc}
use Rattle.sink.specs.Writing.{hex_text}
use Rattle.sink.proofs.Reading.{decimal_tell, hex_tell}
use Rattle.step.specs.Steps.{length_count}
use Rattle.step.specs.TagCodes.{plain}
use Rattle.step.specs.declared.interaction.Hierarchy.{Hierarchy}
use Rattle.step.specs.declared.interaction.Hierarchy.TheVariants.{Atomic, Begin, End}
use Rattle.step.specs.declared.interaction.Kind.{Kind}
use Rattle.step.specs.declared.interaction.Kind.TheVariants.{Protocol, Public, Message, Hint, Challenge, Pow, Salt}
use Rattle.step.specs.declared.interaction.Length.{Length}
use Rattle.step.specs.declared.interaction.Length.TheVariants.{None, Scalar, Fixed, Bounded}
use Rattle.step.specs.declared.tag_code.TagCode.{TagCode}
use Rattle.step.specs.declared.tag_code.TagCode.TheVariants.{Marker, Bytes, Algebra}
use Rattle.render.specs.Rendering.{hierarchy_name, kind_name, length_text, tag_text_by}

-- names that one letter tells apart
by_letter : {X : Type 0} (name : X → List ℕ) (k : ℕ) (at : ℕ → X) → ((x : X) (r : List ℕ) → at (get_or (name x ++ r) k 0) ≡ x) → (x y : X) (r s : List ℕ) → name x ++ r ≡ name y ++ s → (x ≡ y) × (r ≡ s)
by_letter name k at back x y r s e =
    let same = sym (back x r) ∙ ap (λ l. at (get_or l k 0)) e ∙ back y s in
    (same, append_cancel_left (name y) r s (ap (λ z. name z ++ r) (sym same) ∙ e))

abbrev hierarchy_at : ℕ → Hierarchy
hierarchy_at c = cond (eqb c 65) Atomic (cond (eqb c 66) Begin End)

hierarchy_back : (h : Hierarchy) (r : List ℕ) → hierarchy_at (get_or (hierarchy_name h ++ r) 0 0) ≡ h
hierarchy_back Atomic r = refl
hierarchy_back Begin r = refl
hierarchy_back End r = refl

pub hierarchy_tell : (g h : Hierarchy) (r s : List ℕ) → hierarchy_name g ++ r ≡ hierarchy_name h ++ s → (g ≡ h) × (r ≡ s)
hierarchy_tell = by_letter hierarchy_name 0 hierarchy_at hierarchy_back

pub hierarchy_no_space : (h : Hierarchy) (r : List ℕ) → get_or (hierarchy_name h ++ r) 0 0 ≡ 32 → ⊥
hierarchy_no_space Atomic r e = omega arith
hierarchy_no_space Begin r e = omega arith
hierarchy_no_space End r e = omega arith

-- the second letter
abbrev kind_at : ℕ → Kind
kind_at c =
    cond (eqb c 114) Protocol (cond (eqb c 117) Public (cond (eqb c 101) Message (cond (eqb c 105) Hint (cond (eqb c 104) Challenge (cond (eqb c 111) Pow Salt)))))

kind_back : (k : Kind) (r : List ℕ) → kind_at (get_or (kind_name k ++ r) 1 0) ≡ k
kind_back Protocol r = refl
kind_back Public r = refl
kind_back Message r = refl
kind_back Hint r = refl
kind_back Challenge r = refl
kind_back Pow r = refl
kind_back Salt r = refl

pub kind_tell : (k l : Kind) (r s : List ℕ) → kind_name k ++ r ≡ kind_name l ++ s → (k ≡ l) × (r ≡ s)
kind_tell = by_letter kind_name 1 kind_at kind_back

-- the first letters differ
clash : {P : Type 0} (xs ys : List ℕ) → eqb (get_or xs 0 0) (get_or ys 0 0) ≡ false → xs ≡ ys → P
clash xs ys apart e = absurd (eqb-false (get_or xs 0 0) (get_or ys 0 0) apart (ap (λ l. get_or l 0 0) e))

numbered : (word : List ℕ) (m n : ℕ) (r s : List ℕ) → m < 2 ^ 64 → n < 2 ^ 64 → (word ++ (decimal m ++ codes ")")) ++ 32 ∷ r ≡ (word ++ (decimal n ++ codes ")")) ++ 32 ∷ s → (m ≡ n) × (r ≡ s)
numbered word m n r s hm hn e =
    let flat : (k : ℕ) (l : List ℕ) → (word ++ (decimal k ++ codes ")")) ++ 32 ∷ l ≡ word ++ (decimal k ++ 41 ∷ 32 ∷ l) =
    λ k l. append_assoc word (decimal k ++ codes ")") (32 ∷ l) ∙ ap (λ t. word ++ t) (append_assoc (decimal k) (codes ")") (32 ∷ l)) in
    let past = append_cancel_left word _ _ (sym (flat m r) ∙ e ∙ flat n s) in
    let both = decimal_tell m n 41 (32 ∷ r) (32 ∷ s) hm hn (λ d. omega (arith, d.0)) past in
    (both.0, ap (drop 1) both.1)

pub length_tell : (a b : Length) (r s : List ℕ) → length_count a < 2 ^ 64 → length_count b < 2 ^ 64 → length_text a ++ 32 ∷ r ≡ length_text b ++ 32 ∷ s → (a ≡ b) × (r ≡ s)
length_tell None None r s ha hb e = (refl, ap (drop 5) e)
length_tell None Scalar r s ha hb e = clash _ _ refl e
length_tell None (Fixed n) r s ha hb e = clash _ _ refl e
length_tell None (Bounded n) r s ha hb e = clash _ _ refl e
length_tell Scalar None r s ha hb e = clash _ _ refl e
length_tell Scalar Scalar r s ha hb e = (refl, ap (drop 7) e)
length_tell Scalar (Fixed n) r s ha hb e = clash _ _ refl e
length_tell Scalar (Bounded n) r s ha hb e = clash _ _ refl e
length_tell (Fixed m) None r s ha hb e = clash _ _ refl e
length_tell (Fixed m) Scalar r s ha hb e = clash _ _ refl e
length_tell (Fixed m) (Fixed n) r s ha hb e = let both = numbered (codes "Fixed(") m n r s ha hb e in (ap Fixed both.0, both.1)
length_tell (Fixed m) (Bounded n) r s ha hb e = clash _ _ refl e
length_tell (Bounded m) None r s ha hb e = clash _ _ refl e
length_tell (Bounded m) Scalar r s ha hb e = clash _ _ refl e
length_tell (Bounded m) (Fixed n) r s ha hb e = clash _ _ refl e
length_tell (Bounded m) (Bounded n) r s ha hb e = let both = numbered (codes "Bounded(") m n r s ha hb e in (ap Bounded both.0, both.1)

abbrev code_at : ℕ → TagCode
code_at c = cond (eqb c 77) Marker (cond (eqb c 66) Bytes Algebra)

code_back : (c : TagCode) (m d : ℕ) (x r : List ℕ) → code_at (get_or (tag_text_by c m d x ++ r) 0 0) ≡ c
code_back Marker m d x r = refl
code_back Bytes m d x r = refl
code_back Algebra m d x r = refl

pub code_tell : (a b : TagCode) (m n d f : ℕ) (x y r s : List ℕ) → tag_text_by a m d x ++ r ≡ tag_text_by b n f y ++ s → a ≡ b
code_tell a b m n d f x y r s e = sym (code_back a m d x r) ∙ ap (λ l. code_at (get_or l 0 0)) e ∙ code_back b n f y s

-- what an algebra says, or that nothing is said
module _ (m n d f : ℕ) (x y r s : List ℕ) (hm : m < 2 ^ 64) (hn : n < 2 ^ 64) (hd : d < 2 ^ 64) (hf : f < 2 ^ 64) (long : length x ≡ length y) (bx : AreBytes x) (by : AreBytes y) where
  abbrev Same : Type 0
  Same = (m ≡ n) × (d ≡ f) × (x ≡ y) × (r ≡ s)

  flat : (k l : ℕ) (z t : List ℕ) → tag_text_by Algebra k l z ++ t ≡ codes "Algebra(" ++ (decimal k ++ 94 ∷ (decimal l ++ 59 ∷ (hex_text z ++ 41 ∷ t)))
  flat k l z t = simp append_assoc

  pub values_tell : (c : TagCode) → (plain c ≡ true → (m ≡ n) × (d ≡ f) × (x ≡ y)) → tag_text_by c m d x ++ r ≡ tag_text_by c n f y ++ s → Same
  values_tell Marker same e = let v = same refl in (v.0, v.1, v.2, append_cancel_left (codes "Marker") r s e)
  values_tell Bytes same e = let v = same refl in (v.0, v.1, v.2, append_cancel_left (codes "Bytes") r s e)
  values_tell Algebra same e =
      let one = decimal_tell m n 94 _ _ hm hn (λ d. omega (arith, d.1)) (ap (drop 8) (sym (flat m d x r) ∙ e ∙ flat n f y s)) in
      let two = decimal_tell d f 59 _ _ hd hf (λ d. omega (arith, d.1)) one.1 in
      let three = hex_tell x y (41 ∷ r) (41 ∷ s) long bx by two.1 in
      (one.0, two.0, three.0, ap (drop 1) three.1)
