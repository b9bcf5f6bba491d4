-- That the tests of two texts and of two tags decide whether they are one: the laws of their `==`.
use Rattle.std.specs.Prelude.{◌≡◌, ℕ, cond, ◌==◌, refl}
use Rattle.std.proofs.Common.{Decides, sym, ap, ◌∙◌}
use denote.Struct.Record.{values_one}
use Rattle.std.proofs.lemmas.Slice.Eq.{bytes_eq-Decides}
use Rattle.std.proofs.lemmas.Bool.Decides.{Decides-eqb, Decides-and, Decides-like}
use Rattle.step.specs.contracts.tag_code.TagCode.{the_row}
use Rattle.step.specs.contracts.text.Text as text
use Rattle.step.specs.contracts.type_tag.TypeTag as tag
use Rattle.step.specs.declared.tag_code.TagCode.{TagCode}
use Rattle.step.specs.declared.tag_code.TagCode.TheVariants as code
use Rattle.step.specs.declared.text.Text.{Text}
use Rattle.step.specs.declared.type_tag.TypeTag.{TypeTag}
use Rattle.step.specs.Steps.{code_no, same_text, same_tag}

-- two texts are one where their bytes and lengths are
pub same_fields : (a b : Text) → a.bytes ≡ b.bytes → a.len ≡ b.len → a ≡ b
same_fields a b eb el = values_one text.struct text.the_propositions a b (λ i. (eb i, (el i, tt)))

-- two tags are one where their four fields are
pub same_tag_fields : (a b : TypeTag) → a.code ≡ b.code → a.modulus ≡ b.modulus → a.degree ≡ b.degree → a.basis ≡ b.basis → a ≡ b
same_tag_fields a b ec em ed eb = values_one tag.struct (tag.the_propositions the_row.coded) a b (λ i. (ec i, (em i, (ed i, (eb i, tt)))))

-- a test of numbers decides equality where the numbers can be read back
pub by_number : {X : Type 0} (num : X → ℕ) (of : ℕ → X) → ((x : X) → of (num x) ≡ x) → (a b : X) → Decides (num a == num b) (a ≡ b)
by_number num of back a b = Decides-like _ (λ e. sym (back a) ∙ ap of e ∙ back b) (λ e. ap num e) (Decides-eqb (num a) (num b))

abbrev code_of : ℕ → TagCode
code_of n = cond (n == 0) code.Marker (cond (n == 1) code.Bytes code.Algebra)

code_back : (c : TagCode) → code_of (code_no c) ≡ c
code_back code.Marker = refl
code_back code.Bytes = refl
code_back code.Algebra = refl

pub text_decides : (a b : Text) → Decides (same_text a b) (a ≡ b)
text_decides a b =
    Decides-like _ (λ e. same_fields a b e.1 e.0) (λ e. (ap (λ t. t.len) e, ap (λ t. t.bytes) e))
    (Decides-and _ _ (Decides-eqb a.len b.len) (bytes_eq-Decides a.bytes b.bytes))

pub tag_decides : (a b : TypeTag) → Decides (same_tag a b) (a ≡ b)
tag_decides a b =
    Decides-like _ (λ e. same_tag_fields a b e.0 e.1.0 e.1.1.0 e.1.1.1)
    (λ e. (ap (λ t. t.code) e, (ap (λ t. t.modulus) e, (ap (λ t. t.degree) e, ap (λ t. t.basis) e))))
    (Decides-and _ _ (by_number code_no code_of code_back a.code b.code)
    (Decides-and _ _ (Decides-eqb _ _) (Decides-and _ _ (Decides-eqb _ _) (bytes_eq-Decides _ _))))
