-- Two texts are one where what they hold is.
use Rattle.std.proofs.Common.{◌≡◌, ℕ, ◌-◌, Bool, true, false, ◌&&◌, leb, List, ◌++◌, length, drop, replicate, is_ok, Ok, Err, sym, refl, ap, ◌∙◌, ap₂, arith, leb-true}
use Rattle.error.specs.declared.TranscriptError.TheVariants.{InvalidField}
use Rattle.std.proofs.lemmas.Bool.{false≢true}
use Rattle.std.proofs.lemmas.Bool.Decides.{nat_tests}
use Rattle.std.proofs.lemmas.List.{length-take-le, take-append-drop, take_at}
use Rattle.step.specs.Comparing.{same_fields}
use Rattle.step.specs.declared.text.Text.{Text}
use Rattle.step.specs.Printable.{all_print, is_text}
use Rattle.step.specs.Texts.{content, text_of, made_by, made_text}

pub length_content : (t : Text) → length (content t) ≡ t.len
length_content t = length-take-le t.len t.bytes (omega (arith, t.whole, t.fits))

pub same_content : (a b : Text) → content a ≡ content b → a ≡ b
same_content a b e =
    let el : a.len ≡ b.len = sym (length_content a) ∙ ap length e ∙ length_content b in
    let rest : drop a.len a.bytes ≡ drop b.len b.bytes = a.blank ∙ ap (λ k. replicate (48 - k) 0) el ∙ sym b.blank in
    let eb : a.bytes ≡ b.bytes = sym (take-append-drop a.len a.bytes) ∙ ap₂ ◌++◌ e rest ∙ take-append-drop b.len b.bytes in
    same_fields a b eb el

clash : {P : Type 0} → false ≡ true → P
clash e = absurd (false≢true e)

module _ (bs : List ℕ) where
  content_of : (short : leb (length bs) 48 ≡ true) (print : all_print bs ≡ true) → content (text_of bs (leb-true (length bs) 48 short) print) ≡ bs
  unfolding text_of
  content_of short print = take_at bs _ (length bs) refl

  by_ok : (t : Text) → content t ≡ bs → (short print : Bool) (s : leb (length bs) 48 ≡ short) (p : all_print bs ≡ print) → short ≡ true → print ≡ true → made_by bs short print s p ≡ Ok t
  by_ok t e true true s p a b = ap Ok (same_content (text_of bs (leb-true (length bs) 48 s) p) t (content_of s p ∙ sym e))
  by_ok t e true false s p a b = clash b
  by_ok t e false print s p a b = clash a

  by_no : (short print : Bool) (s : leb (length bs) 48 ≡ short) (p : all_print bs ≡ print) → short && print ≡ false → made_by bs short print s p ≡ Err InvalidField
  by_no true true s p e = clash (sym e)
  by_no true false s p e = refl
  by_no false print s p e = refl

  -- what text the bytes make
  pub made_ok : (t : Text) → is_text bs ≡ true → content t ≡ bs → made_text bs ≡ Ok t
  unfolding made_text
  made_ok t h e =
      let a : leb (length bs) 48 ≡ true = grind (arith, nat_tests) in
      let b : all_print bs ≡ true = grind (arith, nat_tests) in
      by_ok t e (leb (length bs) 48) (all_print bs) refl refl a b

  pub made_no : is_text bs ≡ false → made_text bs ≡ Err InvalidField
  unfolding made_text
  made_no h = by_no (leb (length bs) 48) (all_print bs) refl refl h

  by_content : (t : Text) (short print : Bool) (s : leb (length bs) 48 ≡ short) (p : all_print bs ≡ print) → made_by bs short print s p ≡ Ok t → content t ≡ bs
  by_content t true true s p e = let is : text_of bs (leb-true (length bs) 48 s) p ≡ t = cc in sym (ap content is) ∙ content_of s p
  by_content t true false s p e = clash (let z : false ≡ true = cc in z)
  by_content t false print s p e = clash (let z : false ≡ true = cc in z)

  -- a text that was made holds the bytes
  pub made_content : (t : Text) → made_text bs ≡ Ok t → content t ≡ bs
  unfolding made_text
  made_content t e = by_content t (leb (length bs) 48) (all_print bs) refl refl e

  -- bytes that are a text make one
  pub made_is_ok : is_text bs ≡ true → is_ok (made_text bs) ≡ true
  made_is_ok h =
      let a : leb (length bs) 48 ≡ true = grind (arith, nat_tests) in
      let b : all_print bs ≡ true = grind (arith, nat_tests) in
      ap is_ok (made_ok (text_of bs (leb-true (length bs) 48 a) b) h (content_of a b))
