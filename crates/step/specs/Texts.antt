-- What a text holds, the text that bytes make, and the text of a type name.
use Rattle.std.specs.Prelude.{◌≡◌, ℕ, ◌+◌, ◌-◌, ◌≤◌, Bool, true, false, List, ◌++◌, length, take, replicate, Ok, Err, codes, Result, nat_le, refl}
use Rattle.std.proofs.Common.{ap, ◌∙◌, arith, leb-true, lit≤, length-append}
use Rattle.error.specs.declared.TranscriptError.{TranscriptError}
use Rattle.error.specs.declared.TranscriptError.TheVariants.{InvalidField}
use Rattle.std.proofs.lemmas.List.{take_at, drop_at, length-replicate}
use Rattle.step.specs.declared.text.Text.{Text}
use Rattle.step.specs.Printable.{all_print}

abbrev pub content : Text → List ℕ
content t = take t.len t.bytes

-- of at most 48 printable bytes
unfoldable pub text_of : (bs : List ℕ) → length bs ≤ 48 → all_print bs ≡ true → Text
text_of bs short print =
    let zeros = replicate (48 - length bs) 0 in
    record {
      bytes = bs ++ zeros;
      len = length bs;
      whole = length-append bs zeros ∙ ap (λ k. length bs + k) (length-replicate (48 - length bs) 0) ∙ omega arith;
      fits = short;
      prints = ap all_print (take_at bs zeros (length bs) refl) ∙ print;
      blank = drop_at bs zeros (length bs) refl;
    }

-- by whether they are few enough and all print
abbrev pub made_by : (bs : List ℕ) (short print : Bool) → nat_le (length bs) 48 ≡ short → all_print bs ≡ print → Result Text TranscriptError
made_by bs true true s p = Ok (text_of bs (leb-true (length bs) 48 s) p)
made_by bs true false s p = Err InvalidField
made_by bs false print s p = Err InvalidField

unfoldable pub made_text : List ℕ → Result Text TranscriptError
made_text bs = made_by bs (nat_le (length bs) 48) (all_print bs) refl refl

-- of raw bytes
abbrev pub u8_name : Text
u8_name = record { bytes = codes "u8" ++ replicate 46 0; len = 2; whole = refl; fits = lit≤ tt; prints = refl; blank = refl }
