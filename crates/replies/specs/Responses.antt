-- What a command answers, and the text of it.
use Rattle.std.specs.Prelude.{ℕ, List, ◌++◌, codes, decimal}
use Rattle.std.specs.List.{flat_map}
use Rattle.error.specs.declared.TranscriptError.{TranscriptError}
use Rattle.error.specs.Numbers.{number as number_of}
use Rattle.step.specs.declared.text.Text.{Text}
use Rattle.step.specs.Texts.{content}
use Rattle.replies.specs.Texts.{hex_text, spaced, algebra_text}

pub data Response : Type 0 where
  error : Response
  number : ℕ → Response
  numbers : List ℕ → Response
  bytes : List ℕ → Response
  -- modulus, degree, basis and type name
  algebra : ℕ → ℕ → List ℕ → Text → Response
  fault : ℕ → Response
  refused : TranscriptError → Response
  refused_bytes : TranscriptError → List ℕ → Response

-- a refusal goes by its number
abbrev pub refusal : TranscriptError → List ℕ
refusal e = codes "refused " ++ decimal (number_of e)

-- the parts, with one space between
abbrev pub text : Response → List ℕ
text error = codes "error"
text (number n) = codes "ok " ++ decimal n
text (numbers ns) = codes "ok" ++ flat_map spaced ns
text (bytes bs) = codes "ok " ++ hex_text bs
text (algebra modulus degree basis name) =
    codes "ok " ++ (algebra_text modulus degree basis ++ (codes " " ++ content name))
text (fault n) = codes "fault " ++ decimal n
text (refused e) = refusal e
text (refused_bytes e bs) = refusal e ++ (codes " " ++ hex_text bs)
