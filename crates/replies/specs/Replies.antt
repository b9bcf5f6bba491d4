-- The answer of each command, and the reply to each line.
use Rattle.std.specs.Prelude.{ℕ, cond, List, [], ◌∷◌, ◌++◌, Ok, Err, Result}
use Rattle.error.specs.declared.TranscriptError.{TranscriptError}
use Rattle.error.specs.declared.TranscriptError.TheVariants.{InvalidPrefix}
use Rattle.keccak.specs.Sponge.{keccak_256}
use Rattle.length_prefix.specs.Prefix.{width as width_of, fits, encoded, decoded}
use Rattle.script.specs.Language.{Query, width, encode_len, decode_len, keccak, items, encode, decode, bits, tag, leaf, Says, silent, wrong, asks, read}
use Rattle.step.specs.declared.text.Text.{Text}
use Rattle.step.specs.declared.type_tag.TypeTag.{TypeTag}
use Rattle.replies.specs.Codings.{items_of, name_of, tag_of, wire_of, code_of, decoded_by}
use Rattle.replies.specs.Responses.{Response, error, number, numbers, bytes, algebra, fault, refused, refused_bytes, text}

-- a number, or why there is none
abbrev pub counted : Result ℕ TranscriptError → Response
counted (Ok n) = number n
counted (Err e) = refused e

-- a value, or the codec's fault
abbrev pub valued : Result ℕ ℕ → Response
valued (Ok n) = number n
valued (Err n) = fault n

-- the tag of a field, with its type name
abbrev pub tagged : TypeTag → Text → Response
tagged t name = algebra t.modulus t.degree t.basis name

-- the library's answer
abbrev pub answered : Query → Response
answered (width max) = number (width_of max)
answered (encode_len len w) =
    cond (fits len w) (bytes (encoded len w)) (refused_bytes InvalidPrefix (encoded len w))
answered (decode_len bs w) = counted (decoded bs w)
answered (keccak bs) = bytes (keccak_256 bs)
answered (items u bs) = numbers (items_of u bs)
answered (encode v) = bytes (code_of v)
answered (decode k bs) = valued (decoded_by k bs)
answered (bits k) = number (wire_of k).bits
answered (tag f) = tagged (tag_of f) (name_of f)

-- an answer on a line of its own
abbrev pub answer_line : Response → List ℕ
answer_line a = text a ++ (10 ∷ [])

-- silent lines have no answer line
abbrev pub replied : Says → List ℕ
replied silent = []
replied wrong = answer_line error
replied (asks (leaf q)) = answer_line (answered q)

-- the bytes that answer a line
abbrev pub reply : List ℕ → List ℕ
reply line = replied (read line)
