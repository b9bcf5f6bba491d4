-- The script language: what each line asks.
use Rattle.std.specs.Prelude.{ℕ, Bool, false, cond, List, [], ◌∷◌, length, Some, None, codes, Option, ◌==◌, nat_lt}
use Rattle.std.specs.Option.{option_map}
use Rattle.std.specs.Str.{bytes_eq}
use Rattle.scan.specs.Words.{words}
use Rattle.scan.specs.Numbers.{numeral}
use Rattle.scan.specs.Hex.{hexed}
use Rattle.script.specs.declared.command.UnitName.{UnitName}
use Rattle.script.specs.declared.command.FieldName.{FieldName}
use Rattle.script.specs.declared.command.CodecName.{CodecName}
use Rattle.script.specs.declared.command.Value.{Value}
use Rattle.script.specs.Named.{unit_named, field_named, codec_named, fitting}

-- a command that needs no state
pub data Query : Type 0 where
  width : ℕ → Query
  encode_len : ℕ → ℕ → Query
  decode_len : List ℕ → ℕ → Query
  keccak : List ℕ → Query
  items : UnitName → List ℕ → Query
  encode : Value → Query
  decode : CodecName → List ℕ → Query
  bits : CodecName → Query
  tag : FieldName → Query

-- a command
pub data Order : Type 0 where
  leaf : Query → Order

-- a line has no answer, is no command, or asks for something
pub data Says : Type 0 where
  silent : Says
  wrong : Says
  asks : Order → Says

-- what is read of the first word, and the words after it
abbrev pub taken : {X : Type 0} → (List ℕ → Option X) → List (List ℕ) → Option (X × List (List ℕ))
taken f [] = None
taken f (w ∷ ws) = option_map (λ x. (x, ws)) (f w)

-- f of the value, where there is one
abbrev pub bound : {X Y : Type 0} → Option X → (X → Option Y) → Option Y
bound None f = None
bound (Some x) f = f x

-- the first word by f, and the others by k
abbrev pub next : {X Y : Type 0} → (List ℕ → Option X) → (X → List (List ℕ) → Option Y) → List (List ℕ) → Option Y
next f k ws = bound (taken f ws) (λ p. k p.0 p.1)

-- x, where no word is left
abbrev pub end : {X : Type 0} → X → List (List ℕ) → Option X
end x [] = Some x
end x (w ∷ ws) = None

-- the value, where there is one and no word is left
abbrev pub ended : {X : Type 0} → Option X → List (List ℕ) → Option X
ended o ws = bound o (λ x. end x ws)

-- the next word is a number, which k takes with the others
abbrev number : {Y : Type 0} → (ℕ → List (List ℕ) → Option Y) → List (List ℕ) → Option Y
number k = next numeral k

-- the next word is bytes, which k takes with the others
abbrev bytes : {Y : Type 0} → (List ℕ → List (List ℕ) → Option Y) → List (List ℕ) → Option Y
bytes k = next hexed k

-- a word that is a number, as a value of the codec
abbrev pub value_word : CodecName → List ℕ → Option Value
value_word k word = bound (numeral word) (fitting k)

-- the command of this name without state, where the words fit it
abbrev pub query_named : List ℕ → List (List ℕ) → Option Query
query_named name args =
    cond (bytes_eq name (codes "width")) (number (λ max. end (width max)) args) (
    cond (bytes_eq name (codes "encode-len")) (number (λ len. number (λ w. end (encode_len len w))) args) (
    cond (bytes_eq name (codes "decode-len")) (bytes (λ bs. number (λ w. end (decode_len bs w))) args) (
    cond (bytes_eq name (codes "keccak")) (bytes (λ bs. end (keccak bs)) args) (
    cond (bytes_eq name (codes "items")) (next unit_named (λ u. bytes (λ bs. end (items u bs))) args) (
    cond (bytes_eq name (codes "encode")) (next codec_named (λ k. next (value_word k) (λ v. end (encode v))) args) (
    cond (bytes_eq name (codes "decode")) (next codec_named (λ k. bytes (λ bs. end (decode k bs))) args) (
    cond (bytes_eq name (codes "bits")) (next codec_named (λ k. end (bits k)) args) (
    cond (bytes_eq name (codes "tag")) (next field_named (λ f. end (tag f)) args) (
    None)))))))))

-- the command of this name, where the words fit it
abbrev pub order_named : List ℕ → List (List ℕ) → Option Order
order_named name args = option_map leaf (query_named name args)

-- a line that has words
abbrev pub said : Option Order → Says
said None = wrong
said (Some o) = asks o

-- a comment begins with `#`
abbrev pub commented : List ℕ → Bool
commented [] = false
commented (b ∷ bs) = b == 35

-- a line of n bytes by its words
abbrev pub spoken : ℕ → List (List ℕ) → Says
spoken n [] = silent
spoken n (name ∷ args) = cond (nat_lt 65536 n) wrong (said (order_named name args))

-- what a line says
abbrev pub read : List ℕ → Says
read line = cond (commented line) silent (spoken (length line) (words line))
