-- Numbers, bytes and tags as an answer has them.
use Rattle.std.specs.Prelude.{ℕ, ◌+◌, ◌/◌, ◌%◌, cond, List, [], ◌∷◌, ◌++◌, codes, decimal, nat_lt}
use Rattle.std.specs.List.{flat_map}

-- 0 to 9, and a to f
abbrev pub hex_digit : ℕ → ℕ
hex_digit d = cond (nat_lt d 10) (48 + d) (87 + d)

-- the two digits of a byte
abbrev pub pair : ℕ → List ℕ
pair b = hex_digit (b / 16) ∷ hex_digit (b % 16) ∷ []

-- pairs, and `-` for no bytes
abbrev pub hex_text : List ℕ → List ℕ
hex_text [] = codes "-"
hex_text (b ∷ bs) = flat_map pair (b ∷ bs)

-- a number after a space
abbrev pub spaced : ℕ → List ℕ
spaced n = 32 ∷ decimal n

-- the tag of an algebra
abbrev pub algebra_text : ℕ → ℕ → List ℕ → List ℕ
algebra_text modulus degree basis =
    codes "Algebra("
    ++ (decimal modulus ++ (codes "^" ++ (decimal degree ++ (codes ";" ++ (hex_text basis ++ codes ")")))))
