-- The length prefix: the width that a maximum gives, and a length in that many big-endian bytes.
use Rattle.std.specs.Prelude.{ℕ, zero, suc, ◌+◌, ◌-◌, ◌^◌, Bool, cond, ◌&&◌, ltb, List, ◌++◌, length, take, replicate, Ok, Err, Result, nat_le, nat_lt}
use Rattle.error.specs.declared.TranscriptError.{TranscriptError}
use Rattle.error.specs.declared.TranscriptError.TheVariants.{InvalidPrefix}
use Rattle.digits.specs.Digits.{big_endian, number}

-- the first of k, k + 1, .. that passes, looked for among the next n
abbrev pub first_from : (ℕ → Bool) → ℕ → ℕ → ℕ
first_from passes zero k = k
first_from passes (suc n) k = cond (passes k) k (first_from passes n (k + 1))

-- the least number of bytes that hold max
unfoldable pub width : ℕ → ℕ
width max = first_from (λ w. ltb max (256 ^ w)) max 0

-- a prefix has at most eight bytes, and a length fits its bytes
abbrev pub fits : ℕ → ℕ → Bool
fits len w = nat_le w 8 && nat_lt len (256 ^ w)

-- the length in w bytes, with zeros after it up to eight; eight zeros where it is refused
abbrev pub encoded : ℕ → ℕ → List ℕ
encoded len w = cond (fits len w) (big_endian w len ++ replicate (8 - w) 0) (replicate 8 0)

-- a buffer has the bytes of a prefix
abbrev pub holds : List ℕ → ℕ → Bool
holds buf w = nat_le w 8 && nat_le w (length buf)

-- what the first w bytes of a buffer say
abbrev pub decoded : List ℕ → ℕ → Result ℕ TranscriptError
decoded buf w = cond (holds buf w) (Ok (number (take w buf))) (Err InvalidPrefix)
