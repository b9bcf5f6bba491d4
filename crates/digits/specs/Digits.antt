-- Numbers as bytes: a number in so many bytes, and the number that bytes write.
use Rattle.std.specs.Prelude.{◌≡◌, ℕ, zero, suc, ◌+◌, ◌*◌, ◌/◌, ◌%◌, ◌^◌, ◌<◌, List, [], ◌∷◌, ◌++◌, length}
use Rattle.std.specs.Int.Digits.{number_from_digits as number_in, AllBelowBase}

-- n in w bytes, the highest first; what does not fit is cut off at the front
abbrev pub big_endian : ℕ → ℕ → List ℕ
big_endian zero n = []
big_endian (suc w) n = big_endian w (n / 256) ++ (n % 256 ∷ [])

-- the number that bytes write, the highest first
abbrev pub number : List ℕ → ℕ
number bs = number_in 256 bs

-- n in w bytes, the lowest first
abbrev pub little_endian : ℕ → ℕ → List ℕ
little_endian zero n = []
little_endian (suc w) n = n % 256 ∷ little_endian w (n / 256)

-- the number that bytes write, the lowest first
abbrev pub number_le : List ℕ → ℕ
number_le [] = 0
number_le (b ∷ bs) = b + 256 * number_le bs

-- each element is a byte
abbrev pub Bytes : List ℕ → Type 0
Bytes bs = AllBelowBase 256 bs

-- Writing and reading undo each other.
pub record ReadsBack (write : ℕ → ℕ → List ℕ) (read : List ℕ → ℕ) : Type 0 where
  pub long : (w n : ℕ) → length (write w n) ≡ w
  pub bytes : (w n : ℕ) → Bytes (write w n)
  pub comes_back : (w n : ℕ) → n < 256 ^ w → read (write w n) ≡ n
  pub written : (bs : List ℕ) → Bytes bs → write (length bs) (read bs) ≡ bs
  pub small : (bs : List ℕ) → Bytes bs → read bs < 256 ^ length bs
