-- Words of 64 bits: a rotation and a complement, and what the words' operations do bit by bit.
-- Assumes nothing.
use Rattle.std.specs.Prelude.{◌≡◌, ℕ, ◌+◌, ◌-◌, ◌*◌, ◌/◌, ◌%◌, ◌^◌, ◌<◌, bit_and, bit_or, bit_xor}

-- a word, rotated left by r places
abbrev pub rot : ℕ → ℕ → ℕ
rot a r = bit_or ((a * 2 ^ (r % 64)) % 2 ^ 64) (a / 2 ^ ((64 - r % 64) % 64))

-- a word's complement: each of its 64 bits flipped
abbrev pub flip : ℕ → ℕ
flip a = (2 ^ 64 - 1) - a

-- bit z of n
abbrev pub bit_of : ℕ → ℕ → ℕ
bit_of n z = n / 2 ^ z % 2

-- each bit of an exclusive or, of an and, and of a complement comes from the bits at its place, and a rotation by r takes bit z to place z + r
pub record WordsActOnBits : Type 0 where
  pub xors : (a b z : ℕ) → bit_of (bit_xor a b) z ≡ bit_xor (bit_of a z) (bit_of b z)
  pub ands : (a b z : ℕ) → bit_of (bit_and a b) z ≡ bit_and (bit_of a z) (bit_of b z)
  pub flips : (a z : ℕ) → a < 2 ^ 64 → z < 64 → bit_of (flip a) z ≡ 1 - bit_of a z
  pub rots : (a r z : ℕ) → a < 2 ^ 64 → r < 64 → z < 64 → bit_of (rot a r) ((z + r) % 64) ≡ bit_of a z
