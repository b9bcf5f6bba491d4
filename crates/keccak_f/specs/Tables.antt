-- The rotation offsets and the round constants: the tables, and the rules that they follow.
-- Assumes nothing.
use Rattle.std.specs.Prelude.{◌≡◌, ℕ, zero, suc, ◌+◌, ◌*◌, ◌/◌, ◌%◌, ◌^◌, ◌<◌, List, [], ◌∷◌, bit_xor, slice_index}

-- the rotation offset of lane (x, y) stands at place x + 5 * y
abbrev pub offsets : List ℕ
offsets =
    0 ∷ 1 ∷ 62 ∷ 28 ∷ 27 ∷
    36 ∷ 44 ∷ 6 ∷ 55 ∷ 20 ∷
    3 ∷ 10 ∷ 43 ∷ 25 ∷ 39 ∷
    41 ∷ 45 ∷ 15 ∷ 21 ∷ 8 ∷
    18 ∷ 2 ∷ 61 ∷ 56 ∷ 14 ∷ []

-- the constant of round i stands at place i
abbrev pub constants : List ℕ
constants =
    0x0000000000000001 ∷ 0x0000000000008082 ∷ 0x800000000000808a ∷
    0x8000000080008000 ∷ 0x000000000000808b ∷ 0x0000000080000001 ∷
    0x8000000080008081 ∷ 0x8000000000008009 ∷ 0x000000000000008a ∷
    0x0000000000000088 ∷ 0x0000000080008009 ∷ 0x000000008000000a ∷
    0x000000008000808b ∷ 0x800000000000008b ∷ 0x8000000000008089 ∷
    0x8000000000008003 ∷ 0x8000000000008002 ∷ 0x8000000000000080 ∷
    0x000000000000800a ∷ 0x800000008000000a ∷ 0x8000000080008081 ∷
    0x8000000000008080 ∷ 0x0000000080000001 ∷ 0x8000000080008008 ∷ []

-- ---- the offsets: a walk over the lanes from (1, 0), each step from (x, y) to (y, 2 * x + 3 * y)

abbrev mutual
  pub walk_x : ℕ → ℕ
  walk_x zero = 1
  walk_x (suc t) = walk_y t

  pub walk_y : ℕ → ℕ
  walk_y zero = 0
  walk_y (suc t) = (2 * walk_x t + 3 * walk_y t) % 5

-- lane (0, 0) is not turned, and the t-th lane of the walk is turned by the t-th triangular number
abbrev pub OffsetsFollowTheWalk : Type 0
OffsetsFollowTheWalk =
    (slice_index offsets 0 ≡ 0)
    × ((t : ℕ) → t < 24 → slice_index offsets (walk_x t + 5 * walk_y t) ≡ (t + 1) * (t + 2) / 2 % 64)

-- ---- the round constants: a shift register of 8 bits

-- x ^ t modulo x ^ 8 + x ^ 6 + x ^ 5 + x ^ 4 + 1, over the bits: bit k is the coefficient of x ^ k
abbrev pub register : ℕ → ℕ
register zero = 1
register (suc t) = let r = 2 * register t in bit_xor (r % 256) (r / 256 * 0x71)

abbrev pub output : ℕ → ℕ
output t = register t % 2

-- bit 2 ^ j - 1 of the constant of round i is output j + 7 * i of the register, for j from 0 to 6, and every other bit is 0
abbrev pub constant : ℕ → ℕ
constant i =
    output (7 * i) + output (7 * i + 1) * 2 + output (7 * i + 2) * 2 ^ 3 + output (7 * i + 3) * 2 ^ 7
    + output (7 * i + 4) * 2 ^ 15 + output (7 * i + 5) * 2 ^ 31 + output (7 * i + 6) * 2 ^ 63

abbrev pub ConstantsFollowTheRegister : Type 0
ConstantsFollowTheRegister = (i : ℕ) → i < 24 → slice_index constants i ≡ constant i
