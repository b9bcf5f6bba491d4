-- The permutation Keccak-f[1600], on a list of 25 lanes of 64 bits: lane (x, y) stands at place x + 5 * y.
-- Assumes nothing.
use Rattle.std.specs.Prelude.{ℕ, zero, suc, ◌+◌, ◌*◌, ◌/◌, ◌%◌, List, map, bit_and, bit_xor, slice_index, slice_set}
use Rattle.std.specs.List.{range_with_len}
use Rattle.keccak_f.specs.Words.{rot, flip}
use Rattle.keccak_f.specs.Tables.{offsets, constants}

-- lane (x, y), with x and y taken mod 5
abbrev pub lane : List ℕ → ℕ → ℕ → ℕ
lane a x y = slice_index a (x % 5 + 5 * (y % 5))

-- the state whose lane (x, y) is f x y
abbrev pub grid : (ℕ → ℕ → ℕ) → List ℕ
grid f = map (λ i. f (i % 5) (i / 5)) (range_with_len 0 25)

-- ---- the five step maps

-- the sum, bit by bit, of the five lanes of column x
abbrev pub parity : List ℕ → ℕ → ℕ
parity a x = bit_xor (bit_xor (bit_xor (bit_xor (lane a x 0) (lane a x 1)) (lane a x 2)) (lane a x 3)) (lane a x 4)

-- what θ adds to each lane of column x
abbrev pub theta_mask : List ℕ → ℕ → ℕ
theta_mask a x = bit_xor (parity a (x + 4)) (rot (parity a (x + 1)) 1)

unfoldable pub θ : List ℕ → List ℕ
θ a = grid (λ x y. bit_xor (lane a x y) (theta_mask a x))

unfoldable pub ρ : List ℕ → List ℕ
ρ a = grid (λ x y. rot (lane a x y) (lane offsets x y))

-- lane (x, y) moves to (y, 2 * x + 3 * y): so (x, y) takes the lane that stood at (x + 3 * y, x)
unfoldable pub π : List ℕ → List ℕ
π a = grid (λ x y. lane a (x + 3 * y) x)

unfoldable pub χ : List ℕ → List ℕ
χ a = grid (λ x y. bit_xor (lane a x y) (bit_and (flip (lane a (x + 1) y)) (lane a (x + 2) y)))

unfoldable pub ι : ℕ → List ℕ → List ℕ
ι c a = slice_set a 0 (bit_xor (slice_index a 0) c)

-- ---- the rounds

unfoldable pub Round : ℕ → List ℕ → List ℕ
Round c a = ι c (χ (π (ρ (θ a))))

-- the first n rounds
unfoldable pub rounds : ℕ → List ℕ → List ℕ
rounds zero a = a
rounds (suc n) a = Round (slice_index constants n) (rounds n a)

abbrev pub keccak_f : List ℕ → List ℕ
keccak_f a = rounds 24 a
