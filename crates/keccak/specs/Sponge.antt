-- Keccak-256 of a list of bytes: the sponge over Keccak-f[1600] with blocks of 136 bytes, the original padding, and 32 bytes of result.
-- Assumes nothing.
use Rattle.std.specs.Prelude.{ℕ, zero, suc, ◌+◌, ◌-◌, ◌*◌, ◌/◌, ◌%◌, ◌^◌, List, [], ◌∷◌, ◌++◌, map, length, take, drop, replicate, bit_xor, slice_index}
use Rattle.std.specs.List.{range_with_len}
use Rattle.keccak_f.specs.Permutation.{keccak_f}

-- the word of the 8 bytes from place 8 * i on, the lowest byte first. A byte past the end counts as 0
abbrev pub word : List ℕ → ℕ → ℕ
word bs i =
    slice_index bs (8 * i) + slice_index bs (8 * i + 1) * 2 ^ 8 + slice_index bs (8 * i + 2) * 2 ^ 16 + slice_index bs (8 * i + 3) * 2 ^ 24
    + slice_index bs (8 * i + 4) * 2 ^ 32 + slice_index bs (8 * i + 5) * 2 ^ 40 + slice_index bs (8 * i + 6) * 2 ^ 48 + slice_index bs (8 * i + 7) * 2 ^ 56

-- the state a with the block of bytes, and zeros after it, added in
unfoldable pub mixed : List ℕ → List ℕ → List ℕ
mixed a block = map (λ i. bit_xor (slice_index a i) (word block i)) (range_with_len 0 25)

-- the state a after n blocks of 136 bytes
unfoldable pub absorbed : ℕ → List ℕ → List ℕ → List ℕ
absorbed zero a bs = a
absorbed (suc n) a bs = absorbed n (keccak_f (mixed a (take 136 bs))) (drop 136 bs)

-- the padding of n bytes: the first byte, zeros, and 0x80 at the end. A single byte is the first and the last at once
unfoldable pub padding : ℕ → ℕ → List ℕ
padding first zero = []
padding first (suc zero) = bit_xor first 0x80 ∷ []
padding first (suc (suc n)) = first ∷ (replicate n 0 ++ 0x80 ∷ [])

-- a message with its padding: a whole number of blocks
unfoldable pub padded : ℕ → List ℕ → List ℕ
padded first m = m ++ padding first (136 - length m % 136)

-- the 8 bytes of a word, the lowest byte first
abbrev pub split : ℕ → List ℕ
split w =
    (w % 256) ∷ (w / 2 ^ 8 % 256) ∷ (w / 2 ^ 16 % 256) ∷ (w / 2 ^ 24 % 256)
    ∷ (w / 2 ^ 32 % 256) ∷ (w / 2 ^ 40 % 256) ∷ (w / 2 ^ 48 % 256) ∷ (w / 2 ^ 56 % 256) ∷ []

-- the first 32 bytes of a state
unfoldable pub squeezed : List ℕ → List ℕ
squeezed a = split (slice_index a 0) ++ (split (slice_index a 1) ++ (split (slice_index a 2) ++ split (slice_index a 3)))

-- the sponge with the given first byte of padding
unfoldable pub sponge_256 : ℕ → List ℕ → List ℕ
sponge_256 first m = squeezed (absorbed (length (padded first m) / 136) (replicate 25 0) (padded first m))

abbrev pub keccak_256 : List ℕ → List ℕ
keccak_256 m = sponge_256 0x01 m
