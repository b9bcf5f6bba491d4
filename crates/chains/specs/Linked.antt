-- How a chain's state of 32 bytes goes on: hashed with a separator and whatever comes.
use Rattle.std.specs.Prelude.{ℕ, ◌<◌, List, [], ◌∷◌, ◌++◌, slice_index}
use Rattle.std.proofs.Common.{arith}
use Rattle.keccak.proofs.Digests.{digest_bytes, digest_length}
use Rattle.keccak.specs.Sponge.{keccak_256}
use Rattle.std.proofs.ByRecursion.{All-get_or}

abbrev pub linked : List ℕ → ℕ → List ℕ → List ℕ
linked state separator item = keccak_256 (state ++ (separator ∷ item))

-- a drawn byte is a byte
pub drawn_byte : (s : List ℕ) → slice_index (linked s 0x01 []) 0 < 256
drawn_byte s =
    let m = s ++ (0x01 ∷ []) in
    All-get_or (λ b. b < 256) (linked s 0x01 []) 0 0 (omega (arith, digest_length 0x01 m)) (digest_bytes 0x01 m)
