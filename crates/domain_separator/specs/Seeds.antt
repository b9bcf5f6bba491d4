-- The seed of a transcript.
use Rattle.std.specs.Prelude.{ℕ, List, [], ◌∷◌, ◌++◌}
use Rattle.digits.specs.Digits.{big_endian}

-- the identifier, the pattern's hash, the length of a label that has no bytes, and the closing byte
unfoldable pub seed : List ℕ → List ℕ → List ℕ
seed id hash = id ++ (hash ++ (big_endian 4 0 ++ 0x80 ∷ []))
