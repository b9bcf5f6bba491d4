-- A message that is taken in block by block: what is held between the blocks, and how the end is made.
-- Assumes nothing.
use Rattle.std.specs.Prelude.{ℕ, ◌-◌, ◌*◌, ◌/◌, List, ◌++◌, length, drop}
use Rattle.keccak_f.specs.Permutation.{keccak_f}
use Rattle.keccak.specs.Sponge.{mixed, absorbed, padding, squeezed}

-- the state after the whole blocks, and the bytes of the block that is begun
pub record View : Type 0 where
  pub state : List ℕ
  pub begun : List ℕ

-- the state a has taken in the whole blocks of bs, and the bytes after them wait
unfoldable pub fed : List ℕ → List ℕ → View
fed a bs = record { state = absorbed (length bs / 136) a bs; begun = drop (136 * (length bs / 136)) bs }

-- the digest where the bytes of rest, fewer than a block, are all that is still to come
abbrev pub closed : ℕ → List ℕ → List ℕ → List ℕ
closed first a rest = squeezed (keccak_f (mixed a (rest ++ padding first (136 - length rest))))
