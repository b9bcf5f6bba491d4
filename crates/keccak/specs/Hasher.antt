-- What a hasher holds, and what it has absorbed.
-- Assumes nothing.
use Rattle.std.specs.Prelude.{◌≡◌, ℕ, List, [], ◌++◌, take, replicate}
use Rattle.keccak.specs.declared.hasher.Keccak256.{Keccak256}
use Rattle.keccak.specs.Blocks.{View, fed, closed}

-- the bytes past the filled ones of the block mean nothing
abbrev pub view : Keccak256 → View
view h = record { state = h.state; begun = take h.filled h.block }

abbrev pub fresh : View
fresh = record { state = replicate 25 0; begun = [] }

abbrev pub absorb_into : View → List ℕ → View
absorb_into v bytes = fed v.state (v.begun ++ bytes)

-- the bytes m, from the start on, are what h has taken in
abbrev pub HasAbsorbed : Keccak256 → List ℕ → Type 0
HasAbsorbed h m = view h ≡ absorb_into fresh m

abbrev pub digest_of : View → List ℕ
digest_of v = closed 0x01 v.state v.begun
