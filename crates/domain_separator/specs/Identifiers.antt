-- The identifier of a protocol, 64 bytes.
use Rattle.std.specs.Prelude.{ℕ, ◌-◌, Bool, cond, ◌&&◌, List, [], ◌∷◌, ◌++◌, length, replicate, Ok, Err, Result, nat_le}
use Rattle.error.specs.declared.TranscriptError.{TranscriptError}
use Rattle.error.specs.declared.TranscriptError.TheVariants.{InvalidName}

-- the version, the name, zeros, and the name's length in the last byte
unfoldable pub identifier : ℕ → List ℕ → List ℕ
identifier version name = version ∷ (name ++ (replicate (62 - length name) 0 ++ length name ∷ []))

-- a name has 1 to 62 bytes
abbrev pub is_name : List ℕ → Bool
is_name name = nat_le 1 (length name) && nat_le (length name) 62

abbrev pub made_identifier : ℕ → List ℕ → Result (List ℕ) TranscriptError
made_identifier version name = cond (is_name name) (Ok (identifier version name)) (Err InvalidName)
