-- Bytes as a word writes them: pairs of hexadecimal digits in lower case.
use Rattle.std.specs.Prelude.{ℕ, ◌+◌, ◌-◌, ◌*◌, Bool, true, false, cond, ◌&&◌, ◌||◌, List, [], ◌∷◌, Some, None, Option, ◌==◌, nat_le}
use Rattle.scan.specs.declared.hex.Hex.{Hex}

-- 0 to 9, and a to f
abbrev pub is_hex : ℕ → Bool
is_hex b = (nat_le 48 b && nat_le b 57) || (nat_le 97 b && nat_le b 102)

-- the value of a digit, and 0 for any other byte
abbrev pub digit : ℕ → ℕ
digit b = cond (is_hex b) (cond (nat_le 97 b) (b - 87) (b - 48)) 0

-- pairs of digits and nothing else
abbrev pub in_pairs : List ℕ → Bool
in_pairs [] = true
in_pairs (a ∷ []) = false
in_pairs (a ∷ b ∷ ds) = is_hex a && (is_hex b && in_pairs ds)

-- the bytes of pairs
abbrev pub meant : List ℕ → List ℕ
meant [] = []
meant (a ∷ []) = []
meant (a ∷ b ∷ ds) = (digit a * 16 + digit b) ∷ meant ds

-- the bytes where there is nothing but pairs
abbrev pub paired : List ℕ → Option (List ℕ)
paired ds = cond (in_pairs ds) (Some (meant ds)) None

-- one pair or more, or `-` for no bytes
abbrev pub hexed : List ℕ → Option (List ℕ)
hexed [] = None
hexed (c ∷ []) = cond (c == 45) (Some []) None
hexed (c ∷ d ∷ ds) = paired (c ∷ d ∷ ds)

-- the bytes that a checked word stands for
abbrev pub bytes_of : Hex → List ℕ
bytes_of h = meant h.digits.now
