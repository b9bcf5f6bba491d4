-- What it means that a sink takes bytes.
use Rattle.std.specs.Prelude.{ℕ, List, ◌++◌}

-- whatever it held before, it then holds that and bs after it
abbrev pub Takes : {S : Type 0} → (S → List ℕ → Type 0) → S → List ℕ → S → Type 0
Takes Holds before bs after = (m : List ℕ) → Holds before m → Holds after (m ++ bs)
