-- A text as its lines.
use Rattle.std.specs.Prelude.{ℕ, suc, cond, List, [], ◌∷◌, ◌==◌}
use Rattle.scan.specs.declared.lines.Lines.{Lines}

-- the index of the first b, or the length where there is none
abbrev pub place : ℕ → List ℕ → ℕ
place b [] = 0
place b (x ∷ xs) = cond (x == b) 0 (suc (place b xs))

-- one more byte at the front of the first part, which it begins where there is none
abbrev pub onto : ℕ → List (List ℕ) → List (List ℕ)
onto x [] = (x ∷ []) ∷ []
onto x (p ∷ ps) = (x ∷ p) ∷ ps

-- cut at each newline; the last line needs none
unfoldable pub lines : List ℕ → List (List ℕ)
lines [] = []
lines (x ∷ xs) = cond (x == 10) ([] ∷ lines xs) (onto x (lines xs))

-- the lines that are still to come
abbrev pub left : Lines → List (List ℕ)
left l = lines l.rest.now
