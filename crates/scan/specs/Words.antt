-- A line as its words.
use Rattle.std.specs.Prelude.{ℕ, cond, List, [], ◌∷◌, ◌==◌}
use Rattle.scan.specs.declared.words.Words.{Words}
use Rattle.scan.specs.Lines.{onto}

-- without the spaces at the front
abbrev pub trimmed : List ℕ → List ℕ
trimmed [] = []
trimmed (x ∷ xs) = cond (x == 32) (trimmed xs) (x ∷ xs)

-- the words of x ∷ xs where x is no space and xs has the words ws: x is a word of its own before a space
abbrev pub begun : ℕ → List ℕ → List (List ℕ) → List (List ℕ)
begun x [] ws = (x ∷ []) ∷ ws
begun x (y ∷ ys) ws = cond (y == 32) ((x ∷ []) ∷ ws) (onto x ws)

-- what stands between spaces
unfoldable pub words : List ℕ → List (List ℕ)
words [] = []
words (x ∷ xs) = cond (x == 32) (words xs) (begun x xs (words xs))

-- the words that are still to come
abbrev pub left : Words → List (List ℕ)
left w = words w.rest.now
