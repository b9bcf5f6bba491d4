-- Bytes as 32-bit words: three to a word, the first the highest, for byte strings; four, the first the lowest, for field values.
use Rattle.std.specs.Prelude.{ℕ, ◌+◌, ◌*◌, ◌/◌, ◌%◌, min, List, map, length, slice_index}
use Rattle.std.specs.List.{range_with_len}
use Rattle.digits.specs.Digits.{number, number_le}

-- the k bytes from place k * i on; zero bytes complete the last
abbrev pub group : ℕ → List ℕ → ℕ → List ℕ
group k bs i = map (λ j. slice_index bs (k * i + j)) (range_with_len 0 k)

-- how many groups of k there are among n, with the last that is not full
abbrev pub groups : ℕ → ℕ → ℕ
groups k n = n / k + min 1 (n % k)

-- a number for each k bytes
abbrev pub packed : ℕ → (List ℕ → ℕ) → List ℕ → List ℕ
packed k read bs = map (λ i. read (group k bs i)) (range_with_len 0 (groups k (length bs)))

abbrev pub words : List ℕ → List ℕ
words = packed 3 number

abbrev pub quads : List ℕ → List ℕ
quads = packed 4 number_le
