-- A round lane by lane: what the code computes on its way through the step maps.
-- Assumes nothing.
use Rattle.std.specs.Prelude.{ℕ, ◌+◌, ◌*◌, ◌%◌, List, map, bit_and, bit_xor, slice_index}
use Rattle.std.specs.List.{range_with_len}
use Rattle.keccak_f.specs.Words.{rot, flip}
use Rattle.keccak_f.specs.Tables.{offsets}
use Rattle.keccak_f.specs.Permutation.{lane, theta_mask}

abbrev pub theta_masks : List ℕ → List ℕ
theta_masks a = map (λ x. theta_mask a x) (range_with_len 0 5)

-- lane (x, y) of π (ρ (θ a))
abbrev pub moved_lane : List ℕ → ℕ → ℕ → ℕ
moved_lane a x y = rot (bit_xor (lane a (x + 3 * y) x) (slice_index (theta_masks a) ((x + 3 * y) % 5))) (lane offsets (x + 3 * y) x)

-- row y of π (ρ (θ a))
abbrev pub moved_row : List ℕ → ℕ → List ℕ
moved_row a y = map (λ x. moved_lane a x y) (range_with_len 0 5)

-- lane x of a row after χ
abbrev pub chi_lane : List ℕ → ℕ → ℕ
chi_lane row x = bit_xor (slice_index row (x % 5)) (bit_and (flip (slice_index row ((x + 1) % 5))) (slice_index row ((x + 2) % 5)))
