-- The rounds one by one, and one round lane by lane.
-- Assumes nothing.
use Rattle.std.proofs.Common.{◌≡◌, ℕ, ◌+◌, List, get_or, refl, add-one}
use Rattle.keccak_f.specs.Permutation.{rounds, Round, grid, θ, ρ, π, χ}
use Rattle.keccak_f.specs.Lanes.{moved_row, chi_lane}
use Rattle.keccak_f.specs.Tables.{constants}

pub rounds_none : (a : List ℕ) → rounds 0 a ≡ a
unfolding rounds
rounds_none a = refl

pub rounds_more : (n : ℕ) (a : List ℕ) → rounds (n + 1) a ≡ Round (get_or constants n 0) (rounds n a)
unfolding rounds
rounds_more n a = rw add-one

-- lane (x, y) of χ (π (ρ (θ a)))
abbrev pub round_lane : List ℕ → ℕ → ℕ → ℕ
round_lane a x y = chi_lane (moved_row a y) x

pub lanes_make_the_round : (a : List ℕ) → grid (round_lane a) ≡ χ (π (ρ (θ a)))
unfolding θ ρ π χ
lanes_make_the_round a = refl
