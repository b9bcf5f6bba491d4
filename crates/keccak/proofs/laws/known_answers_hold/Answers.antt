-- Each answer is computed.
use Rattle.std.proofs.Common.{refl}
use Rattle.keccak_f.specs.Permutation.{rounds, Round, θ, ρ, π, χ, ι}
use Rattle.keccak.specs.Sponge.{sponge_256, squeezed, absorbed, padded, padding, mixed}
use Rattle.keccak.proofs.laws.known_answers_hold.Goals as goal

pub returns : goal.returns
unfolding sponge_256 squeezed absorbed padded padding mixed rounds Round θ ρ π χ ι
returns c = (refl, refl, refl)
