-- No whole block is taken in.
use Rattle.std.proofs.Common.{refl}
use Rattle.keccak.specs.Sponge.{absorbed}
use Rattle.keccak.specs.Blocks.{fed}
use Rattle.keccak.proofs.hasher.Keccak256.new.Goals as goal

pub returns-clause-absorbed : goal.returns-clause-absorbed
unfolding fed absorbed
returns-clause-absorbed c = refl
