-- What the hasher has absorbed and what is left make up the message.
use Rattle.std.proofs.Common.{◌≡◌, ℕ, ◌<◌, List, ◌++◌, length}
use Rattle.keccak.specs.Hasher.{HasAbsorbed}
use Rattle.keccak_vectors.proofs.parts.keccak256_in_parts.Given as goal

abbrev pub invariant-loop-rest : goal.invariant-loop-rest
invariant-loop-rest l = (l.size < 311) × ((m : List ℕ) × HasAbsorbed l.hasher m × (m ++ l.rest ≡ l.initial.rest))

abbrev pub decreases-loop-rest : goal.decreases-loop-rest
decreases-loop-rest l = length l.rest
