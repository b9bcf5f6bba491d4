use Rattle.keccak.proofs.Digests.{digest_bytes, digest_length}
use Rattle.keccak.proofs.laws.digests_are_32_bytes.Goals as goal

pub returns : goal.returns
returns c = λ first m. (digest_length first m, digest_bytes first m)
