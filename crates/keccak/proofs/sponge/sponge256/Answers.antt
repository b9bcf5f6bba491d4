-- The whole blocks go in, and the end is made from the bytes after them.
use Rattle.keccak.proofs.Blocks.{sponge_is}
use Rattle.keccak.proofs.sponge.sponge256.Goals as goal

pub returns : goal.returns
returns c = let e = sponge_is c.args.first c.args.bytes.now in cc
