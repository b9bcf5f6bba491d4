-- The bytes that are left and zeros after them, and then the two bytes of padding.
use Rattle.std.proofs.Common.{◌++◌, length, ap₂}
use Rattle.std.proofs.lemmas.List.{drop-replicate}
use Rattle.keccak.proofs.Padding.{last_block_is}
use Rattle.keccak.proofs.sponge.last_block.Goals as goal

pub returns : goal.returns
returns c =
    last_block_is c.args.first c.args.rest.now _ c.requires
    (ap₂ ◌++◌ c.copy_from_slice.ensures.after (drop-replicate (length c.args.rest.now) 136 0))
