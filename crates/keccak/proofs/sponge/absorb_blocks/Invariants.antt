-- What is fed to the end stays the same as the blocks go in.
use Rattle.std.proofs.Common.{◌≡◌, ◌*◌, drop}
use Rattle.keccak.specs.Blocks.{fed}
use Rattle.keccak.proofs.sponge.absorb_blocks.Given as goal

abbrev pub invariant-loop-block : goal.invariant-loop-block
invariant-loop-block l = fed l.state (drop (l.block-index * 136) l.bytes) ≡ fed l.initial.state l.bytes
