-- Byte i is a byte of word i / 8.
use Rattle.std.proofs.Common.{◌/◌, ◌%◌, get_or, rules}
use Rattle.keccak.specs.Sponge.{squeezed, split}
use Rattle.keccak_f.proofs.Made.{made_all}
use Rattle.keccak.proofs.sponge.squeeze.Goals as goal

pub returns : goal.returns
unfolding squeezed
returns c =
    made_all _ _ (λ k. get_or (split (get_or c.args.state.now (k / 8) 0)) (k % 8) 0) (λ i y q k. search rules) c.from_fn.result 32 0 c.from_fn.ensures.items
