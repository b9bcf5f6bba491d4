-- Column by column.
use Rattle.std.proofs.Common.{rules}
use Rattle.keccak_f.specs.Permutation.{theta_mask}
use Rattle.keccak_f.proofs.Made.{made_all}
use Rattle.keccak_f.proofs.permutation.theta_masks.Goals as goal

pub returns : goal.returns
returns g c = made_all _ _ (λ x. theta_mask c.args.a.now x) (λ i y q k. search rules) c.from_fn.result 5 0 c.from_fn.ensures.items
