-- Lane by lane.
use Rattle.std.proofs.Common.{rules}
use Rattle.keccak_f.specs.Lanes.{moved_lane}
use Rattle.keccak_f.proofs.Made.{made_all}
use Rattle.keccak_f.proofs.permutation.moved_row.Goals as goal

pub returns : goal.returns
returns g c = made_all _ _ (λ x. moved_lane c.args.a.now x c.args.y) (λ i y q k. search rules) c.from_fn.result 5 0 c.from_fn.ensures.items
