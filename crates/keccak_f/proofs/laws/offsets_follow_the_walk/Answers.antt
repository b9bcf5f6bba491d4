-- One test over the 24 lanes of the walk.
use Rattle.std.proofs.Common.{◌+◌, ◌*◌, ◌/◌, ◌%◌, eqb, get_or, refl, eqb→eq}
use Rattle.keccak_f.specs.Tables.{offsets, walk_x, walk_y}
use Rattle.keccak_f.proofs.Table.{at}
use Rattle.keccak_f.proofs.laws.offsets_follow_the_walk.Goals as goal

pub returns : goal.returns
returns c = (refl, λ t h. eqb→eq _ _ (at (λ k. eqb (get_or offsets (walk_x k + 5 * walk_y k) 0) ((k + 1) * (k + 2) / 2 % 64)) 24 tt t h))
