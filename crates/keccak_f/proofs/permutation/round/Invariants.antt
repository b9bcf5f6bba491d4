-- How many lanes stand as the round has them.
use Rattle.std.proofs.Common.{◌+◌, ◌*◌}
use Rattle.keccak_f.proofs.Filling.{Filling}
use Rattle.keccak_f.proofs.Rounds.{round_lane}
use Rattle.keccak_f.proofs.permutation.round.Given as goal

abbrev pub invariant-loop-y : goal.invariant-loop-y
invariant-loop-y g l = Filling (round_lane l.a) l.out (5 * l.y)

abbrev pub invariant-loop-x : goal.invariant-loop-x
invariant-loop-x g l = Filling (round_lane l.a) l.out (l.x + 5 * l.y)
