-- How many rounds the state has been through.
use Rattle.std.proofs.Common.{◌≡◌, ◌*◌}
use Rattle.keccak_f.specs.Permutation.{rounds}
use Rattle.keccak_f.proofs.permutation.keccak_f.Given as goal

abbrev pub invariant-loop-first : goal.invariant-loop-first
invariant-loop-first l = l.state ≡ rounds (2 * l.first-index) l.initial.state
