use Rattle.std.proofs.Common.{◌≡◌, length}
use Rattle.scan.specs.Words.{trimmed}
use Rattle.scan.proofs.words.past_spaces.Given as goal

abbrev pub invariant-loop-rest : goal.invariant-loop-rest
invariant-loop-rest l = trimmed l.bytes ≡ trimmed l.rest

abbrev pub decreases-loop-rest : goal.decreases-loop-rest
decreases-loop-rest l = length l.rest
