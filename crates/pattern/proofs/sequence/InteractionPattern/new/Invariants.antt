use Rattle.pattern.specs.Listed.{listed}
use Rattle.pattern.specs.Stack.{open_of}
use Rattle.pattern.proofs.Walking.{Going}
use Rattle.pattern.proofs.sequence.InteractionPattern.new.Given as goal

abbrev pub invariant-loop-position : goal.invariant-loop-position
invariant-loop-position g l = Going g.S.Candidate.made l.rows (listed l.steps) (open_of l.scopes) l.position
