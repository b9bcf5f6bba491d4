use Rattle.std.proofs.Common.{◌≡◌, length}
use Rattle.challenger.specs.Sponge.{absorbed}
use Rattle.challenger.specs.Words.{words}
use Rattle.challenger.proofs.word_unit.WordUnitUnit.observe_bytes.Given as goal

-- what is left comes to the same
abbrev pub invariant-loop-rest : goal.invariant-loop-rest
invariant-loop-rest g l = absorbed g.C.CanObserve.sponge (words l.rest) (g.C.CanObserve.means l.challenger) ≡ absorbed g.C.CanObserve.sponge (words l.bytes) (g.C.CanObserve.means l.initial.challenger)

abbrev pub decreases-loop-rest : goal.decreases-loop-rest
decreases-loop-rest g l = length l.rest
