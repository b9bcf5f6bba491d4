use Rattle.std.proofs.Common.{◌≡◌}
use Rattle.challenger.specs.Sponge.{absorbed}
use Rattle.challenger.specs.Words.{quads}
use Rattle.challenger.proofs.word_unit.WordUnitScalarUnit.observe_scalar.Given as goal

-- what is left comes to the same
abbrev pub invariant-loop-group : goal.invariant-loop-group
invariant-loop-group g l = record {
  size : l.group-iterator.size ≡ 4;
  left : absorbed g.C.CanObserve.sponge (quads l.group-iterator.rest.now) (g.C.CanObserve.means l.challenger)
      ≡ absorbed g.C.CanObserve.sponge (quads l.wire) (g.C.CanObserve.means l.initial.challenger);
}
