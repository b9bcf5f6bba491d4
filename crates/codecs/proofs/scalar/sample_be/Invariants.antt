use Rattle.codecs.proofs.Sampling.{Sampling}
use Rattle.codecs.proofs.scalar.sample_be.Given as goal

abbrev pub invariant-loop : goal.invariant-loop
invariant-loop g l =
    Sampling g.C.CanObserve.sponge g.F.Field.modulus g.S.SampleSize.draws (g.C.CanObserve.means l.initial.challenger) l.counter (g.C.CanObserve.means l.challenger) l.n
