use Rattle.std.proofs.Common.{◌+◌, ◌*◌, ◌%◌, ◌<◌, ◌≤◌, ap, arith}
use Rattle.codecs.proofs.Sampling.{sampling_more, sampled}
use Rattle.codecs.proofs.scalar.sample_be.Goals as goal

pub loop-preserved : goal.loop-preserved
loop-preserved g c =
    let more : c.loop.counter < g.S.SampleSize.draws = omega arith in
    sampling_more g.C.CanObserve.sponge _ _ _ c.loop.counter _ _ c.loop.n c.draw-b.result _ more c.loop.invariant c.draw-b.ensures.value c.draw-b.ensures.after (ap (λ m. (c.loop.n * 256 + c.draw-b.result) % m) c.modulus-modulus.ensures)

pub returns-clause-value : goal.returns-clause-value
returns-clause-value g c =
    let all : g.S.SampleSize.draws ≤ c.loop.counter = omega arith in
    sampled g.C.CanObserve.sponge _ _ _ c.loop.counter _ c.loop.n all c.loop.invariant
