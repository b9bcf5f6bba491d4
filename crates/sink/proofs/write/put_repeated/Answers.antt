use Rattle.std.proofs.Common.{◌≡◌, suc, ◌+◌, ◌-◌, ap, arith}
use Rattle.sink.specs.Writing.{repeated}
use Rattle.sink.proofs.Chain.{more}
use Rattle.sink.proofs.write.put_repeated.Goals as goal

pub loop-preserved : goal.loop-preserved
loop-preserved g c =
    let n = c.args.times in
    let i = c.loop.counter in
    let left : n - i ≡ suc (n - (i + 1)) = omega arith in
    more g.S.Sink.holds _ _ _ _ _ _ _ (ap (λ k. repeated k c.args.bytes.now) left) c.loop.invariant c.put.ensures
