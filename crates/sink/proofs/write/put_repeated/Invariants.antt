use Rattle.std.proofs.Common.{◌-◌}
use Rattle.sink.specs.Writing.{repeated}
use Rattle.sink.proofs.Chain.{Leaves}
use Rattle.sink.proofs.write.put_repeated.Given as goal

-- the times that are left
abbrev pub invariant-loop : goal.invariant-loop
invariant-loop g l = Leaves g.S.Sink.holds l.initial.sink (repeated l.times l.bytes) l.sink (repeated (l.times - l.counter) l.bytes)
