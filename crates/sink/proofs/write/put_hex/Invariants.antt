use Rattle.std.proofs.Common.{drop}
use Rattle.sink.specs.Writing.{hex_text}
use Rattle.sink.proofs.Chain.{Leaves}
use Rattle.sink.proofs.write.put_hex.Given as goal

-- the bytes that are left
abbrev pub invariant-loop-b : goal.invariant-loop-b
invariant-loop-b g l = Leaves g.S.Sink.holds l.initial.sink (hex_text l.bytes) l.sink (hex_text (drop l.b-index l.bytes))
