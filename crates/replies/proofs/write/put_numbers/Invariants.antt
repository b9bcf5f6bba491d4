use Rattle.std.proofs.Common.{drop}
use Rattle.std.specs.List.{flat_map}
use Rattle.sink.proofs.Chain.{Leaves}
use Rattle.replies.specs.Texts.{spaced}
use Rattle.replies.proofs.write.put_numbers.Given as goal

abbrev pub invariant-loop-n : goal.invariant-loop-n
invariant-loop-n g l =
    Leaves g.S.Sink.holds l.initial.sink (flat_map spaced l.numbers) l.sink (flat_map spaced (drop l.n-index l.numbers))
