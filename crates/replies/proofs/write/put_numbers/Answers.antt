use Rattle.std.proofs.Common.{ap}
use Rattle.std.specs.List.{flat_map}
use Rattle.std.proofs.lemmas.List.{drop_more, drop_all}
use Rattle.sink.proofs.Chain.{then, more, done}
use Rattle.replies.specs.Texts.{spaced}
use Rattle.replies.proofs.write.put_numbers.Goals as goal

pub loop-n-preserved : goal.loop-n-preserved
loop-n-preserved g c =
    more g.S.Sink.holds _ _ _ _ _ _ _ (ap (flat_map spaced) (drop_more c.args.numbers.now c.loop-n.n-index 0 c.loop-n-test.true))
    c.loop-n.invariant (then g.S.Sink.holds _ _ _ _ _ c.put.ensures c.put_decimal.ensures)

pub returns : goal.returns
returns g c =
    done g.S.Sink.holds _ _ _ _ (ap (flat_map spaced) (drop_all c.loop-n.n-index c.args.numbers.now c.loop-n-test.false))
    c.loop-n.invariant
