use Rattle.sink.proofs.Chain.{then}
use Rattle.replies.proofs.write.put_algebra.Goals as goal

pub returns : goal.returns
returns g c =
    let h = g.S.Sink.holds in
    then h _ _ _ _ _ c.put.ensures (then h _ _ _ _ _ c.put_decimal.ensures
    (then h _ _ _ _ _ c.put-2.ensures (then h _ _ _ _ _ c.put_decimal-2.ensures
    (then h _ _ _ _ _ c.put-3.ensures (then h _ _ _ _ _ c.put_bytes.ensures c.put-4.ensures)))))
