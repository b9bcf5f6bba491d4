use Rattle.std.proofs.Common.{length, decimal, ap}
use Rattle.sink.proofs.Chain.{same, then}
use Rattle.render.proofs.line.put_step.Goals as goal

pub returns : goal.returns
returns g c =
    let h = g.S.Sink.holds in
    then h _ _ _ _ _ (same h _ _ _ _ c.name_of_hierarchy.ensures c.put.ensures) (then h _ _ _ _ _ c.put-2.ensures
    (then h _ _ _ _ _ (same h _ _ _ _ c.name_of_kind.ensures c.put-3.ensures) (then h _ _ _ _ _ c.put-4.ensures
    (then h _ _ _ _ _ (same h _ _ _ _ (ap (λ l. decimal (length l)) c.as_bytes-label.ensures) c.put_decimal.ensures) (then h _ _ _ _ _ c.put-5.ensures
    (then h _ _ _ _ _ (same h _ _ _ _ c.as_bytes-label.ensures c.put-6.ensures) (then h _ _ _ _ _ c.put-7.ensures
    (then h _ _ _ _ _ c.put_length.ensures (then h _ _ _ _ _ c.put-8.ensures c.put_tag.ensures)))))))))
