use Rattle.sink.proofs.Chain.{same, then}
use Rattle.replies.proofs.answer.Answer.put.Goals as goal

pub returns-in-Algebra : goal.returns-in-Algebra
returns-in-Algebra g c =
    let h = g.S.Sink.holds in
    simp c.in-Algebra.is
    (then h _ _ _ _ _ c.put-in-Algebra.ensures (then h _ _ _ _ _ c.put_algebra.ensures
    (then h _ _ _ _ _ c.put-in-Algebra-2.ensures (same h _ _ _ _ c.as_bytes.ensures c.put-in-Algebra-3.ensures))))
