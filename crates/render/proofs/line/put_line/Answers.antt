use Rattle.sink.proofs.Chain.{then}
use Rattle.render.specs.Rendering.{line}
use Rattle.render.proofs.line.put_line.Goals as goal

pub returns : goal.returns
unfolding line
returns g c =
    let h = g.S.Sink.holds in
    then h _ _ _ _ _ c.put_padded.ensures (then h _ _ _ _ _ c.put.ensures
    (then h _ _ _ _ _ c.put_repeated.ensures (then h _ _ _ _ _ c.put_step.ensures c.put-2.ensures)))
