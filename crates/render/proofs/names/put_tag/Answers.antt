use Rattle.std.proofs.Common.{sym, ap}
use Rattle.render.specs.Rendering.{tag_text_by}
use Rattle.sink.proofs.Chain.{same, then}
use Rattle.render.proofs.names.put_tag.Goals as goal

pub returns-in-Algebra : goal.returns-in-Algebra
returns-in-Algebra g c =
    let h = g.S.Sink.holds in
    let t = c.args.tag.now in
    same h _ _ _ _ (sym (ap (λ code. tag_text_by code t.modulus t.degree t.basis) c.in-Algebra.is))
    (then h _ _ _ _ _ c.put-in-Algebra.ensures (then h _ _ _ _ _ c.put_decimal.ensures
    (then h _ _ _ _ _ c.put-in-Algebra-2.ensures (then h _ _ _ _ _ c.put_decimal-in-Algebra.ensures
    (then h _ _ _ _ _ c.put-in-Algebra-3.ensures (then h _ _ _ _ _ c.put_hex.ensures c.put-in-Algebra-4.ensures))))))
