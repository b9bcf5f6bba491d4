use Rattle.std.proofs.Common.{[], ◌∷◌, ap}
use Rattle.std.proofs.lemmas.List.{drop_more}
use Rattle.sink.specs.Writing.{hex_text}
use Rattle.sink.proofs.Chain.{same, more}
use Rattle.sink.proofs.write.put_hex.Goals as goal

pub loop-b-preserved : goal.loop-b-preserved
loop-b-preserved g c =
    let bs = c.args.bytes.now in
    let i = c.loop-b.b-index in
    more g.S.Sink.holds _ _ _ _ _ _ _ (ap hex_text (drop_more bs i 0 c.loop-b-test.true)) c.loop-b.invariant
    (same g.S.Sink.holds _ _ _ _ (λ k. c.hex_digit.ensures k ∷ c.hex_digit-in-loop-b.ensures k ∷ []) c.put.ensures)
