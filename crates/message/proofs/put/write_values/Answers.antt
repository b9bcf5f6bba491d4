use Rattle.std.proofs.Common.{sym, ◌∙◌}
use Rattle.message.proofs.Writing.{partly_more}
use Rattle.message.proofs.put.write_values.Goals as goal

pub loop-value-preserved : goal.loop-value-preserved
loop-value-preserved g c =
    let l = c.loop-value in
    let v = c.value-item.result in
    partly_more g.C.CanObserve.sponge g.K.Codec.coding g.K.Codec.code c.args.values.now c.args.out.now c.args.start (g.C.CanObserve.means c.args.challenger.now) l.value-index l.at l.out (g.C.CanObserve.means l.challenger) c.loop-value-test.true c.requires l.invariant v c.value-item.is (g.met.K.Codec.codes v).long c.unwrap-at.result c.encode.new.out (g.C.CanObserve.means c.observe.new.challenger) (sym c.unwrap-at.ensures ∙ c.encode.ensures.value) c.encode.ensures.bytes c.observe.ensures
