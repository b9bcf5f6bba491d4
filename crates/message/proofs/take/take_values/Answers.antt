use Rattle.std.proofs.Common.{◌*◌, ◌≤◌, length, sym, ap, ◌∙◌, arith}
use Rattle.challenger.specs.Sponge.{absorbed}
use Rattle.ends.specs.Verifier.{cut, good}
use Rattle.message.specs.Payloads.{stored_in}
use Rattle.message.proofs.Taking.{taking_reads}
use Rattle.std.specs.List.{flat_map}
use Rattle.message.proofs.take.take_values.Goals as goal

pub returns : goal.returns
returns g c =
    let k = g.K.Codec.coding in
    let s = c.args.bytes.now in
    let size = ap (λ w. c.args.count * w) c.wire_len.ensures in
    let long : c.args.count * k.wire.wide ≤ length s = omega arith in
    let t = taking_reads g.C.CanObserve.sponge g.U.Unit.items k c.args.prefix.now s c.args.count (length c.args.out.now) (g.C.CanObserve.means c.args.challenger.now) long (omega arith) in
    record {
      answer = c.read_values.ensures.answer ∙ sym (ap (λ o. o.answer) t);
      stored = c.read_values.ensures.stored ∙ sym (ap (λ o. stored_in g.K.Codec.uncoded o.stored c.args.out.now) t);
      state = c.read_values.ensures.state ∙ ap (λ x. absorbed g.C.CanObserve.sponge (flat_map k.items (good k.wire (cut c.args.count k.wire.wide s))) x) c.observe_bytes-2.ensures ∙ sym (ap (λ o. o.left) t);
    }
