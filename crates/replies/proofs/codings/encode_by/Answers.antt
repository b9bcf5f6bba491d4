use Rattle.replies.proofs.Buffers.{kept}
use Rattle.replies.proofs.codings.encode_by.Goals as goal

pub returns : goal.returns
returns g c =
    let wire = c.in_ok-wire.wire in
    kept c.as_mut_slice.result.now wire.items c.encode.new.out (g.K.Codec.code c.args.value.now)
    wire.len g.K.Codec.coding.wire.wide c.wire_len.result c.encode.ensures.bytes
    c.as_mut_slice.ensures.len (g.met.K.Codec.codes c.args.value.now).long c.wire_len.ensures
    c.in_ok-wire.ensures.len
