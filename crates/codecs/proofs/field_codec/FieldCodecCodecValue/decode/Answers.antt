use Rattle.std.proofs.Common.{Ok, sym, ap, ◌∙◌}
use Rattle.std.specs.Option.{ok_or}
use Rattle.codecs.proofs.Reading.{read_whole}
use Rattle.codecs.proofs.field_codec.FieldCodecCodecValue.decode.Goals as goal

pub returns : goal.returns
returns g c =
    let f = g.F.PrimeField in
    let read = ap (λ r. ok_or r 1) (sym c.decode_le.ensures) ∙ sym c.ok_or.ensures.value ∙ c.in_ok-n.was in
    ap Ok c.from_u64.ensures ∙ read_whole f.wide g.F.Field.modulus f.value_of c.args.bytes.now 1 c.in_ok-n.n read
