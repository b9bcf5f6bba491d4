use Rattle.std.proofs.Common.{◌≡◌, ◌-◌, take, ap, ◌∙◌, ap₂}
use Rattle.challenger.specs.Sponge.{absorbed}
use Rattle.codecs.proofs.Writing.{low_bytes}
use Rattle.codecs.specs.Scalars.{remainder_bytes}
use Rattle.digits.specs.Digits.{little_endian}
use Rattle.codecs.proofs.field_codec.FieldCodecCodecValue.observe.Goals as goal

pub returns : goal.returns
returns g c =
    let p = g.C.CanObserve in
    let f = g.F.PrimeField in
    let written : take (c.wire_len.result - 0) c.to_le_bytes-bytes.result ≡ remainder_bytes f.wide g.F.Field.modulus (f.number c.args.value.now) =
    ap₂ (λ w bs. take (w - 0) bs) c.wire_len.ensures c.to_le_bytes-bytes.ensures ∙ low_bytes f.wide c.remainder.result g.met.F.PrimeField.narrow ∙ ap (little_endian f.wide) c.remainder.ensures in
    c.observe_scalar.ensures ∙ ap (λ bs. absorbed p.sponge (g.U.ScalarUnit.scalars bs) (p.means c.args.challenger.now)) written
