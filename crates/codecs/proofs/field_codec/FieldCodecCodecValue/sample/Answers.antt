use Rattle.std.proofs.Common.{◌%◌, sym, ap, ◌∙◌, mod-lt, mod-eq_of_lt}
use Rattle.challenger.specs.Sponge.{drawn}
use Rattle.codecs.specs.ScalarsLemmas.{remainder_read}
use Rattle.digits.specs.Digits.{number}
use Rattle.codecs.proofs.field_codec.FieldCodecCodecValue.sample.Goals as goal

pub returns-clause-value : goal.returns-clause-value
returns-clause-value g c =
    let f = g.F.PrimeField in
    let m = g.F.Field.modulus in
    let p = g.C.CanObserve in
    let n = number (drawn p.sponge g.S.SampleSize.draws (p.means c.args.challenger.now)) in
    let law = g.met.F.PrimeField in
    c.from_u64.ensures ∙ ap f.value_of (ap (λ r. r % m) c.sample_be.ensures.value ∙ mod-eq_of_lt (mod-lt n law.nonzero) ∙ sym (remainder_read f.wide m law.nonzero law.fits n))
