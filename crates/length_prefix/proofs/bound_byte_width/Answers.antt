use Rattle.std.proofs.Common.{refl, arith}
use Rattle.length_prefix.proofs.Width.{by_bits, width_least, least_alike}
use Rattle.length_prefix.proofs.bound_byte_width.Goals as goal

pub returns : goal.returns
returns c =
    let max = c.args.max in
    let found = by_bits max (omega arith) _ c.div_ceil.result refl c.div_ceil.ensures in
    record { value = least_alike max _ _ found.0 (width_least max); least = found.0; bound = found.1 }
