use Rattle.std.proofs.Common.{◌≡◌, ◌+◌, ◌-◌, ◌<◌, ◌≤◌, length, take, sym, ◌∙◌, ap₂, arith}
use Rattle.digits.specs.Digits.{little_endian}
use Rattle.digits.proofs.LittleEndian.{long}
use Rattle.codecs.proofs.Writing.{low_bytes, unchanged, written}
use Rattle.codecs.proofs.scalar.encode_le.Goals as goal
use Rattle.codecs.proofs.scalar.encode_le.Goals.{then-wide-out-via-then-wide-out, then-wide-out-via-else-wide-out+then-filled-out}

pub returns-then-wide-out-clause-bytes : goal.returns-then-wide-out-clause-bytes
returns-then-wide-out-clause-bytes g c =
    let out = c.args.out.now in
    let wide = g.F.PrimeField.wide in
    let w = c.wire_len-wide.result in
    let filled = c.args.filled in
    let bs = little_endian wide c.args.n in
    let short : length out < filled + w =
    elim c.then-wide-out.branch [ then-wide-out-via-then-wide-out x ↦ omega arith | then-wide-out-via-else-wide-out+then-filled-out x ↦ omega arith ] in
    sym (unchanged out filled w bs (long wide c.args.n ∙ sym c.wire_len-wide.ensures) short)

pub returns-clause-bytes : goal.returns-clause-bytes
returns-clause-bytes g c =
    let out = c.args.out.now in
    let wide = g.F.PrimeField.wide in
    let w = c.wire_len-wide.result in
    let n = c.args.n in
    let filled = c.args.filled in
    let bs = little_endian wide n in
    let fits : filled + w ≤ length out = omega arith in
    let part : c.copy_from_slice.new.self ≡ bs =
    c.copy_from_slice.ensures.after ∙ ap₂ (λ k x. take (k - 0) x) c.wire_len-wide.ensures c.to_le_bytes-bytes.ensures ∙ low_bytes wide n g.met.F.PrimeField.narrow in
    written out filled w bs (long wide n ∙ sym c.wire_len-wide.ensures) fits _ part
