use Rattle.std.proofs.Common.{length, set, replicate, refl, ap, ◌∙◌, arith}
use Rattle.std.proofs.lemmas.List.{length-append}
use borrow.Rule.Slice.PartMut.{put_mid}
use Rattle.digits.specs.Digits.{big_endian}
use Rattle.domain_separator.specs.Seeds.{seed}
use Rattle.domain_separator.proofs.Laying.{room, laid}
use Rattle.domain_separator.proofs.seed.seed_bytes.Goals as goal

pub slice_bounds-bytes-end-2 : goal.slice_bounds-bytes-end-2
slice_bounds-bytes-end-2 c = omega (arith, length-append c.copy_from_slice.new.self (replicate 37 0), c.copy_from_slice.ensures.len)

pub slice_bounds-bytes-end-3 : goal.slice_bounds-bytes-end-3
slice_bounds-bytes-end-3 c = room _ _ c.copy_from_slice.ensures.len (ap length c.copy_from_slice-2.ensures.after ∙ c.told-pattern_hash)

pub returns : goal.returns
unfolding seed
returns c =
    let e0 = c.copy_from_slice.ensures.after in
    let e1 = c.copy_from_slice-2.ensures.after in
    let e2 = c.copy_from_slice-3.ensures.after ∙ c.to_be_bytes.ensures in
    (λ i. set (put_mid 96 4 (put_mid 64 32 (put_mid 0 64 (replicate 101 0) (e0 i)) (e1 i)) (e2 i)) 100 0x80)
    ∙ laid c.args.protocol_id.now c.args.pattern_hash.now c.told-protocol_id c.told-pattern_hash (big_endian 4 0) refl 0x80
