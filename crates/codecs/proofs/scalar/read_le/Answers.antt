use Rattle.std.proofs.Common.{length, replicate, refl, ◌∙◌, ap₂}
use native.Mathlib.Nat.{sub-zero}
use borrow.Rule.Slice.PartMut.{put_mid}
use Rattle.digits.proofs.Eight.{sum_le, le_at_the_start}
use Rattle.codecs.proofs.scalar.read_le.Goals as goal

pub returns : goal.returns
returns c =
    let bs = c.args.bytes.now in
    c.from_le_bytes.ensures ∙ ap₂ (λ k x. sum_le (put_mid 0 k (replicate 8 0) x)) (sub-zero (length bs)) c.copy_from_slice.ensures.after ∙ le_at_the_start (length bs) bs c.requires refl
