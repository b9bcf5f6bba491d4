use Rattle.std.proofs.Common.{◌≡◌, ◌-◌, ◌^◌, ◌<◌, ◌≤◌, true, ◌++◌, take, drop, replicate, ap, ◌∙◌, subst, arith}
use native.Mathlib.Nat.{sub-zero}
use Rattle.std.proofs.lemmas.List.{take_rest}
use Rattle.length_prefix.specs.Prefix.{fits}
use Rattle.digits.proofs.Eight.{eight_be}
use Rattle.length_prefix.proofs.Prefix.{fits_so, over_so, limit, left_aligned}
use Rattle.length_prefix.proofs.encode_len_be.Goals as goal

pub returns-then-len-width : goal.returns-then-len-width
returns-then-len-width c =
    let w = c.args.width in
    let over : 256 ^ w ≤ c.args.len = subst (λ k. k ≤ c.args.len) (limit w c.if-width-lt-WIDEST.true) c.if-len-width.true in
    let no' = over_so c.args.len w (omega arith) over in
    record { bytes = rw no'; refused = rw no' }

pub returns : goal.returns
returns c =
    let len = c.args.len in
    let w = c.args.width in
    let ok : fits len w ≡ true =
    elim c.else-width-lt-WIDEST.branch [
      | goal.else-width-lt-WIDEST-via-then-width-lt-WIDEST+else-len-width x ↦ fits_so len w (omega arith) (subst (λ k. len < k) (limit w x.if-width-lt-WIDEST.true) x.if-len-width.false)
      | goal.else-width-lt-WIDEST-via-else-width-lt-WIDEST x ↦ let e : 8 ≡ w = omega (arith, x.if-width-lt-WIDEST.false) in fits_so len w (omega arith) (subst (λ k. len < 256 ^ k) e (omega arith))
    ] in
    let part : c.copy_from_slice.new.self ≡ drop (8 - w) (eight_be len) =
    c.copy_from_slice.ensures.after ∙ ap (λ xs. take (8 - (8 - w)) (drop (8 - w) xs)) c.to_be_bytes-full.ensures ∙ take_rest (eight_be len) (8 - w) in
    record { bytes = ap (λ k. c.copy_from_slice.new.self ++ drop k (replicate 8 0)) (sub-zero w) ∙ left_aligned len w _ ok part; refused = rw ok }
