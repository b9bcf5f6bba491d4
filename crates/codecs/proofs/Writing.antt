-- Bytes written after a buffer's filled part.
use Rattle.std.proofs.Common.{◌≡◌, ℕ, ◌+◌, ◌-◌, ◌<◌, ◌≤◌, true, false, List, ◌++◌, length, take, drop, ap, ◌∙◌, ap₂, arith, le-leb}
use borrow.Author.Tests.{lt-leb}
use borrow.Rule.Slice.PartMut.{put_mid}
use native.Mathlib.Nat.{sub-zero}
use Rattle.std.proofs.lemmas.List.{drop-drop}
use Rattle.codec.specs.Coding.{room, filled_with}
use Rattle.digits.proofs.Eight.{eight_le, eight_le_is}
use Rattle.digits.proofs.LittleEndian.{first}
use Rattle.digits.specs.Digits.{little_endian}

-- the first bytes of a number's eight
pub low_bytes : (w n : ℕ) → w ≤ 8 → take (w - 0) (eight_le n) ≡ little_endian w n
low_bytes w n h =
    let whole : 8 ≡ w + (8 - w) = omega arith in
    ap₂ take (sub-zero w) (eight_le_is n ∙ ap (λ k. little_endian k n) whole) ∙ first w (8 - w) n

module _ (out : List ℕ) (filled w : ℕ) (bs : List ℕ) (wide : length bs ≡ w) where
  module _ (short : length out < filled + w) where
    pub unchanged : filled_with out filled bs ≡ out
    unchanged = let r : room out filled (length bs) ≡ false = ap (room out filled) wide ∙ lt-leb (filled + w) (length out) short in rw r

  module _ (fits : filled + w ≤ length out) where
    pub written : (part : List ℕ) → part ≡ bs → put_mid filled (filled + w - filled) out part ≡ filled_with out filled bs
    written part is =
        let r : room out filled (length bs) ≡ true = ap (room out filled) wide ∙ le-leb (filled + w) (length out) fits in
        let k : filled + w - filled ≡ length bs = omega (arith, wide) in
        let rest : drop (filled + w - filled) (drop filled out) ≡ drop (filled + length bs) out = ap (λ n. drop n (drop filled out)) k ∙ drop-drop (length bs) filled out in
        ap₂ (λ x y. take filled out ++ (x ++ y)) is rest ∙ (rw r)
