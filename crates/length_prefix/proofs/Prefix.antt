-- Prefixes written and read: what fits, and that each comes back from the other.
use Rattle.std.proofs.Common.{◌≡◌, ℕ, ◌+◌, ◌-◌, ◌*◌, ◌%◌, ◌^◌, ◌<◌, ◌≤◌, true, false, List, ◌++◌, length, take, drop, replicate, Ok, sym, ap, ◌∙◌, subst, ap₂, mod-eq_of_lt, arith, pow_pos, pow_mono, le-ltb, lt-ltb, le-leb}
use Rattle.std.proofs.lemmas.Nat.{pow-add}
use Rattle.std.proofs.lemmas.List.{take_at, length-append, length-take-le, append_cancel_right, drop-replicate}
use Rattle.std.proofs.ByRecursion.{All-take}
use Rattle.std.proofs.lemmas.Bool.Decides.{nat_tests}
use Rattle.digits.specs.Digits.{big_endian, number, Bytes}
use Rattle.digits.proofs.BigEndian.{long, read, written, small, last}
use Rattle.digits.proofs.Eight.{eight_be, eight_be_is}
use Rattle.length_prefix.proofs.Width.{pow_256}
use Rattle.length_prefix.specs.Prefix.{fits, encoded, holds, decoded}

pub fits_so : (len w : ℕ) → w ≤ 8 → len < 256 ^ w → fits len w ≡ true
fits_so len w le lt = let a = le-leb w 8 le in let b = lt-ltb len (256 ^ w) lt in rw (a, b)

pub over_so : (len w : ℕ) → w ≤ 8 → 256 ^ w ≤ len → fits len w ≡ false
over_so len w le ge = let a = le-leb w 8 le in let b = le-ltb len (256 ^ w) ge in rw (a, b)

pub narrow : (len w : ℕ) → fits len w ≡ true → w ≤ 8
narrow len w h = grind (arith, nat_tests)

pub under : (len w : ℕ) → fits len w ≡ true → len < 256 ^ w
under len w h = grind (arith, nat_tests)

pub encoded_is : (len w : ℕ) → fits len w ≡ true → encoded len w ≡ big_endian w len ++ replicate (8 - w) 0
encoded_is len w h = rw h

holds_so : (buf : List ℕ) (w : ℕ) → w ≤ 8 → w ≤ length buf → holds buf w ≡ true
holds_so buf w le in' = let a = le-leb w 8 le in let b = le-leb w (length buf) in' in rw (a, b)

pub read_back : (len w : ℕ) (after : List ℕ) → fits len w ≡ true → decoded (big_endian w len ++ after) w ≡ Ok len
read_back len w after h =
    let bs = big_endian w len in
    let in' : w ≤ length (bs ++ after) = simp length-append (omega (arith, long w len)) in
    let t = holds_so (bs ++ after) w (narrow len w h) in' in
    rw t (ap Ok (ap number (take_at bs after w (long w len)) ∙ read w len (under len w h)))

pub one_form : (len other w : ℕ) → fits len w ≡ true → fits other w ≡ true → encoded len w ≡ encoded other w → len ≡ other
one_form len other w h k e =
    let zeros = replicate (8 - w) 0 in
    let same : big_endian w len ≡ big_endian w other =
    append_cancel_right (big_endian w len) (big_endian w other) zeros (sym (encoded_is len w h) ∙ e ∙ encoded_is other w k) in
    sym (read w len (under len w h)) ∙ ap number same ∙ read w other (under other w k)

pub written_back : (buf : List ℕ) (len w : ℕ) → Bytes buf → decoded buf w ≡ Ok len → take w (encoded len w) ≡ take w buf
written_back buf len w h e =
    let t : holds buf w ≡ true = grind (arith, nat_tests, e) in
    let le : w ≤ 8 = grind (arith, nat_tests) in
    let in' : w ≤ length buf = grind (arith, nat_tests) in
    let bs = take w buf in
    let ok = All-take (λ b. b < 256) w buf h in
    let is : number bs ≡ len = let s : Ok (number bs) ≡ decoded buf w = rw t in let o = s ∙ e in cc in
    let wide : length bs ≡ w = length-take-le w buf in' in
    let fit : fits len w ≡ true = fits_so len w le (subst (λ n. n < 256 ^ w) is (subst (λ k. number bs < 256 ^ k) wide (small bs ok))) in
    ap (take w) (encoded_is len w fit) ∙ take_at (big_endian w len) (replicate (8 - w) 0) w (long w len)
    ∙ ap (big_endian w) (sym is) ∙ ap (λ k. big_endian k (number bs)) (sym wide) ∙ written bs ok

-- the limit that a width of less than eight bytes sets
pub limit : (w : ℕ) → w < 8 → (1 * 2 ^ (w * 8)) % 2 ^ 64 ≡ 256 ^ w
limit w lt =
    let at : w * 8 + 1 ≤ 64 = omega arith in
    let two = pow-add 2 (w * 8) 1 in
    let up = pow_mono at in
    let pos = pow_pos (w * 8) in
    let e : 1 * 2 ^ (w * 8) ≡ 2 ^ (w * 8) = omega arith in
    ap (λ k. k % 2 ^ 64) e ∙ mod-eq_of_lt (omega (arith, two, up, pos)) ∙ sym (pow_256 w)

-- the last w of the eight bytes, and zeros
pub left_aligned : (len w : ℕ) (part : List ℕ) → fits len w ≡ true → part ≡ drop (8 - w) (eight_be len)
    → part ++ drop w (replicate 8 0) ≡ encoded len w
left_aligned len w part h e =
    let le = narrow len w h in
    let at : 8 ≡ (8 - w) + w = omega arith in
    let is : part ≡ big_endian w len = e ∙ ap (drop (8 - w)) (eight_be_is len ∙ ap (λ k. big_endian k len) at) ∙ last (8 - w) w len in
    ap₂ ◌++◌ is (drop-replicate w 8 0) ∙ sym (encoded_is len w h)
