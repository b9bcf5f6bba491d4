-- Eight bytes, as the number types read and write them, highest first (be) or lowest first (le).
use Rattle.std.proofs.Common.{◌≡◌, ℕ, ◌+◌, ◌-◌, ◌*◌, ◌/◌, ◌%◌, ◌<◌, ◌≤◌, List, [], ◌∷◌, ◌++◌, length, get_or, take, drop, replicate, ap, ◌∙◌, ap₂, arith}
use borrow.Rule.Slice.PartMut.{put_mid}
use Rattle.std.proofs.lemmas.Int.Digits.{number_more}
use Rattle.std.proofs.lemmas.List.{take_all, take-replicate, drop_all, drop_more, drop-replicate, append-nil, length-append, length-drop, length-replicate}
use Rattle.digits.specs.Digits.{big_endian, number, little_endian, number_le}
use Rattle.digits.proofs.BigEndian.{number_zeros}
use Rattle.digits.proofs.LittleEndian.{number_le_zeros}

abbrev pub eight_be : ℕ → List ℕ
eight_be n =
    (n / 72057594037927936 % 256) ∷ (n / 281474976710656 % 256) ∷ (n / 1099511627776 % 256) ∷ (n / 4294967296 % 256)
    ∷ (n / 16777216 % 256) ∷ (n / 65536 % 256) ∷ (n / 256 % 256) ∷ (n % 256) ∷ []

pub eight_be_is : (n : ℕ) → eight_be n ≡ big_endian 8 n
eight_be_is n =
    let e2 : n / 256 / 256 ≡ n / 65536 = omega arith in
    let e3 : n / 256 / 256 / 256 ≡ n / 16777216 = omega arith in
    let e4 : n / 256 / 256 / 256 / 256 ≡ n / 4294967296 = omega arith in
    let e5 : n / 256 / 256 / 256 / 256 / 256 ≡ n / 1099511627776 = omega arith in
    let e6 : n / 256 / 256 / 256 / 256 / 256 / 256 ≡ n / 281474976710656 = omega arith in
    let e7 : n / 256 / 256 / 256 / 256 / 256 / 256 / 256 ≡ n / 72057594037927936 = omega arith in
    cc

abbrev pub sum_be : List ℕ → ℕ
sum_be bs =
    get_or bs 0 0 * 72057594037927936 + get_or bs 1 0 * 281474976710656 + get_or bs 2 0 * 1099511627776 + get_or bs 3 0 * 4294967296
    + get_or bs 4 0 * 16777216 + get_or bs 5 0 * 65536 + get_or bs 6 0 * 256 + get_or bs 7 0

pub sum_be_is : (bs : List ℕ) → length bs ≡ 8 → sum_be bs ≡ number bs
sum_be_is bs h =
    let more : (i : ℕ) → i < 8 → number (take (i + 1) bs) ≡ number (take i bs) * 256 + get_or bs i 0 = λ i lt. number_more 256 bs i (omega arith) in
    let all : number (take 8 bs) ≡ number bs = ap number (take_all 8 bs (omega arith)) in
    let m0 = more 0 (omega arith) in
    let m1 = more 1 (omega arith) in
    let m2 = more 2 (omega arith) in
    let m3 = more 3 (omega arith) in
    let m4 = more 4 (omega arith) in
    let m5 = more 5 (omega arith) in
    let m6 = more 6 (omega arith) in
    let m7 = more 7 (omega arith) in
    omega (arith, m0, m1, m2, m3, m4, m5, m6, m7, all)

-- bytes at the end of eight say what they say alone
pub be_at_the_end : (w : ℕ) (bs : List ℕ) → w ≤ 8 → length bs ≡ w → sum_be (put_mid (8 - w) (8 - (8 - w)) (replicate 8 0) bs) ≡ number bs
be_at_the_end w bs le h =
    let xs = put_mid (8 - w) (8 - (8 - w)) (replicate 8 0) bs in
    let front : take (8 - w) (replicate 8 0) ≡ replicate (8 - w) 0 = take-replicate (8 - w) 8 0 (omega arith) in
    let back : drop (8 - (8 - w)) (drop (8 - w) (replicate 8 0)) ≡ [] =
    drop_all (8 - (8 - w)) (drop (8 - w) (replicate 8 0)) (simp (length-drop, length-replicate) (omega arith)) in
    let is : xs ≡ replicate (8 - w) 0 ++ bs = ap₂ (λ x y. x ++ (bs ++ y)) front back ∙ ap (λ y. replicate (8 - w) 0 ++ y) (append-nil bs) in
    let wide : length (replicate (8 - w) 0) + length bs ≡ 8 = simp length-replicate (omega arith) in
    sum_be_is xs (ap length is ∙ length-append (replicate (8 - w) 0) bs ∙ wide) ∙ ap number is ∙ number_zeros (8 - w) bs

abbrev pub eight_le : ℕ → List ℕ
eight_le n =
    (n % 256) ∷ (n / 256 % 256) ∷ (n / 65536 % 256) ∷ (n / 16777216 % 256)
    ∷ (n / 4294967296 % 256) ∷ (n / 1099511627776 % 256) ∷ (n / 281474976710656 % 256) ∷ (n / 72057594037927936 % 256) ∷ []

pub eight_le_is : (n : ℕ) → eight_le n ≡ little_endian 8 n
eight_le_is n =
    let e2 : n / 256 / 256 ≡ n / 65536 = omega arith in
    let e3 : n / 256 / 256 / 256 ≡ n / 16777216 = omega arith in
    let e4 : n / 256 / 256 / 256 / 256 ≡ n / 4294967296 = omega arith in
    let e5 : n / 256 / 256 / 256 / 256 / 256 ≡ n / 1099511627776 = omega arith in
    let e6 : n / 256 / 256 / 256 / 256 / 256 / 256 ≡ n / 281474976710656 = omega arith in
    let e7 : n / 256 / 256 / 256 / 256 / 256 / 256 / 256 ≡ n / 72057594037927936 = omega arith in
    cc

abbrev pub sum_le : List ℕ → ℕ
sum_le bs =
    get_or bs 0 0 + get_or bs 1 0 * 256 + get_or bs 2 0 * 65536 + get_or bs 3 0 * 16777216
    + get_or bs 4 0 * 4294967296 + get_or bs 5 0 * 1099511627776 + get_or bs 6 0 * 281474976710656 + get_or bs 7 0 * 72057594037927936

pub sum_le_is : (bs : List ℕ) → length bs ≡ 8 → sum_le bs ≡ number_le bs
sum_le_is bs h =
    let more : (i : ℕ) → i < 8 → number_le (drop i bs) ≡ get_or bs i 0 + 256 * number_le (drop (i + 1) bs) = λ i lt. ap number_le (drop_more bs i 0 (omega arith)) in
    let none : number_le (drop 8 bs) ≡ 0 = ap number_le (drop_all 8 bs (omega arith)) in
    let m0 = more 0 (omega arith) in
    let m1 = more 1 (omega arith) in
    let m2 = more 2 (omega arith) in
    let m3 = more 3 (omega arith) in
    let m4 = more 4 (omega arith) in
    let m5 = more 5 (omega arith) in
    let m6 = more 6 (omega arith) in
    let m7 = more 7 (omega arith) in
    omega (arith, m0, m1, m2, m3, m4, m5, m6, m7, none)

-- bytes at the start of eight say what they say alone
pub le_at_the_start : (w : ℕ) (bs : List ℕ) → w ≤ 8 → length bs ≡ w → sum_le (put_mid 0 w (replicate 8 0) bs) ≡ number_le bs
le_at_the_start w bs le h =
    let xs = put_mid 0 w (replicate 8 0) bs in
    let is : xs ≡ bs ++ replicate (8 - w) 0 = ap (λ y. bs ++ y) (drop-replicate w 8 0) in
    let wide : length bs + length (replicate (8 - w) 0) ≡ 8 = simp length-replicate (omega arith) in
    sum_le_is xs (ap length is ∙ length-append bs (replicate (8 - w) 0) ∙ wide) ∙ ap number_le is ∙ number_le_zeros (8 - w) bs
