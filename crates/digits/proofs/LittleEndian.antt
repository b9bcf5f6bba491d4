-- Little-endian bytes: their number, and what writing and reading give back.
use Rattle.std.proofs.Common.{◌≡◌, ℕ, zero, suc, ◌+◌, ◌*◌, ◌/◌, ◌%◌, ◌^◌, ◌<◌, List, [], ◌∷◌, ◌++◌, length, take, replicate, sym, refl, ap, ◌∙◌, ap₂, div-lt_iff_lt-mul, suc-add, pow-suc, arith}
use Rattle.digits.specs.Digits.{little_endian, number_le, Bytes}

pub long : (w n : ℕ) → length (little_endian w n) ≡ w
long zero n = refl
long (suc w) n = ap suc (long w (n / 256))

pub bytes : (w n : ℕ) → Bytes (little_endian w n)
bytes zero n = tt
bytes (suc w) n = (omega arith, bytes w (n / 256))

pub read : (w n : ℕ) → n < 256 ^ w → number_le (little_endian w n) ≡ n
read zero n h = omega arith
read (suc w) n h =
    let low : n / 256 < 256 ^ w = (div-lt_iff_lt-mul {k = 256} {x = n} {y = 256 ^ w} (omega arith)).1 (rw (sym (pow-suc 256 w)) h) in
    omega (arith, read w (n / 256) low)

pub small : (bs : List ℕ) → Bytes bs → number_le bs < 256 ^ length bs
small [] h = omega arith
small (b ∷ bs) h = let low = small bs h.1 in rw pow-suc (omega (arith, h.0, low))

pub written : (bs : List ℕ) → Bytes bs → little_endian (length bs) (number_le bs) ≡ bs
written [] h = refl
written (b ∷ bs) h =
    let first : (b + 256 * number_le bs) % 256 ≡ b = omega (arith, h.0) in
    let rest : (b + 256 * number_le bs) / 256 ≡ number_le bs = omega (arith, h.0) in
    ap₂ ◌∷◌ first (ap (little_endian (length bs)) rest ∙ written bs h.1)

-- the first w of more bytes
pub first : (w v n : ℕ) → take w (little_endian (w + v) n) ≡ little_endian w n
first zero v n = refl
first (suc w) v n = ap (λ k. take (suc w) (little_endian k n)) (suc-add w v) ∙ ap (λ bs. n % 256 ∷ bs) (first w v (n / 256))

zeros : (k : ℕ) → number_le (replicate k 0) ≡ 0
zeros zero = refl
zeros (suc k) = omega (arith, zeros k)

-- zeros after the highest byte do not count
pub number_le_zeros : (k : ℕ) (bs : List ℕ) → number_le (bs ++ replicate k 0) ≡ number_le bs
number_le_zeros k [] = zeros k
number_le_zeros k (b ∷ bs) = ap (λ n. b + 256 * n) (number_le_zeros k bs)
