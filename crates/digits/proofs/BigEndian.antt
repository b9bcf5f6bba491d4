-- Big-endian bytes: their number, what writing and reading give back, and the first of them.
use Rattle.std.proofs.Common.{◌≡◌, ℕ, zero, suc, ◌+◌, ◌*◌, ◌/◌, ◌%◌, ◌^◌, ◌<◌, List, [], ◌∷◌, ◌++◌, length, drop, replicate, sym, refl, ap, ◌∙◌, ap₂, mul_assoc, mul_comm, div-lt_iff_lt-mul, add-mul, suc-add, pow-suc, div-add-mod', zero-add, add-one, arith}
use native.Mathlib.Nat.{div-div-eq-div-mul}
use Rattle.std.proofs.lemmas.Nat.{div-mul-add}
use Rattle.std.proofs.lemmas.List.{length_push}
use Rattle.std.proofs.ByRecursion.{All-push}
use Rattle.std.proofs.lemmas.Int.Digits.{number_push, number_lt}
use Rattle.std.specs.Int.Digits.{number_from_digits_after}
use Rattle.digits.specs.Digits.{big_endian, number, Bytes}

pub pow_pos : (k : ℕ) → 0 < 256 ^ k
pow_pos zero = omega arith
pow_pos (suc k) = let h = pow_pos k in rw pow-suc (omega arith)

pub long : (w n : ℕ) → length (big_endian w n) ≡ w
long zero n = refl
long (suc w) n = length_push (big_endian w (n / 256)) (n % 256) ∙ ap (λ k. k + 1) (long w (n / 256)) ∙ add-one w

pub bytes : (w n : ℕ) → Bytes (big_endian w n)
bytes zero n = tt
bytes (suc w) n = All-push (λ d. d < 256) (big_endian w (n / 256)) (n % 256) (bytes w (n / 256)) (omega arith)

pub read : (w n : ℕ) → n < 256 ^ w → number (big_endian w n) ≡ n
read zero n h = omega arith
read (suc w) n h =
    let low : n / 256 < 256 ^ w = (div-lt_iff_lt-mul {k = 256} {x = n} {y = 256 ^ w} (omega arith)).1 (rw (sym (pow-suc 256 w)) h) in
    number_push 256 (big_endian w (n / 256)) (n % 256) ∙ ap (λ m. m * 256 + n % 256) (read w (n / 256) low) ∙ div-add-mod' n 256

pub small : (bs : List ℕ) → Bytes bs → number bs < 256 ^ length bs
small bs h = number_lt 256 bs h

-- what stands above the lowest w bytes does not matter
pub cut : (w q r : ℕ) → big_endian w (q * 256 ^ w + r) ≡ big_endian w r
cut zero q r = refl
cut (suc w) q r =
    let n = q * 256 ^ suc w + r in
    let e : q * 256 ^ suc w ≡ q * 256 ^ w * 256 = ap (λ k. q * k) (pow-suc 256 w) ∙ sym (mul_assoc q (256 ^ w) 256) in
    let high : n / 256 ≡ q * 256 ^ w + r / 256 = omega (arith, e) in
    let last : n % 256 ≡ r % 256 = omega (arith, e) in
    ap₂ (λ m d. big_endian w m ++ (d ∷ [])) high last ∙ ap (λ bs. bs ++ (r % 256 ∷ [])) (cut w q (r / 256))

-- the highest byte comes first
pub first : (w n : ℕ) → big_endian (suc w) n ≡ (n / 256 ^ w % 256) ∷ big_endian w n
first zero n = let e : n / 256 ^ 0 ≡ n = omega arith in ap (λ m. m % 256 ∷ []) (sym e)
first (suc w) n =
    let e : n / 256 / 256 ^ w ≡ n / 256 ^ suc w =
    div-div-eq-div-mul n 256 (256 ^ w) ∙ ap (λ k. n / k) (mul_comm 256 (256 ^ w) ∙ sym (pow-suc 256 w)) in
    ap (λ bs. bs ++ (n % 256 ∷ [])) (first w (n / 256)) ∙ ap (λ d. d % 256 ∷ big_endian (suc w) n) e

-- a first byte weighs 256 to the power of the number of bytes after it
number_after_is : (a : ℕ) (bs : List ℕ) → number_from_digits_after 256 a bs ≡ a * 256 ^ length bs + number bs
number_after_is a [] = omega arith
number_after_is a (b ∷ bs) =
    let p = 256 ^ length bs in
    let spread : (a * 256 + b) * p ≡ a * 256 * p + b * p = add-mul (a * 256) b p in
    let weight : a * 256 * p ≡ a * 256 ^ suc (length bs) = mul_assoc a 256 p ∙ ap (λ k. a * k) (mul_comm 256 p ∙ sym (pow-suc 256 (length bs))) in
    let here = number_after_is (a * 256 + b) bs in
    let rest = number_after_is (0 * 256 + b) bs in
    let low : (0 * 256 + b) * p ≡ b * p = ap (λ k. k * p) (omega arith) in
    omega (arith, spread, weight, here, rest, low)

pub number_first : (b : ℕ) (bs : List ℕ) → number (b ∷ bs) ≡ b * 256 ^ length bs + number bs
number_first b bs = number_after_is (0 * 256 + b) bs ∙ ap (λ k. k * 256 ^ length bs + number bs) (omega arith)

pub written : (bs : List ℕ) → Bytes bs → big_endian (length bs) (number bs) ≡ bs
written [] h = refl
written (b ∷ bs) h =
    let p = 256 ^ length bs in
    let n = number bs in
    let low : n < p = small bs h.1 in
    let is = number_first b bs in
    let high : (b * p + n) / p ≡ b = div-mul-add b p n low in
    let byte : b % 256 ≡ b = omega (arith, h.0) in
    ap (big_endian (suc (length bs))) is ∙ first (length bs) (b * p + n)
    ∙ ap₂ (λ d ds. d % 256 ∷ ds) high (cut (length bs) b n) ∙ ap₂ (λ d ds. d ∷ ds) byte (written bs h.1)

-- the last w of more bytes
pub last : (v w n : ℕ) → drop v (big_endian (v + w) n) ≡ big_endian w n
last zero w n = ap (λ k. big_endian k n) (zero-add w)
last (suc v) w n = ap (λ k. drop (suc v) (big_endian k n)) (suc-add v w) ∙ ap (drop (suc v)) (first (v + w) n) ∙ last v w n

-- zeros in front do not count
pub number_zeros : (k : ℕ) (bs : List ℕ) → number (replicate k 0 ++ bs) ≡ number bs
number_zeros zero bs = refl
number_zeros (suc k) bs = number_first 0 (replicate k 0 ++ bs) ∙ omega (arith, number_zeros k bs)
