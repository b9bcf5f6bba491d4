-- The words' operations, bit by bit.
-- Assumes nothing.
use Rattle.std.proofs.Common.{◌≡◌, ℕ, ◌+◌, ◌-◌, ◌*◌, ◌/◌, ◌%◌, ◌^◌, ◌<◌, ◌≤◌, sym, ap, ◌∙◌, ap₂, ⊎_elim, lt_of_lt_of_le, mod-eq_of_lt, mul_assoc, add-mul, add_comm, one-mul, mul-one, div-one, arith, pow_pos, pow_mono}
use native.Mathlib.Nat.{div-eq_of_lt}
use lib.Bits.{bit_and, bit_or, bit_xor, or_self, or_zero_r}
use Rattle.std.proofs.lemmas.Nat.{pow-add, shl-shr, shr-shr, shr_split, mod-pow-add, field_of, and_shr, or_shr, xor_shr, and_mod, or_mod, xor_mod, div-mul-add, mod_below, shr_below}
use Rattle.std.proofs.lemmas.Bool.{cases_lt, cases_eq}
use Rattle.keccak_f.specs.Words.{rot, flip, bit_of}

pub bit_of_xor : (a b z : ℕ) → bit_of (bit_xor a b) z ≡ bit_xor (bit_of a z) (bit_of b z)
bit_of_xor a b z = ap (λ n. n % 2) (xor_shr a b z) ∙ xor_mod (a / 2 ^ z) (b / 2 ^ z) 1

pub bit_of_and : (a b z : ℕ) → bit_of (bit_and a b) z ≡ bit_and (bit_of a z) (bit_of b z)
bit_of_and a b z = ap (λ n. n % 2) (and_shr a b z) ∙ and_mod (a / 2 ^ z) (b / 2 ^ z) 1

bit_of_or : (a b z : ℕ) → bit_of (bit_or a b) z ≡ bit_or (bit_of a z) (bit_of b z)
bit_of_or a b z = ap (λ n. n % 2) (or_shr a b z) ∙ or_mod (a / 2 ^ z) (b / 2 ^ z) 1

-- 2 ^ j is even where 0 < j
even : (j : ℕ) → 2 ^ (j + 1) ≡ 2 ^ j * 2
even j = pow-add 2 j 1

-- a bit below the place where a number is cut off
bit_cut : (n j z : ℕ) → bit_of (n % 2 ^ (j + 1 + z)) z ≡ bit_of n z
bit_cut n j z =
    let e = field_of n (j + 1) z in
    let f = mod-pow-add (n / 2 ^ z) j 1 in
    ap (λ m. m % 2) e ∙ omega (arith, f)

bit_past : (n z : ℕ) → n < 2 ^ z → bit_of n z ≡ 0
bit_past n z h = ap (λ m. m % 2) (div-eq_of_lt h)

pub bit_flip : (a z : ℕ) → a < 2 ^ 64 → z < 64 → bit_of (flip a) z ≡ 1 - bit_of a z
bit_flip a z h lt =
    let j = 63 - z in
    let q = a / 2 ^ z in
    let r = a % 2 ^ z in
    let u = 2 ^ (j + 1) - 1 - q in
    let at : j + 1 + z ≡ 64 = omega arith in
    let whole : 2 ^ (j + 1) * 2 ^ z ≡ 2 ^ 64 = sym (pow-add 2 (j + 1) z) ∙ ap (λ k. 2 ^ k) at in
    let top : q < 2 ^ (j + 1) = shr_below a (j + 1) z (rw at h) in
    let sum : u + q + 1 ≡ 2 ^ (j + 1) = omega arith in
    let spread : (u + q + 1) * 2 ^ z ≡ u * 2 ^ z + q * 2 ^ z + 2 ^ z =
    add-mul (u + q) 1 (2 ^ z) ∙ ap₂ (λ x y. x + y) (add-mul u q (2 ^ z)) (one-mul (2 ^ z)) in
    let all : u * 2 ^ z + q * 2 ^ z + 2 ^ z ≡ 2 ^ 64 = sym spread ∙ ap (λ k. k * 2 ^ z) sum ∙ whole in
    let low : r < 2 ^ z = mod_below a (2 ^ z) (pow_pos z) in
    let is : flip a ≡ u * 2 ^ z + (2 ^ z - 1 - r) = omega (arith, shr_split a z) in
    let div : flip a / 2 ^ z ≡ u = ap (λ n. n / 2 ^ z) is ∙ div-mul-add u (2 ^ z) (2 ^ z - 1 - r) (omega arith) in
    ap (λ n. n % 2) div ∙ omega (arith, even j)

bit_shl : (a r z : ℕ) → bit_of (a * 2 ^ r) (z + r) ≡ bit_of a z
bit_shl a r z =
    ap (λ n. n % 2)
    (ap (λ k. a * 2 ^ r / 2 ^ k) (add_comm z r) ∙ sym (shr-shr (a * 2 ^ r) r z) ∙ ap (λ n. n / 2 ^ z) (shl-shr a r))

bit_below : (a q p : ℕ) → bit_of (a * 2 ^ (q + 1 + p)) p ≡ 0
bit_below a q p =
    let e : a * 2 ^ (q + 1 + p) ≡ a * 2 ^ q * 2 * 2 ^ p =
    ap (λ n. a * n) (pow-add 2 (q + 1) p ∙ ap (λ n. n * 2 ^ p) (even q)) ∙ sym (mul_assoc a (2 ^ q * 2) (2 ^ p)) ∙ ap (λ n. n * 2 ^ p) (sym (mul_assoc a (2 ^ q) 2)) in
    let f : a * 2 ^ (q + 1 + p) / 2 ^ p ≡ a * 2 ^ q * 2 = ap (λ n. n / 2 ^ p) e ∙ shl-shr (a * 2 ^ q * 2) p in
    ap (λ n. n % 2) f ∙ omega arith

-- what stands below bit 64 is kept by the cut
bit_cut64 : (n z : ℕ) → z < 64 → bit_of (n % 2 ^ 64) z ≡ bit_of n z
bit_cut64 n z h =
    let at : 63 - z + 1 + z ≡ 64 = omega arith in
    let e = bit_cut n (63 - z) z in
    rw at at e

pub bit_rot : (a r z : ℕ) → a < 2 ^ 64 → r < 64 → z < 64 → bit_of (rot a r) ((z + r) % 64) ≡ bit_of a z
bit_rot a r z ha hr hz = ⊎_elim none some (cases_eq r 0)
  where
    none : r ≡ 0 → bit_of (rot a r) ((z + r) % 64) ≡ bit_of a z
    none e =
        let same : rot a 0 ≡ a = ap₂ bit_or (ap (λ n. n % 2 ^ 64) (mul-one a) ∙ mod-eq_of_lt ha) (div-one a) ∙ or_self a in
        let at : (z + 0) % 64 ≡ z = omega arith in
        rw (e, at, same)

    some : (r ≡ 0 → ⊥) → bit_of (rot a r) ((z + r) % 64) ≡ bit_of a z
    some ne =
        let e1 : r % 64 ≡ r = omega arith in
        let e2 : (64 - r % 64) % 64 ≡ 64 - r = omega arith in
        let is : rot a r ≡ bit_or ((a * 2 ^ r) % 2 ^ 64) (a / 2 ^ (64 - r)) = ap₂ (λ x y. bit_or ((a * 2 ^ x) % 2 ^ 64) (a / 2 ^ y)) e1 e2 in
        let two : (p : ℕ) → bit_of (rot a r) p ≡ bit_or (bit_of ((a * 2 ^ r) % 2 ^ 64) p) (bit_of (a / 2 ^ (64 - r)) p) =
        λ p. ap (λ n. bit_of n p) is ∙ bit_of_or ((a * 2 ^ r) % 2 ^ 64) (a / 2 ^ (64 - r)) p in
        ⊎_elim
        (λ lt.
        let at : (z + r) % 64 ≡ z + r = omega arith in
        let w : r + (64 - r) ≡ 64 = omega arith in
        let low : a / 2 ^ (64 - r) < 2 ^ r = shr_below a r (64 - r) (rw w ha) in
        let le : r ≤ z + r = omega arith in
        let past : a / 2 ^ (64 - r) < 2 ^ (z + r) = lt_of_lt_of_le low (pow_mono le) in
        rw at (two (z + r) ∙ ap₂ bit_or (bit_cut64 (a * 2 ^ r) (z + r) lt ∙ bit_shl a r z) (bit_past (a / 2 ^ (64 - r)) (z + r) past) ∙ or_zero_r (bit_of a z)))
        (λ ge.
        let p = z + r - 64 in
        let q = r - p - 1 in
        let at : (z + r) % 64 ≡ p = omega arith in
        let rs : q + 1 + p ≡ r = omega arith in
        let zs : 64 - r + p ≡ z = omega arith in
        let pl : p < 64 = omega arith in
        let left : bit_of (a * 2 ^ r) p ≡ 0 = rw rs at (bit_below a q p) in
        let right : bit_of (a / 2 ^ (64 - r)) p ≡ bit_of a z = ap (λ n. n % 2) (shr-shr a (64 - r) p ∙ ap (λ k. a / 2 ^ k) zs) in
        rw at (two p ∙ ap₂ bit_or (bit_cut64 (a * 2 ^ r) p pl ∙ left) right))
        (cases_lt (z + r) 64)
