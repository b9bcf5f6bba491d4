-- What was written can be read back: a number up to a byte that is no digit, bytes from their pairs, a text past its indentation.
use Rattle.std.proofs.Common.{◌≡◌, ℕ, zero, suc, ◌+◌, ◌/◌, ◌%◌, ◌^◌, ◌<◌, false, List, [], ◌∷◌, ◌++◌, length, get_or, drop, codes, decimal, sym, refl, ap, arith}
use Rattle.digits.specs.Digits.{Bytes}
use Rattle.std.specs.Fmt.{digit_glyph}
use Rattle.std.specs.List.{AllByRecursion as All}
use Rattle.std.proofs.lemmas.Fmt.{decimal_by_steps, decimal_injective}
use Rattle.std.proofs.lemmas.Bool.Decides.{nat_tests}
use Rattle.sink.specs.Writing.{repeated, hex_text}

abbrev pub Digit : ℕ → Type 0
Digit d = (47 < d) × (d < 58)

all_push : (ds : List ℕ) (d : ℕ) → All Digit ds → Digit d → All Digit (ds ++ d ∷ [])
all_push [] d h k = (k, tt)
all_push (e ∷ ds) d h k = (h.0, all_push ds d h.1 k)

digits_decimal : (n : ℕ) → n < 2 ^ 64 → All Digit (decimal n)
digits_decimal = decimal_by_steps (λ n ds. All Digit ds) (λ n lt. ((omega arith, omega arith), tt)) (λ n ds ge h. all_push ds (48 + n % 10) h (omega arith, omega arith))

-- digits up to the first byte that is none
until : (xs ys : List ℕ) (c : ℕ) (r s : List ℕ) → All Digit xs → All Digit ys → (Digit c → ⊥) → xs ++ c ∷ r ≡ ys ++ c ∷ s → (xs ≡ ys) × (r ≡ s)
until [] [] c r s hx hy none e = (refl, ap (drop 1) e)
until [] (y ∷ ys) c r s hx hy none e =
    let head : c ≡ y = ap (λ l. get_or l 0 0) e in
    absurd (none (omega (arith, hy.0.0), omega (arith, hy.0.1)))
until (x ∷ xs) [] c r s hx hy none e =
    let head : x ≡ c = ap (λ l. get_or l 0 0) e in
    absurd (none (omega (arith, hx.0.0), omega (arith, hx.0.1)))
until (x ∷ xs) (y ∷ ys) c r s hx hy none e =
    let head : x ≡ y = ap (λ l. get_or l 0 0) e in
    let rest = until xs ys c r s hx.1 hy.1 none (ap (drop 1) e) in
    (λ i. head i ∷ rest.0 i, rest.1)

pub decimal_tell : (m n c : ℕ) (r s : List ℕ) → m < 2 ^ 64 → n < 2 ^ 64 → (Digit c → ⊥) → decimal m ++ c ∷ r ≡ decimal n ++ c ∷ s → (m ≡ n) × (r ≡ s)
decimal_tell m n c r s hm hn none e =
    let both = until (decimal m) (decimal n) c r s (digits_decimal m hm) (digits_decimal n hn) none e in
    (decimal_injective m n hm hn both.0, both.1)

glyph_tell : (a b : ℕ) → a < 16 → b < 16 → digit_glyph false a ≡ digit_glyph false b → a ≡ b
glyph_tell a b ha hb e = grind (arith, nat_tests)

pub hex_tell : (xs ys r s : List ℕ) → length xs ≡ length ys → Bytes xs → Bytes ys → hex_text xs ++ r ≡ hex_text ys ++ s → (xs ≡ ys) × (r ≡ s)
hex_tell [] [] r s l hx hy e = (refl, e)
hex_tell [] (y ∷ ys) r s l hx hy e = absurd (omega arith)
hex_tell (x ∷ xs) [] r s l hx hy e = absurd (omega arith)
hex_tell (x ∷ xs) (y ∷ ys) r s l hx hy e =
    let high : x / 16 ≡ y / 16 = glyph_tell (x / 16) (y / 16) (omega (arith, hx.0)) (omega (arith, hy.0)) (ap (λ l. get_or l 0 0) e) in
    let low : x % 16 ≡ y % 16 = glyph_tell (x % 16) (y % 16) (omega arith) (omega arith) (ap (λ l. get_or l 1 0) e) in
    let same : x ≡ y = omega arith in
    let rest = hex_tell xs ys r s (omega arith) hx.1 hy.1 (ap (drop 2) e) in
    (λ i. same i ∷ rest.0 i, rest.1)

-- what follows the indentation, where it begins with no space
pub past_spaces : (a b : ℕ) (xs ys : List ℕ) → (get_or xs 0 0 ≡ 32 → ⊥) → (get_or ys 0 0 ≡ 32 → ⊥) → repeated a (codes "  ") ++ xs ≡ repeated b (codes "  ") ++ ys → xs ≡ ys
past_spaces zero zero xs ys nx ny e = e
past_spaces zero (suc b) xs ys nx ny e = absurd (nx (ap (λ l. get_or l 0 0) e))
past_spaces (suc a) zero xs ys nx ny e = absurd (ny (ap (λ l. get_or l 0 0) (sym e)))
past_spaces (suc a) (suc b) xs ys nx ny e = past_spaces a b xs ys nx ny (ap (drop 2) e)
