-- Pairs of digits, and the bytes that they stand for.
use Rattle.std.proofs.Common.{◌≡◌, ℕ, zero, suc, ◌+◌, ◌*◌, ◌/◌, ◌%◌, false, ◌&&◌, List, [], ◌∷◌, map, length, get_or, refl, ap, arith}
use Rattle.std.specs.List.{list_all}
use Rattle.std.specs.Simd.{first_chunks}
use Rattle.std.proofs.Math.Bool.{and-false}
use Rattle.scan.specs.Hex.{meant, digit, is_hex, in_pairs}

pub length_meant : (ds : List ℕ) → length (meant ds) ≡ length ds / 2
length_meant [] = refl
length_meant (a ∷ []) = refl
length_meant (a ∷ b ∷ ds) = omega (arith, length_meant ds)

pub in_pairs_even : (ds : List ℕ) → length ds % 2 ≡ 0 → in_pairs ds ≡ list_all is_hex ds
in_pairs_even [] h = refl
in_pairs_even (a ∷ []) h = absurd (omega arith)
in_pairs_even (a ∷ b ∷ ds) h = ap (λ r. is_hex a && (is_hex b && r)) (in_pairs_even ds (omega arith))

pub in_pairs_odd : (ds : List ℕ) → (length ds % 2 ≡ 0 → ⊥) → in_pairs ds ≡ false
in_pairs_odd [] h = absurd (omega arith)
in_pairs_odd (a ∷ []) h = refl
in_pairs_odd (a ∷ b ∷ ds) h = simp (in_pairs_odd ds (omega arith), and-false)

pub meant_chunks : (n : ℕ) (ds : List ℕ) → n ≡ length ds / 2 → map (λ p. digit (get_or p 0 0) * 16 + digit (get_or p 1 0)) (first_chunks 2 n ds) ≡ meant ds
meant_chunks zero [] e = refl
meant_chunks zero (a ∷ []) e = refl
meant_chunks zero (a ∷ b ∷ ds) e = absurd (omega arith)
meant_chunks (suc n) [] e = absurd (omega arith)
meant_chunks (suc n) (a ∷ []) e = absurd (omega arith)
meant_chunks (suc n) (a ∷ b ∷ ds) e = ap (λ bs. (digit a * 16 + digit b) ∷ bs) (meant_chunks n ds (omega arith))
