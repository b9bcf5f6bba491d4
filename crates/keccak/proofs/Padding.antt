-- The last block: the first byte of padding after the bytes that are left, and the last bit.
-- Assumes nothing.
use Rattle.std.proofs.Common.{◌≡◌, ℕ, zero, suc, ◌+◌, ◌-◌, ◌<◌, List, [], ◌∷◌, ◌++◌, length, get_or, set, replicate, sym, refl, ap, ◌∙◌, add-one, arith}
use lib.Bits.{bit_xor}
use Rattle.std.proofs.lemmas.List.{length-append, length-replicate, set_at, get_or_at, append_assoc, replicate_more}
use Rattle.keccak.specs.Sponge.{padding}

pub length_padding : (first n : ℕ) → length (padding first n) ≡ n
unfolding padding
length_padding first zero = refl
length_padding first (suc zero) = refl
length_padding first (suc (suc n)) = simp (length-append, length-replicate) (omega arith)

last_is : (first : ℕ) (r : List ℕ) (q : ℕ) → length r + suc q ≡ 136
    → (l : List ℕ) → l ≡ set (r ++ replicate (suc q) 0) (length r) first → set l 135 (bit_xor (get_or l 135 0) 128) ≡ r ++ padding first (suc q)
unfolding padding
last_is first r zero n l e =
    let e' : l ≡ r ++ first ∷ [] = e ∙ set_at r 0 [] first (length r) refl in
    rw (e', get_or_at r first [] 0 135 (omega arith), set_at r first [] (bit_xor first 128) 135 (omega arith))
last_is first r (suc q) n l e =
    let p = r ++ first ∷ replicate q 0 in
    let e' : l ≡ r ++ first ∷ replicate (suc q) 0 = e ∙ set_at r 0 (replicate (suc q) 0) first (length r) refl in
    let f : p ++ 0 ∷ [] ≡ r ++ first ∷ replicate (suc q) 0 =
    append_assoc r (first ∷ replicate q 0) (0 ∷ []) ∙ ap (λ z. r ++ first ∷ z) (replicate_more q 0 ∙ ap (λ k. replicate k 0) (add-one q)) in
    let long : length p ≡ 135 = simp (length-append, length-replicate) (omega arith) in
    rw (e' ∙ sym f, get_or_at p 0 [] 0 135 long, set_at p 0 [] 128 135 long) (append_assoc r (first ∷ replicate q 0) (128 ∷ []))

pub last_block_is : (first : ℕ) (r z : List ℕ) → length r < 136 → z ≡ r ++ replicate (136 - length r) 0
    → set (set z (length r) first) 135 (bit_xor (get_or (set z (length r) first) 135 0) 128) ≡ r ++ padding first (136 - length r)
last_block_is first r z h e =
    let q : 136 - length r ≡ suc (135 - length r) = omega arith in
    last_is first r (135 - length r) (omega arith) (set z (length r) first) (ap (λ x. set x (length r) first) (e ∙ ap (λ k. r ++ replicate k 0) q))
    ∙ ap (λ k. r ++ padding first k) (sym q)
