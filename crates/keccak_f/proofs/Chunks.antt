-- A list cut into chunks of n.
-- Assumes nothing.
use Rattle.std.proofs.Common.{◌≡◌, ℕ, zero, suc, ◌+◌, ◌*◌, ◌<◌, List, [], get_or, take, drop, ap, ◌∙◌, arith}
use Rattle.std.specs.Simd.{first_chunks}
use Rattle.std.proofs.lemmas.List.{drop-drop, get_or-take, get_or-drop}

pub chunk_at : (n k i : ℕ) (xs : List ℕ) → i < k → get_or (first_chunks n k xs) i [] ≡ take n (drop (i * n) xs)
chunk_at n zero i xs h = absurd (omega arith)
chunk_at n (suc k) zero xs h = let none : 0 ≡ 0 * n = omega arith in ap (λ m. take n (drop m xs)) none
chunk_at n (suc k) (suc i) xs h =
    let all : n + i * n ≡ suc i * n = omega arith in
    chunk_at n k i (drop n xs) (omega arith) ∙ ap (λ ys. take n ys) (drop-drop (i * n) n xs ∙ ap (λ m. drop m xs) all)

-- element j of the chunk at i
pub in_chunk : (n i j k : ℕ) (xs chunk : List ℕ) → chunk ≡ take n (drop (i * n) xs) → j < n → i * n + j ≡ k → get_or chunk j 0 ≡ get_or xs k 0
in_chunk n i j k xs chunk e lt at =
    ap (λ l. get_or l j 0) e ∙ get_or-take n (drop (i * n) xs) j 0 lt ∙ get_or-drop (i * n) xs j 0 ∙ ap (λ m. get_or xs m 0) at
