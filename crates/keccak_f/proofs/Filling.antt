-- A loop that writes f x y at lane (x, y), for each lane in turn.
-- Assumes nothing.
use Rattle.std.proofs.Common.{◌≡◌, ℕ, ◌+◌, ◌*◌, ◌/◌, ◌%◌, ◌<◌, ◌≤◌, List, length, get_or, set, ap, ◌∙◌, ap₂, arith}
use Rattle.std.proofs.lemmas.List.{length-set}
use Rattle.std.proofs.lemmas.List.Edits.{fill_by_more}
use Rattle.std.proofs.lemmas.List.FromFn.{fill_by_all}
use Rattle.keccak_f.specs.Permutation.{grid}

pub record Filling (f : ℕ → ℕ → ℕ) (xs : List ℕ) (i : ℕ) : Type 0 where
  pub long : length xs ≡ 25
  pub done : (k : ℕ) → k < i → get_or xs k 0 ≡ f (k % 5) (k / 5)

pub filling_more : (f : ℕ → ℕ → ℕ) (xs : List ℕ) (x y v : ℕ) → x < 5 → y < 5 → v ≡ f x y → Filling f xs (x + 5 * y) → Filling f (set xs (x + 5 * y) v) (x + 1 + 5 * y)
filling_more f xs x y v hx hy e m =
    let i = x + 5 * y in
    let ex : x ≡ i % 5 = omega arith in
    let ey : y ≡ i / 5 = omega arith in
    let e' : v ≡ f (i % 5) (i / 5) = e ∙ ap₂ f ex ey in
    record {
      long = length-set xs i v ∙ m.long;
      done = λ k lt. ap (λ w. get_or (set xs i w) k 0) e' ∙ fill_by_more (λ j. f (j % 5) (j / 5)) xs i 0 (omega (arith, m.long)) m.done k (omega arith);
    }

pub filling_all : (f : ℕ → ℕ → ℕ) (xs : List ℕ) (y : ℕ) → 5 ≤ y → Filling f xs (5 * y) → xs ≡ grid f
filling_all f xs y h m = fill_by_all (λ j. f (j % 5) (j / 5)) xs 25 0 m.long (λ k lt. m.done k (omega arith))
