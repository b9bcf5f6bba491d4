-- What a unit's items owe: their number is a matter of the number of bytes, and they tell byte strings of one length apart.
use Rattle.std.specs.Prelude.{◌≡◌, ℕ, List, length}
use Rattle.digits.specs.Digits.{Bytes}

pub record Unitary {I : Type 0} (items : List ℕ → List I) : Type 0 where
  pub sized : (xs ys : List ℕ) → Bytes xs → Bytes ys → length xs ≡ length ys → length (items xs) ≡ length (items ys)
  pub faithful : (xs ys : List ℕ) → Bytes xs → Bytes ys → length xs ≡ length ys → items xs ≡ items ys → xs ≡ ys
