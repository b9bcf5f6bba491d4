-- What is left of a word of digits decides, one digit after another.
use Rattle.std.proofs.Common.{◌≡◌, ℕ, ◌+◌, ◌-◌, ◌*◌, ◌≤◌, List, [], ◌∷◌, Some, None, arith}
use Rattle.std.proofs.lemmas.Bool.Decides.{nat_tests}
use Rattle.scan.specs.Numbers.{writes, after, more}

pub writes_grows : (n : ℕ) (bs : List ℕ) → n ≤ writes n bs
writes_grows n [] = omega arith
writes_grows n (b ∷ bs) = omega (arith, writes_grows (n * 10 + (b - 48)) bs)

pub goes : (n b m : ℕ) (bs : List ℕ) → more n b ≡ Some m → after n (b ∷ bs) ≡ after m bs
goes n b m bs h = grind (arith, nat_tests, h)

pub stops : (n b : ℕ) (bs : List ℕ) → more n b ≡ None → after n (b ∷ bs) ≡ None
stops n b bs h = grind (arith, nat_tests, h, writes_grows (n * 10 + (b - 48)) bs)
