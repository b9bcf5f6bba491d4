-- What is read from wire bytes is below the modulus, so that its remainder is itself.
use Rattle.std.proofs.Common.{◌≡◌, ℕ, ◌%◌, ◌<◌, Bool, true, false, cond, List, Some, None, Ok, Err, refl, sym, ap, ◌∙◌, arith, mod-eq_of_lt}
use Rattle.std.specs.Option.{ok_or}
use Rattle.std.proofs.lemmas.Bool.Decides.{nat_tests}
use Rattle.codecs.specs.Scalars.{canonical, canonical_number}
use Rattle.digits.specs.Digits.{number_le}

module _ {T : Type 0} (wide m : ℕ) (value : ℕ → T) (bs : List ℕ) (fault : ℕ) where
  low : canonical wide m bs ≡ true → number_le bs < m
  low h = grind (arith, nat_tests)

  pub read_whole : (n : ℕ) → ok_or (canonical_number wide m bs) fault ≡ Ok n → Ok (value (n % m)) ≡ cond (canonical wide m bs) (Ok (value (number_le bs))) (Err fault)
  read_whole n = go (canonical wide m bs) low where
    go : (t : Bool) → (t ≡ true → number_le bs < m) → ok_or (cond t (Some (number_le bs)) None) fault ≡ Ok n → Ok (value (n % m)) ≡ cond t (Ok (value (number_le bs))) (Err fault)
    go true l e = let same : number_le bs ≡ n = cc in ap (λ k. Ok (value k)) (ap (λ k. k % m) (sym same) ∙ mod-eq_of_lt (l refl))
    go false l e = absurd (let z : ◌≡◌ {A = ℕ} 0 1 = cc in omega arith)
