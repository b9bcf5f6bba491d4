-- The width of a maximum: what the definition finds, and what counting bits finds.
use Rattle.std.proofs.Common.{◌≡◌, ℕ, zero, suc, ◌+◌, ◌-◌, ◌*◌, ◌/◌, ◌%◌, ◌^◌, ◌<◌, ◌≤◌, min, Bool, true, false, ltb, sym, refl, ap, ◌∙◌, subst, ⊎_elim, lt_of_lt_of_le, lt_of_le_of_lt, le_antisymm, pow-suc, zero-add, arith, pow_mono, ltb-true, lt-ltb, le-leb}
use lib.Count.{count_leading_zeros, leading_length}
use Rattle.std.proofs.lemmas.Nat.{pow-add}
use Rattle.std.proofs.lemmas.Bool.{cases_lt, cases_eq}
use Rattle.length_prefix.specs.Laws.{LeastWidth}
use Rattle.length_prefix.specs.Prefix.{first_from, width, fits}

module _ (p : ℕ → Bool) where
  found_by : (n k : ℕ) (b : Bool) → p k ≡ b → p (first_from p n (k + 1)) ≡ true → p (first_from p (suc n) k) ≡ true
  found_by n k true e rest = rw e e
  found_by n k false e rest = rw e rest

  found : (n k : ℕ) → p (k + n) ≡ true → p (first_from p n k) ≡ true
  found zero k h = subst (λ j. p j ≡ true) (omega arith) h
  found (suc n) k h = found_by n k (p k) refl (found n (k + 1) (subst (λ j. p j ≡ true) (omega arith) h))

  least_by : (n k j : ℕ) (b : Bool) → p k ≡ b → k ≤ j → p j ≡ true → (k + 1 ≤ j → first_from p n (k + 1) ≤ j) → first_from p (suc n) k ≤ j
  least_by n k j true e le h rest = rw e le
  least_by n k j false e le h rest =
      let apart : k ≡ j → ⊥ = λ same. let z : false ≡ true = sym e ∙ ap p same ∙ h in let w : ◌≡◌ {A = ℕ} 0 1 = cc in omega arith in
      rw e (rest (⊎_elim (λ same. absurd (apart same)) (λ ne. omega arith) (cases_eq k j)))

  least : (n k j : ℕ) → k ≤ j → p j ≡ true → first_from p n k ≤ j
  least zero k j le h = le
  least (suc n) k j le h = least_by n k j (p k) refl le h (λ lt. least n (k + 1) j lt h)

over : (n : ℕ) → n < 256 ^ n
over zero = omega arith
over (suc n) = let h = over n in rw pow-suc (omega arith)

pub width_least : (max : ℕ) → LeastWidth max (width max)
unfolding width
width_least max =
    let holds-max : ltb max (256 ^ (0 + max)) ≡ true = lt-ltb max (256 ^ (0 + max)) (rw zero-add (over max)) in
    record {
      holds = ltb-true max (256 ^ width max) (found (λ w. ltb max (256 ^ w)) max 0 holds-max);
      least = λ k h. least (λ w. ltb max (256 ^ w)) max 0 k (omega arith) (lt-ltb max (256 ^ k) h);
    }

pub least_alike : (max a b : ℕ) → LeastWidth max a → LeastWidth max b → a ≡ b
least_alike max a b x y = le_antisymm (x.least b y.holds) (y.least a x.holds)

pub pow_256 : (k : ℕ) → 256 ^ k ≡ 2 ^ (k * 8)
pow_256 zero = refl
pow_256 (suc k) = pow-suc 256 k ∙ ap (λ m. m * 256) (pow_256 k) ∙ sym (pow-add 2 (k * 8) 8) ∙ ap (λ j. 2 ^ j) (omega arith)

-- as many bytes as hold the significant bits
module _ (max : ℕ) (small : max < 2 ^ 64) where
  pub by_bits : (bits w : ℕ) → bits ≡ 64 - count_leading_zeros 64 max → w ≡ bits / 8 + min 1 (bits % 8) → LeastWidth max w × (w ≤ 8)
  by_bits bits w e r =
      let top = leading_length 64 max small in
      let same : top.0 ≡ bits = omega (arith, top.1) in
      let high : max < 2 ^ bits = subst (λ k. max < 2 ^ k) same top.2 in
      let low : 2 ^ bits ≤ 2 * max + 1 = subst (λ k. 2 ^ k ≤ 2 * max + 1) same top.3 in
      let le : bits ≤ w * 8 = omega arith in (
        record {
          holds = rw pow_256 (lt_of_lt_of_le high (pow_mono le));
          least = λ k h. ⊎_elim
              (λ lt.
              let under : k * 8 + 1 ≤ bits = omega arith in
              let two = pow-add 2 (k * 8) 1 in
              let up = pow_mono under in
              let at : max < 2 ^ (k * 8) = rw pow_256 at h in
              absurd (omega (arith, two, up, at, low)))
              (λ ge. ge)
              (cases_lt k w);
        },
        omega arith,
      )

pub width_small : (max : ℕ) → max < 2 ^ 64 → width max ≤ 8
width_small max h = (width_least max).least 8 h

pub width_mono : (max more : ℕ) → max ≤ more → width max ≤ width more
width_mono max more h = (width_least max).least (width more) (lt_of_le_of_lt h (width_least more).holds)

pub count_fits : (max count : ℕ) → max < 2 ^ 64 → count ≤ max → fits count (width max) ≡ true
count_fits max count small le =
    let a = le-leb (width max) 8 (width_small max small) in
    let b = lt-ltb count (256 ^ width max) (lt_of_le_of_lt le (width_least max).holds) in
    rw (a, b)
