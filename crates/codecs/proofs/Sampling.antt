-- A number sampled byte by byte: what is left of the draws comes to the same, modulo the modulus.
use Rattle.std.proofs.Common.{◌≡◌, ℕ, suc, ◌+◌, ◌-◌, ◌*◌, ◌/◌, ◌%◌, ◌<◌, ◌≤◌, List, [], ◌∷◌, sym, ap, ◌∙◌, mod-lt, mod-eq_of_lt, mul_assoc, arith}
use native.Mathlib.Nat.{mod-add-div, add-mul-mod_self_left, mod-mod}
use Rattle.challenger.specs.Sponge.{Sponge, drawn, turned}
use Rattle.digits.specs.Digits.{number}
use Rattle.std.specs.Int.Digits.{number_from_digits_after}

digit_mod : (x b m : ℕ) → (x % m * 256 + b) % m ≡ (x * 256 + b) % m
digit_mod x b m =
    let q = x / m in
    let whole = mod-add-div x m in
    let times : m * (q * 256) ≡ m * q * 256 = sym (mul_assoc m q 256) in
    let is : x * 256 + b ≡ x % m * 256 + b + m * (q * 256) = omega (arith, whole, times) in
    sym (ap (λ y. y % m) is ∙ add-mul-mod_self_left (x % m * 256 + b) m (q * 256))

after_mod : (m x : ℕ) (bs : List ℕ) → number_from_digits_after 256 (x % m) bs % m ≡ number_from_digits_after 256 x bs % m
after_mod m x [] = mod-mod x m
after_mod m x (b ∷ bs) =
    sym (after_mod m (x % m * 256 + b) bs) ∙ ap (λ y. number_from_digits_after 256 y bs % m) (digit_mod x b m) ∙ after_mod m (x * 256 + b) bs

module _ {S I : Type 0} (p : Sponge S I) (m n : ℕ) (s₀ : S) where
  pub record Sampling (i : ℕ) (s : S) (acc : ℕ) : Type 0 where
    pub value : number_from_digits_after 256 acc (drawn p (n - i) s) % m ≡ number (drawn p n s₀) % m
    pub moved : turned p (n - i) s ≡ turned p n s₀
    pub low : acc < m

  pub sampling_none : 0 < m → Sampling 0 s₀ 0
  sampling_none h = let whole : n - 0 ≡ n = omega arith in record {
    value = ap (λ k. number (drawn p k s₀) % m) whole;
    moved = ap (λ k. turned p k s₀) whole;
    low = h;
  }

  pub sampling_more : (i : ℕ) (s t : S) (acc b next : ℕ) → i < n → Sampling i s acc → b ≡ p.byte s → t ≡ p.turns s → next ≡ (acc * 256 + b) % m → Sampling (i + 1) t next
  sampling_more i s t acc b next lt h eb et en =
      let less : n - i ≡ suc (n - (i + 1)) = omega arith in
      let rest = drawn p (n - (i + 1)) t in
      let draws : drawn p (n - i) s ≡ b ∷ rest = ap (λ k. drawn p k s) less ∙ sym ((λ j. eb j ∷ drawn p (n - (i + 1)) (et j))) in
      record {
        value = ap (λ x. number_from_digits_after 256 x rest % m) en ∙ after_mod m (acc * 256 + b) rest ∙ sym (ap (λ l. number_from_digits_after 256 acc l % m) draws) ∙ h.value;
        moved = ap (turned p (n - (i + 1))) et ∙ sym (ap (λ k. turned p k s) less) ∙ h.moved;
        low = let d = mod-lt (acc * 256 + b) {m = m} (omega (arith, h.low)) in omega arith;
      }

  module _ (i : ℕ) (s : S) (acc : ℕ) (all : n ≤ i) (h : Sampling i s acc) where
    none : n - i ≡ 0
    none = omega arith

    pub sampled : acc ≡ number (drawn p n s₀) % m
    sampled = sym (mod-eq_of_lt h.low) ∙ sym (ap (λ k. number_from_digits_after 256 acc (drawn p k s) % m) none) ∙ h.value

    pub moved_on : s ≡ turned p n s₀
    moved_on = sym (ap (λ k. turned p k s) none) ∙ h.moved
