-- The codec of numbers by their remainders has a codec's meaning, for every modulus that its wire bytes hold.
use Rattle.std.specs.Prelude.{◌≡◌, ℕ, ◌%◌, ◌^◌, ◌<◌, ◌≤◌, true, ◌↔◌, List, length}
use Rattle.std.proofs.Common.{sym, ap, ap₂, subst, ◌∙◌, mod-lt, mod-eq_of_lt, lt_of_lt_of_le, arith, eq-eqb, lt-ltb}
use Rattle.challenger.specs.Unitary.{Unitary}
use Rattle.codec.specs.Coding.{Value, Lawful, Limited}
use Rattle.digits.specs.Digits.{Bytes, number, little_endian, number_le}
use Rattle.digits.proofs.LittleEndian as little
use Rattle.std.proofs.lemmas.Bool.Decides.{nat_tests}
use Rattle.step.specs.declared.text.Text.{Text}
use Rattle.codecs.specs.Scalars.{canonical, remainder_bytes, scalar_wire, scalar}

module _ (wide m : ℕ) (pos : 0 < m) (fits : m ≤ 256 ^ wide) where
  pub remainder_read : (n : ℕ) → number_le (remainder_bytes wide m n) ≡ n % m
  remainder_read n = little.read wide (n % m) (lt_of_lt_of_le (mod-lt n pos) fits)

  remainder_canonical : (n : ℕ) → canonical wide m (remainder_bytes wide m n) ≡ true
  remainder_canonical n =
      let a = eq-eqb (length (remainder_bytes wide m n)) wide (little.long wide (n % m)) in
      let b = lt-ltb (number_le (remainder_bytes wide m n)) m (subst (λ x. x < m) (sym (remainder_read n)) (mod-lt n pos)) in
      rw (a, b)

  canonical_long : (bs : List ℕ) → canonical wide m bs ≡ true → length bs ≡ wide
  canonical_long bs h = grind (arith, nat_tests)

  canonical_low : (bs : List ℕ) → canonical wide m bs ≡ true → number_le bs < m
  canonical_low bs h = grind (arith, nat_tests)

  canonical_read : (bs : List ℕ) → Bytes bs → canonical wide m bs ≡ true → remainder_bytes wide m (number_le bs) ≡ bs
  canonical_read bs ok h =
      let low : number_le bs % m ≡ number_le bs = mod-eq_of_lt (canonical_low bs h) in
      ap₂ little_endian (sym (canonical_long bs h)) low ∙ little.written bs ok

  pub same_remainder : (n k : ℕ) → (remainder_bytes wide m n ≡ remainder_bytes wide m k) ↔ (n % m ≡ k % m)
  same_remainder n k = (λ e. sym (remainder_read n) ∙ ap number_le e ∙ remainder_read k, λ e. ap (little_endian wide) e)

  module _ (field : Text) (draws bits : ℕ) where
    pub codes : (n : ℕ) → Value (scalar_wire field m wide draws bits) (remainder_bytes wide m n)
    codes n = record { bytes = little.bytes wide (n % m); long = little.long wide (n % m); good = remainder_canonical n }

    pub reads : (bs : List ℕ) → Value (scalar_wire field m wide draws bits) bs → remainder_bytes wide m (number_le bs) ≡ bs
    reads bs v = canonical_read bs v.bytes v.good

    pub lawful : {I : Type 0} (items : List ℕ → List I) → Unitary items → Lawful (scalar items (scalar_wire field m wide draws bits))
    lawful items u = record {
      exact = λ v ok h. canonical_long v h;
      samples = λ bs ok long. codes (number bs);
      sized = λ v w hv hw. u.sized v w hv.bytes hw.bytes (hv.long ∙ sym hw.long);
      faithful = λ v w hv hw e. u.faithful v w hv.bytes hw.bytes (hv.long ∙ sym hw.long) e;
    }

    pub limited : wide ≤ 65536 → draws ≤ 65536 → Limited (scalar_wire field m wide draws bits)
    limited hw hd = record { wide = hw; degree = omega arith; draws = hd }
