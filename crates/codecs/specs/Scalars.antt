-- A codec of numbers by their remainders: little-endian on the wire, sampled from bytes read big-endian.
use Rattle.std.specs.Prelude.{ℕ, ◌%◌, Bool, cond, ◌&&◌, List, length, Some, None, Option, ◌==◌, nat_lt}
use Rattle.codec.specs.Coding.{Wire, Coding}
use Rattle.digits.specs.Digits.{number, little_endian, number_le}
use Rattle.keccak.specs.Sponge.{keccak_256}
use Rattle.step.specs.declared.text.Text.{Text}
use Rattle.step.specs.Tags.{algebra}
use Rattle.step.specs.Texts.{content}

-- exactly so many bytes, and below the modulus: one form for each remainder
abbrev pub canonical : ℕ → ℕ → List ℕ → Bool
canonical wide modulus bs = length bs == wide && nat_lt (number_le bs) modulus

abbrev pub canonical_number : ℕ → ℕ → List ℕ → Option ℕ
canonical_number wide modulus bs = cond (canonical wide modulus bs) (Some (number_le bs)) None

-- the wire bytes of what a number stands for
abbrev pub remainder_bytes : ℕ → ℕ → ℕ → List ℕ
remainder_bytes wide modulus n = little_endian wide (n % modulus)

abbrev pub scalar_wire : (field : Text) (modulus wide draws bits : ℕ) → Wire
scalar_wire field modulus wide draws bits = record {
  tag = algebra modulus 1 (keccak_256 (content field));
  name = field;
  bits = bits;
  wide = wide;
  decodes = canonical wide modulus;
  fault = λ _. 1;
  draws = draws;
  sampled = λ bs. remainder_bytes wide modulus (number bs);
}

-- over a unit, by the items that it takes in for wire bytes
abbrev pub scalar : {I : Type 0} → (List ℕ → List I) → Wire → Coding I
scalar items wire = record { wire = wire; items = items }
