-- The type tags.
use Rattle.std.specs.Prelude.{◌≡◌, ℕ, Bool, true, false, cond, not, ◌&&◌, ◌||◌, List, replicate, Ok, Err, Result, ◌==◌, nat_lt, refl}
use Rattle.std.proofs.Common.{subst}
use Rattle.error.specs.declared.TranscriptError.{TranscriptError}
use Rattle.error.specs.declared.TranscriptError.TheVariants.{InvalidField}
use Rattle.std.specs.Str.{bytes_eq}
use Rattle.step.specs.declared.tag_code.TagCode.{TagCode}
use Rattle.step.specs.declared.tag_code.TagCode.TheVariants.{Marker, Bytes, Algebra}
use Rattle.step.specs.declared.type_tag.TypeTag.{TypeTag}

-- a tag that carries no number
abbrev pub of_code : TagCode → TypeTag
of_code code = record {
  code = code;
  modulus = 0;
  degree = 0;
  basis = replicate 32 0;
  no_modulus = λ _. refl;
  no_degree = λ _. refl;
  no_basis = λ _. refl;
}

abbrev pub marker : TypeTag
marker = of_code Marker

abbrev pub raw_bytes : TypeTag
raw_bytes = of_code Bytes

-- an algebra is not plain, so nothing is asked of its numbers
pub not_plain : {P : Type 0} → false ≡ true → P
not_plain e = let F : Bool → Type 0 = λ b. cond b ⊥ (Unit {0}) in absurd (subst F e tt)

-- so many coefficients over the prime field of an order
abbrev pub algebra : ℕ → ℕ → List ℕ → TypeTag
algebra modulus degree basis = record {
  code = Algebra;
  modulus = modulus;
  degree = degree;
  basis = basis;
  no_modulus = not_plain;
  no_degree = not_plain;
  no_basis = not_plain;
}

-- what a plain code does not use is zero
abbrev pub unused : ℕ → ℕ → List ℕ → Bool
unused modulus degree basis = (modulus == 0 && degree == 0) && bytes_eq basis (replicate 32 0)

-- the tag of a plain code: 0, 1 or 2
abbrev pub made_tag : ℕ → ℕ → ℕ → List ℕ → Result TypeTag TranscriptError
made_tag code modulus degree basis =
    cond (code == 2) (Ok (algebra modulus degree basis))
    (cond (nat_lt 2 code || not (unused modulus degree basis)) (Err InvalidField)
    (cond (code == 0) (Ok marker) (Ok raw_bytes)))
