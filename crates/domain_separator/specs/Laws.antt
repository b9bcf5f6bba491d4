-- What identifiers and seeds tell apart.
use Rattle.std.specs.Prelude.{◌≡◌, ℕ, true, List, [], ◌++◌, length}
use Rattle.domain_separator.specs.Identifiers.{identifier, is_name}
use Rattle.domain_separator.specs.Seeds.{seed}

-- version and name come back from an identifier
pub record IdentifiersTell : Type 0 where
  pub long : (v : ℕ) (n : List ℕ) → is_name n ≡ true → length (identifier v n) ≡ 64
  pub tell : (v w : ℕ) (n m : List ℕ) → is_name n ≡ true → is_name m ≡ true → identifier v n ≡ identifier w m → (v ≡ w) × (n ≡ m)

-- what a seed is made from: a version, a name and a hash
pub record Source : Type 0 where
  pub version : ℕ
  pub name : List ℕ
  pub hash : List ℕ
  pub named : is_name name ≡ true
  pub hashed : length hash ≡ 32

abbrev pub seed_from : Source → List ℕ
seed_from s = seed (identifier s.version s.name) s.hash

-- version, name and hash come back from a seed, and no seed is the beginning of another
pub record SeedsTell : Type 0 where
  pub long : (a : Source) → length (seed_from a) ≡ 101
  pub tell : (a b : Source) → seed_from a ≡ seed_from b → (a.version ≡ b.version) × (a.name ≡ b.name) × (a.hash ≡ b.hash)
  pub prefix_free : (a b : Source) (rest : List ℕ) → seed_from a ++ rest ≡ seed_from b → rest ≡ []
