-- Version, name and hash read back from an identifier and a seed.
use Rattle.std.proofs.Common.{◌≡◌, ℕ, ◌-◌, ◌≤◌, true, List, [], ◌∷◌, ◌++◌, length, get_or, drop, replicate, sym, ap, ◌∙◌, arith}
use Rattle.std.proofs.lemmas.List.{append_assoc, length-append, length-replicate, same_from_push, nil_from_length}
use Rattle.std.proofs.lemmas.Bool.Decides.{nat_tests}
use Rattle.digits.proofs.Splitting.{split_same}
use Rattle.domain_separator.specs.Identifiers.{identifier, is_name}
use Rattle.domain_separator.specs.Seeds.{seed}
use Rattle.domain_separator.specs.Laws.{IdentifiersTell, SeedsTell, Source, seed_from}

short : (n : List ℕ) → is_name n ≡ true → length n ≤ 62
short n h = grind (arith, nat_tests)

id_long : (v : ℕ) (n : List ℕ) → is_name n ≡ true → length (identifier v n) ≡ 64
unfolding identifier
id_long v n h =
    let le = short n h in
    simp (length-append, length-replicate) (omega arith)

id_tell : (v w : ℕ) (n m : List ℕ) → is_name n ≡ true → is_name m ≡ true → identifier v n ≡ identifier w m → (v ≡ w) × (n ≡ m)
unfolding identifier
id_tell v w n m hn hm e =
    let zeros : List ℕ → List ℕ = λ (l : List ℕ). replicate (62 - length l) 0 in
    let rest : n ++ (zeros n ++ length n ∷ []) ≡ m ++ (zeros m ++ length m ∷ []) = ap (drop 1) e in
    let ends = same_from_push (n ++ zeros n) (m ++ zeros m) (length n) (length m) (append_assoc n (zeros n) (length n ∷ []) ∙ rest ∙ sym (append_assoc m (zeros m) (length m ∷ []))) in
    (ap (λ l. get_or l 0 0) e, (split_same n m _ _ ends.1 rest).0)

pub identifiers : IdentifiersTell
identifiers = record { long = id_long; tell = id_tell }

long_id : (s : Source) → length (identifier s.version s.name) ≡ 64
long_id s = id_long s.version s.name s.named

seed_long : (a : Source) → length (seed_from a) ≡ 101
unfolding seed
seed_long a =
    let i = long_id a in
    let h = a.hashed in
    simp length-append (omega arith)

seed_tell : (a b : Source) → seed_from a ≡ seed_from b → (a.version ≡ b.version) × (a.name ≡ b.name) × (a.hash ≡ b.hash)
unfolding seed
seed_tell a b e =
    let ids = split_same _ _ _ _ (long_id a ∙ sym (long_id b)) e in
    let hashes = split_same _ _ _ _ (a.hashed ∙ sym b.hashed) ids.1 in
    let names = id_tell a.version b.version a.name b.name a.named b.named ids.0 in
    (names.0, names.1, hashes.0)

seed_prefix_free : (a b : Source) (rest : List ℕ) → seed_from a ++ rest ≡ seed_from b → rest ≡ []
seed_prefix_free a b rest e =
    nil_from_length rest (omega (arith, length-append (seed_from a) rest, ap length e, seed_long a, seed_long b))

pub seeds : SeedsTell
seeds = record { long = seed_long; tell = seed_tell; prefix_free = seed_prefix_free }
