-- By the parts, each of which comes before all that follow.
use Rattle.std.proofs.Common.{◌≡◌, ℕ, List, [], ◌∷◌, ◌++◌, fold, sym, ap, ◌∙◌}
use Rattle.std.specs.List.{flat_map}
use Rattle.std.proofs.lemmas.List.{append_assoc, append-nil}
use Rattle.keccak.specs.Sponge.{keccak_256, absorbed}
use Rattle.keccak.specs.Blocks.{View, fed}
use Rattle.keccak.specs.Hasher.{fresh, absorb_into, digest_of}
use Rattle.keccak.proofs.Blocks.{fed_parts, sponge_is}
use Rattle.keccak.proofs.laws.parts_make_the_whole.Goals as goal

two : (v : View) (xs ys : List ℕ) → absorb_into (absorb_into v xs) ys ≡ absorb_into v (xs ++ ys)
two v xs ys = fed_parts v.state (v.begun ++ xs) ys ∙ ap (λ bs. absorb_into (record { state = v.state; begun = [] }) bs) (append_assoc v.begun xs ys)

-- what has been taken in so far is xs
from : (xs : List ℕ) (parts : List (List ℕ)) → fold absorb_into (absorb_into fresh xs) parts ≡ absorb_into fresh (xs ++ flat_map (λ part. part) parts)
from xs [] = ap (λ bs. absorb_into fresh bs) (sym (append-nil xs))
from xs (p ∷ parts) =
    ap (λ v. fold absorb_into v parts) (two fresh xs p) ∙ from (xs ++ p) parts
    ∙ ap (λ bs. absorb_into fresh bs) (append_assoc xs p (flat_map (λ part. part) parts))

all : (parts : List (List ℕ)) → digest_of (fold absorb_into fresh parts) ≡ keccak_256 (flat_map (λ part. part) parts)
unfolding fed absorbed
all parts = ap digest_of (from [] parts) ∙ sym (sponge_is 0x01 (flat_map (λ part. part) parts))

pub returns : goal.returns
returns c = record { two = two; all = all }
