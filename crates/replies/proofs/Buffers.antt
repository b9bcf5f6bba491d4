-- A buffer that is just long enough.
use Rattle.std.proofs.Common.{◌≡◌, ℕ, ◌+◌, List, ◌++◌, length, take, drop, ap, ◌∙◌, append-nil, arith}
use Rattle.std.proofs.lemmas.List.{drop_all, take_at}
use Rattle.std.proofs.lemmas.Bool.{cond-true, le-leb}
use Rattle.codec.specs.Coding.{filled_with}

filled_whole : (out bs : List ℕ) → length out ≡ length bs → filled_with out 0 bs ≡ bs
filled_whole out bs e =
    cond-true _ _ _ (le-leb (0 + length bs) (length out) (omega arith)) ∙
    ap (λ rest. bs ++ rest) (drop_all (0 + length bs) out (omega arith)) ∙ append-nil bs

-- the buffer is the whole of a vector of n bytes, which held other bytes before
pub kept : (out held all bs : List ℕ) (n wide asked : ℕ) → all ≡ filled_with out 0 bs → length out ≡ n → length bs ≡ wide → asked ≡ wide → n ≡ asked → take n (all ++ drop (length all) held) ≡ bs
kept out held all bs n wide asked e space long same made =
    let is : all ≡ bs = e ∙ filled_whole out bs (omega arith) in
    take_at all (drop (length all) held) n (ap length is ∙ omega arith) ∙ is
