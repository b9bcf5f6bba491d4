-- Each turn moves a byte and a part from what is left to what is absorbed.
use Rattle.std.proofs.Common.{[], ◌∷◌, ◌++◌, get_or, sym, ap, ◌∙◌, arith}
use Rattle.std.proofs.lemmas.List.{append_assoc, append-nil, nil_from_length}
use Rattle.std.proofs.lemmas.Slice.{first_rest}
use Rattle.keccak.specs.Sponge.{keccak_256}
use Rattle.keccak_vectors.proofs.parts.keccak256_in_parts.Goals as goal

pub loop-rest-preserved : goal.loop-rest-preserved
loop-rest-preserved c =
    let rest = c.loop-rest.rest.now in
    let byte = get_or rest 0 0 in
    let part = c.split_at.result.0.now in
    let others = c.split_at.result.1.now in
    let m = c.loop-rest.invariant.1.0 in
    let both = m ++ byte ∷ [] in (
      omega arith,
      (
        both ++ part,
        c.absorb.ensures.absorbed both (c.absorb_byte.ensures.absorbed m c.loop-rest.invariant.1.1),
        append_assoc both part others ∙ append_assoc m (byte ∷ []) (part ++ others)
            ∙ ap (λ l. m ++ byte ∷ l) (sym c.split_at.ensures.by_index.0)
            ∙ ap (λ l. m ++ l) (sym (first_rest rest 0 (omega arith)))
            ∙ c.loop-rest.invariant.1.2,
      ),
    )

pub returns : goal.returns
returns c =
    let m = c.loop-rest.invariant.1.0 in
    c.digest.ensures.hash m c.loop-rest.invariant.1.1
    ∙ ap keccak_256 (sym (append-nil m) ∙ ap (λ l. m ++ l) (sym (nil_from_length c.loop-rest.rest.now (omega arith))) ∙ c.loop-rest.invariant.1.2)
