-- Each turn takes in one block.
use Rattle.std.proofs.Common.{◌≡◌, ◌+◌, ◌*◌, ◌/◌, [], length, get_or, take, drop, sym, ap, ◌∙◌, arith}
use Rattle.std.proofs.lemmas.List.{drop-drop, length-drop}
use Rattle.keccak.specs.Blocks.{fed}
use Rattle.keccak.proofs.Blocks.{fed_none, fed_more}
use Rattle.keccak_f.proofs.Chunks.{chunk_at}
use Rattle.keccak.proofs.sponge.absorb_blocks.Goals as goal

pub loop-block-preserved : goal.loop-block-preserved
loop-block-preserved c =
    let i = c.loop-block.block-index in
    let bs = c.args.bytes.now in
    let left = drop (i * 136) bs in
    let block : get_or c.as_chunks.result.0.now i [] ≡ take 136 left = ap (λ blocks. get_or blocks i []) c.as_chunks.ensures.front ∙ chunk_at 136 (length bs / 136) i bs (omega arith) in
    let next : drop 136 left ≡ drop ((i + 1) * 136) bs = drop-drop 136 (i * 136) bs ∙ ap (λ n. drop n bs) (omega arith) in
    let more = fed_more c.loop-block.state left (omega (arith, length-drop (i * 136) bs)) in
    cc

pub returns : goal.returns
returns c =
    let rest = c.as_chunks.result.1.now in
    let bs = c.args.bytes.now in
    let taken : length bs / 136 ≡ c.loop-block.block-index = omega arith in
    let back = c.as_chunks.ensures.back ∙ ap (λ n. drop (n * 136) bs) taken in
    let e = sym (fed_none c.loop-block.state rest (omega arith)) ∙ ap (λ left. fed c.loop-block.state left) back ∙ c.loop-block.invariant in
    record { state = ap (λ v. v.state) e; rest = ap (λ v. v.begun) e; short = omega arith }
