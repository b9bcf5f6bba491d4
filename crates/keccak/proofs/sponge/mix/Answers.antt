-- Each turn adds in the next word.
use Rattle.std.proofs.Common.{◌/◌, [], length, get_or, ap, ◌∙◌, arith, rules}
use Rattle.keccak_f.proofs.Chunks.{chunk_at}
use Rattle.keccak.proofs.Mixing.{word_of_chunk, mixing_more, mixing_all}
use Rattle.keccak.proofs.sponge.mix.Goals as goal

pub loop-i-preserved : goal.loop-i-preserved
loop-i-preserved c =
    let block = c.args.block.now in
    let e = ap (λ words. get_or words c.loop-i.i []) c.as_chunks.ensures.front ∙ chunk_at 8 (length block / 8) c.loop-i.i block (omega arith) in
    mixing_more _ _ _ _ _ (omega arith) (c.from_le_bytes.ensures ∙ word_of_chunk block _ c.loop-i.i e) c.loop-i.invariant

pub returns : goal.returns
returns c = mixing_all _ _ _ c.loop-i.i (omega arith) (search rules) c.loop-i.invariant
