-- Each turn is two rounds.
use Rattle.std.proofs.Common.{◌≡◌, ◌+◌, ◌*◌, [], get_or, sym, arith}
use Rattle.std.specs.Simd.{first_chunks}
use Rattle.keccak_f.specs.Tables.{constants}
use Rattle.keccak_f.proofs.Chunks.{chunk_at, in_chunk}
use Rattle.keccak_f.proofs.Rounds.{rounds_none, rounds_more}
use Rattle.keccak_f.proofs.permutation.keccak_f.Goals as goal

pub loop-first-init : goal.loop-first-init
loop-first-init c = sym (rounds_none _)

pub loop-first-preserved : goal.loop-first-preserved
loop-first-preserved c =
    let i = c.loop-first.first-index in
    let n = 2 * i in
    let pair = chunk_at 2 12 i constants (omega arith) in
    let one = in_chunk 2 i 0 n constants (get_or (first_chunks 2 12 constants) i []) pair (omega arith) (omega arith) in
    let two = in_chunk 2 i 1 (n + 1) constants (get_or (first_chunks 2 12 constants) i []) pair (omega arith) (omega arith) in
    let first = rounds_more n c.args.state.now in
    let second = rounds_more (n + 1) c.args.state.now in
    let after : n + 1 + 1 ≡ 2 * (i + 1) = omega arith in
    cc
