-- The byte fits into the block that is begun, or fills it: then the block goes in.
use Rattle.std.proofs.Common.{[], ◌∷◌, ◌∙◌, arith, rules}
use Rattle.keccak.proofs.Blocks.{begun_none}
use Rattle.keccak.proofs.Parts.{absorbed_more, byte_fits, byte_fills}
use Rattle.keccak.proofs.hasher.Keccak256.absorb_byte.Goals as goal

pub returns-then-self-lt135 : goal.returns-then-self-lt135
returns-then-self-lt135 c =
    let e =
    byte_fits c.args.self.now.state c.args.self.now.block c.args.self.now.filled c.args.byte c.if-self-lt135.true (search rules) in
    record { view = e; absorbed = λ m h. absorbed_more _ _ (c.args.byte ∷ []) m e h }

pub returns : goal.returns
returns c =
    let e =
    begun_none c.absorb_block.ensures
    ∙ byte_fills c.args.self.now.state c.args.self.now.block c.args.self.now.filled c.args.byte (omega arith) (search rules) in
    record { view = e; absorbed = λ m h. absorbed_more _ _ (c.args.byte ∷ []) m e h }
