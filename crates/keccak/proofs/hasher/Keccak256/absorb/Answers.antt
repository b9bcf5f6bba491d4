-- The bytes fit into the block that is begun, or fill it: then whole blocks go in, and a new one is begun.
use Rattle.std.proofs.Common.{◌-◌, ◌++◌, length, take, ap, ◌∙◌, ap₂, arith, rules}
use Rattle.std.proofs.lemmas.List.{take_at, take-append-drop}
use Rattle.keccak.specs.Blocks.{fed}
use Rattle.keccak.proofs.Blocks.{view_of}
use Rattle.keccak.proofs.Parts.{absorbed_more, part_fits, part_fills}
use Rattle.keccak.proofs.hasher.Keccak256.absorb.Goals as goal

pub returns-in_default : goal.returns-in_default
returns-in_default c =
    let e =
    part_fits c.args.self.now.state c.args.self.now.block c.args.bytes.now c.args.self.now.filled (omega arith) (omega arith) _ c.copy_from_slice.ensures.after in
    record { view = e; absorbed = λ m h. absorbed_more _ _ c.args.bytes.now m e h }

pub returns : goal.returns
returns c =
    let a = c.args.self.now.state in
    let block = c.args.self.now.block in
    let n = c.args.self.now.filled in
    let cut = c.in-Some in
    let front = cut.first.now in
    let back = cut.others.now in
    let rest = c.copy_from_slice-3.ensures.after in
    let e =
    view_of (fed c.absorb_block.new.state back) _ _ c.absorb_blocks-rest.ensures.state (take_at _ _ _ (ap length rest) ∙ rest ∙ c.absorb_blocks-rest.ensures.rest)
    ∙ ap (λ s. fed s back) c.absorb_block.ensures
    ∙ part_fills a block front back n c.args.self.now.room (search rules) (search rules) _ c.copy_from_slice-2.ensures.after
    ∙ ap (λ bs. fed a (take n block ++ bs)) (ap₂ ◌++◌ cut.ensures.cases.1 cut.ensures.cases.2 ∙ take-append-drop (136 - n) c.args.bytes.now) in
    record { view = e; absorbed = λ m h. absorbed_more _ _ c.args.bytes.now m e h }
