-- One test over the 24 rounds.
use Rattle.std.proofs.Common.{eqb, get_or, eqb→eq}
use Rattle.keccak_f.specs.Tables.{constants, constant}
use Rattle.keccak_f.proofs.Table.{at}
use Rattle.keccak_f.proofs.laws.round_constants_follow_the_register.Goals as goal

pub returns : goal.returns
returns c = λ i h. eqb→eq _ _ (at (λ k. eqb (get_or constants k 0) (constant k)) 24 tt i h)
