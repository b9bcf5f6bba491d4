use Rattle.domain_separator.proofs.Telling.{seeds}
use Rattle.domain_separator.proofs.laws.seeds_tell.Goals as goal

pub returns : goal.returns
returns c = seeds
