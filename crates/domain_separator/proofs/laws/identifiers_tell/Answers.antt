use Rattle.domain_separator.proofs.Telling.{identifiers}
use Rattle.domain_separator.proofs.laws.identifiers_tell.Goals as goal

pub returns : goal.returns
returns c = identifiers
