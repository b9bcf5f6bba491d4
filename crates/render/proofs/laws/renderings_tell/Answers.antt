use Rattle.render.proofs.Telling.{renderings}
use Rattle.render.proofs.laws.renderings_tell.Goals as goal

pub returns : goal.returns
returns c = renderings
