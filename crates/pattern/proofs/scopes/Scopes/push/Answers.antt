use Rattle.std.proofs.Common.{arith}
use Rattle.pattern.proofs.Stacks.{held_push}
use Rattle.pattern.proofs.scopes.Scopes.push.Goals as goal

pub returns : goal.returns
returns c = held_push c.args.self.now.at c.args.self.now.depth c.args.position (omega arith)
