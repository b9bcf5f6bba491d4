use Rattle.std.proofs.Common.{rules}
use Rattle.scan.proofs.Cuts.{place_is}
use Rattle.scan.proofs.lines.first_of.Goals as goal

pub returns-clause-value : goal.returns-clause-value
returns-clause-value c =
    place_is c.args.b c.args.bytes.now _ (search rules) (search rules) (search rules)
