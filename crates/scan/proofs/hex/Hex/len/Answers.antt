use Rattle.std.proofs.Common.{arith}
use Rattle.scan.proofs.Pairs.{length_meant}
use Rattle.scan.proofs.hex.Hex.len.Goals as goal

pub returns : goal.returns
returns c = omega (arith, length_meant c.args.self.now.digits.now)
