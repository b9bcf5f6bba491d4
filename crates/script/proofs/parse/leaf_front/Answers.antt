use Rattle.scan.specs.Words.{left}
use Rattle.script.proofs.Unnamed.{no_query}
use Rattle.script.proofs.parse.leaf_front.Goals as goal

pub returns-in_default : goal.returns-in_default
returns-in_default c =
    let w = c.in_default in
    no_query c.args.name.now (left c.args.words.now) w.not-width w.not-text w.not-text-2
    w.not-keccak w.not-items w.not-encode w.not-decode w.not-bits w.not-tag
