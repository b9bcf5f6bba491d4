use Rattle.std.proofs.Common.{rules, ap}
use Rattle.std.specs.Option.{option_map}
use Rattle.scan.specs.Words.{left}
use Rattle.script.specs.Language.{leaf}
use Rattle.script.proofs.Unnamed.{no_query_bytes}
use Rattle.script.proofs.parse.command.Goals as goal

pub returns-in_err-name : goal.returns-in_err-name
returns-in_err-name c =
    search (rules, ap (option_map leaf) (no_query_bytes c.args.name.now (search rules) (left c.args.words)))
