use Rattle.std.proofs.Common.{◌≡◌, rules, ap, ◌∙◌}
use Rattle.script.specs.Named.{unit_named}
use Rattle.script.proofs.Unnamed.{no_unit, no_unit_bytes}
use Rattle.script.proofs.command.UnitName.named.Goals as goal

pub returns-in_err-ok : goal.returns-in_err-ok
returns-in_err-ok c = search (rules, no_unit_bytes)

pub returns-in_default : goal.returns-in_default
returns-in_default c =
    let same : c.in_ok-ok.field-0.now ≡ c.args.word.now = search rules in
    no_unit c.in_ok-ok.field-0.now c.in_default.not-byte c.in_default.not-word ∙ ap unit_named same
