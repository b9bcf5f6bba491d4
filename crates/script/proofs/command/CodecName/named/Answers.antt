use Rattle.std.proofs.Common.{◌≡◌, rules, ap, ◌∙◌}
use Rattle.script.specs.Named.{codec_named}
use Rattle.script.proofs.Unnamed.{no_codec, no_codec_bytes}
use Rattle.script.proofs.command.CodecName.named.Goals as goal

pub returns-in_err-ok : goal.returns-in_err-ok
returns-in_err-ok c = search (rules, no_codec_bytes)

pub returns-in_default : goal.returns-in_default
returns-in_default c =
    let same : c.in_ok-ok.field-0.now ≡ c.args.word.now = search rules in
    no_codec c.in_ok-ok.field-0.now c.in_default.not-BabyBear c.in_default.not-Goldilocks c.in_default.not-GoldilocksShort ∙ ap codec_named same
