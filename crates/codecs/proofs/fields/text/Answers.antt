use Rattle.std.proofs.Common.{is_ok, sym, ap, ◌∙◌}
use Rattle.step.proofs.Texts.{made_content, made_is_ok}
use Rattle.codecs.proofs.fields.text.Goals as goal

pub unwrap-requires : goal.unwrap-requires
unwrap-requires c = ap is_ok c.new.ensures ∙ made_is_ok c.args.bytes.now c.requires

pub returns : goal.returns
returns c = made_content c.args.bytes.now c.unwrap.result (sym c.new.ensures ∙ c.unwrap.ensures)
