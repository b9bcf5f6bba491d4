use Rattle.codecs.specs.Fields.{baby_bear}
use Rattle.step.proofs.Texts.{same_content}
use Rattle.codecs.proofs.fields.BabyBearField.identity.Goals as goal

pub returns : goal.returns
returns c = same_content c.text.result baby_bear c.text.ensures
