use Rattle.codecs.specs.Fields.{goldilocks}
use Rattle.step.proofs.Texts.{same_content}
use Rattle.codecs.proofs.fields.GoldilocksField.identity.Goals as goal

pub returns : goal.returns
returns c = same_content c.text.result goldilocks c.text.ensures
