use Rattle.std.proofs.Common.{sym, ◌∙◌}
use Rattle.digits.specs.Digits.{number}
use Rattle.challenger.specs.Packing.{length_packed}
use Rattle.challenger.proofs.word_unit.WordUnit.word_count.Goals as goal

pub returns : goal.returns
returns c = c.div_ceil.ensures ∙ sym (length_packed 3 number c.args.bytes.now)
