use Rattle.step.proofs.Sames.{hierarchy_tells, kind_tells, length_tells, code_tells, text_tells, tag_tells, alike_decides, alike_is, hierarchy_is, kind_is, length_is, text_is, tag_is}
use Rattle.std.proofs.lemmas.Bool.Decides.{Decides-at}
use Rattle.step.proofs.laws.equalities_tell.Goals as goal

pub returns : goal.returns
returns c = record {
  hierarchies = hierarchy_tells;
  kinds = kind_tells;
  lengths = length_tells;
  codes = code_tells;
  texts = text_tells;
  tags = tag_tells;
  steps = λ a b. Decides-at _ _ (alike_is a b) (alike_decides a b);
  same_hierarchies = hierarchy_is;
  same_kinds = kind_is;
  same_lengths = length_is;
  same_texts = text_is;
  same_tags = tag_is;
  same_steps = alike_is;
}
